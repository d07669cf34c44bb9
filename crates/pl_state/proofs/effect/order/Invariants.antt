use Rattle.std.proofs.Common.{◌≡◌, Bool, drop, map}
use Rattle.pl_rows.specs.Layout.{comes_before}
use Rattle.pl_task.specs.States.{value_of}
use Rattle.pl_state.proofs.effect.order.Given as goal

abbrev pub invariant-loop-i : goal.invariant-loop-i
invariant-loop-i l = (or_equal : Bool) →
    comes_before or_equal (map (value_of l.args) l.second) (map (value_of l.args) l.first)
    ≡ comes_before or_equal (drop l.i (map (value_of l.args) l.second))
    (drop l.i (map (value_of l.args) l.first))
