use Rattle.std.proofs.Common.{◌≡◌, take, map}
use Rattle.pl_task.specs.States.{value_of}
use Rattle.pl_state.proofs.effect.has_objects.Given as goal

abbrev pub invariant-loop-i : goal.invariant-loop-i
invariant-loop-i l = take l.i l.row ≡ map (value_of l.args) (take l.i l.terms)
