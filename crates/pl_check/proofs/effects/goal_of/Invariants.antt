use Rattle.std.proofs.Common.{◌≡◌, ◌++◌}
use Rattle.std.specs.List.{filter_map}
use Rattle.pl_check.specs.Literals.{wanted}
use Rattle.pl_check.proofs.effects.goal_of.Given as goal

-- what the literals so far want
abbrev pub invariant-loop-literal : goal.invariant-loop-literal
invariant-loop-literal l =
    (l.goal.items ≡ filter_map wanted l.yielded) ×
    (l.yielded ++ l.literal-iterator.rest.items ≡ l.fn.literals.items)
