use Rattle.std.proofs.Common.{◌≡◌, ◌++◌}
use Rattle.std.specs.List.{filter_map}
use Rattle.pl_check.specs.Literals.{added, deleted}
use Rattle.pl_check.proofs.effects.effect_of.Given as goal

-- what the literals so far add and delete
abbrev pub invariant-loop-literal : goal.invariant-loop-literal
invariant-loop-literal l =
    (l.effect.delete.items ≡ filter_map deleted l.yielded) ×
    (l.effect.add.items ≡ filter_map added l.yielded) ×
    (l.yielded ++ l.literal-iterator.rest.items ≡ l.fn.literals.items)
