use Rattle.std.proofs.Common.{◌≡◌, ◌++◌, take}
use Rattle.std.specs.List.{flat_map}
use Rattle.pl_normal.specs.Guards.{type_guards, literal_guard}
use Rattle.pl_normal.proofs.guards.guards.Given as goal

abbrev pub invariant-loop-literal : goal.invariant-loop-literal
invariant-loop-literal l = l.guards.items ≡ type_guards l.task l.parameters l.slots
    ++ flat_map (literal_guard l.task l.slots) (take l.literal-index l.condition)
