use Rattle.std.proofs.Common.{◌≡◌}
use Rattle.std.specs.List.{flat_map, range_with_len}
use Rattle.pl_normal.specs.Slots.{slot_at}
use Rattle.pl_normal.specs.Guards.{type_guard, types_at}
use Rattle.pl_normal.proofs.guards.type_guards.Given as goal

abbrev pub invariant-loop-p : goal.invariant-loop-p
invariant-loop-p l = l.guards.items ≡ flat_map
    (λ p. type_guard l.task (types_at l.parameters p) (slot_at l.slots p)) (range_with_len 0 l.p)
