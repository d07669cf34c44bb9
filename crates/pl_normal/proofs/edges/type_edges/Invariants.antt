use Rattle.std.proofs.Common.{◌≡◌}
use Rattle.std.specs.List.{flat_map, range_with_len}
use Rattle.pl_normal.specs.Slots.{slot_at}
use Rattle.pl_normal.specs.Edges.{type_edge}
use Rattle.pl_normal.proofs.edges.type_edges.Given as goal

abbrev pub invariant-loop-p : goal.invariant-loop-p
invariant-loop-p l = l.edges.items ≡ flat_map (λ p. type_edge p (slot_at l.slots p)) (range_with_len 0 l.p)
