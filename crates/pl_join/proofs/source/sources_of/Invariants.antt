use Rattle.std.proofs.Common.{◌≡◌, ℕ, length, map, take, All}
use Rattle.pl_join.specs.Relation.{slot_value}
use Rattle.pl_join.specs.Source.{IsWithin, looked_at}
use Rattle.pl_join.proofs.source.sources_of.Given as goal

abbrev pub invariant-loop-slot : goal.invariant-loop-slot
invariant-loop-slot l = record {
  len : length l.sources.items ≡ l.slot-index;
  within : All (IsWithin (length l.classes)) l.sources.items;
  values : (f : ℕ → ℕ) → looked_at l.sources.items (map f l.classes) ≡ map (slot_value f)
      (take l.slot-index l.slots);
}
