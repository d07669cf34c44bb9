use Rattle.std.proofs.Common.{◌≡◌, ℕ, length, map, take, All}
use Rattle.pl_join.specs.Source.{IsWithin, looked_at}
use Rattle.pl_join.proofs.source.class_sources.Given as goal

abbrev pub invariant-loop-class : goal.invariant-loop-class
invariant-loop-class l = record {
  len : length l.sources.items ≡ l.class-index;
  within : All (IsWithin (length l.classes)) l.sources.items;
  values : (f : ℕ → ℕ) → looked_at l.sources.items (map f l.classes) ≡ map f (take l.class-index l.wanted);
}
