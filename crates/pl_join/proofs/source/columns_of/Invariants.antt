use Rattle.std.proofs.Common.{◌≡◌, ◌<◌, ℕ, length, map, take, All}
use Rattle.pl_join.specs.Source.{picked}
use Rattle.pl_join.proofs.source.columns_of.Given as goal

abbrev pub invariant-loop-class : goal.invariant-loop-class
invariant-loop-class l = record {
  len : length l.columns.items ≡ l.class-index;
  within : All (λ column. column < length l.classes) l.columns.items;
  values : (f : ℕ → ℕ) → picked l.columns.items (map f l.classes) ≡ map f (take l.class-index l.wanted);
}
