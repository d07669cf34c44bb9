use Rattle.std.proofs.Common.{◌≡◌, ℕ, List, length, take, All}
use Rattle.std.specs.Bool.{Decides}
use Rattle.pl_join.specs.Source.{IsTestOf, passes_all, looked_at, picked}
use Rattle.pl_join.proofs.selection.tests_of.Given as goal

abbrev pub invariant-loop-column : goal.invariant-loop-column
invariant-loop-column l = record {
  within : All (IsTestOf (length l.sources)) l.tests.items;
  tests : (row : List ℕ) → length row ≡ length l.sources
      → Decides (passes_all l.tests.items row)
      (take l.column row ≡ looked_at (take l.column l.sources) (picked l.columns row));
}
