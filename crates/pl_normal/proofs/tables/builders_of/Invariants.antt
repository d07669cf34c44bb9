use Rattle.std.proofs.Common.{◌≡◌, ◌<◌, ℕ, [], length, get_or, Some, slice_get}
use Rattle.pl_rows.specs.Rows.{Rows}
use Rattle.pl_task.specs.declared.data.PredicateDef.{PredicateDef}
use Rattle.pl_normal.specs.Tables.{gathered}
use Rattle.pl_normal.proofs.tables.builders_of.Given as goal

abbrev pub invariant-loop-p : goal.invariant-loop-p
invariant-loop-p l = record {
  many : length l.builders.items ≡ l.p;
  each : (q : ℕ) (d : PredicateDef) (b : Rows) → q < l.p → slice_get l.predicates q ≡ Some d
      → get_or l.builders.items q b ≡ gathered d q [];
}
