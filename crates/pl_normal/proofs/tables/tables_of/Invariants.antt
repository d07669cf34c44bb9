use Rattle.std.proofs.Common.{◌≡◌, ◌<◌, ◌++◌, ℕ, length, get_or, Option}
use Rattle.pl_rows.specs.Rows.{Rows}
use Rattle.pl_normal.specs.Tables.{IsStatic}
use Rattle.pl_normal.proofs.tables.tables_of.Given as goal

abbrev pub invariant-loop-builder : goal.invariant-loop-builder
invariant-loop-builder l = record {
  all : l.yielded ++ l.builder-iterator.rest.items ≡ l.fn.builders.items;
  many : length l.tables.items ≡ length l.yielded;
  each : (q : ℕ) (d : Option Rows) → q < length l.tables.items
      → IsStatic l.task q (get_or l.tables.items q d);
}
