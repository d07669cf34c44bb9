use Rattle.std.proofs.Common.{◌≡◌, ◌+◌, ◌*◌, ◌≤◌, length, filter, take}
use Rattle.pl_rows.specs.Rows.{rows_of}
use Rattle.pl_join.specs.Source.{differ}
use Rattle.pl_join.proofs.filters.unequal_rows.Given as goal

abbrev pub invariant-loop-i : goal.invariant-loop-i
invariant-loop-i g l = record {
  few : l.count ≤ l.i;
  whole : length l.flat.items ≡ l.table.arity * l.count;
  rows : rows_of l.table.arity l.count l.flat.items ≡ filter (differ l.a l.b) (take l.i l.table.rows);
  cost : l.steps ≡ l.initial.steps + l.i;
}
