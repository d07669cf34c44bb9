use Rattle.std.proofs.Common.{◌≡◌, ◌+◌, ◌*◌, ◌≤◌, length, map, filter, take}
use Rattle.pl_rows.specs.Rows.{rows_of}
use Rattle.pl_join.specs.Source.{picked, passes_all}
use Rattle.pl_join.proofs.selection.passing_rows.Given as goal

abbrev pub invariant-loop-i : goal.invariant-loop-i
invariant-loop-i g l = record {
  few : l.count ≤ l.i;
  whole : length l.flat.items ≡ length l.columns * l.count;
  rows : rows_of (length l.columns) l.count l.flat.items ≡ map (picked l.columns)
      (filter (passes_all l.tests) (take l.i l.table.rows));
  cost : l.steps ≡ l.initial.steps + l.i;
}
