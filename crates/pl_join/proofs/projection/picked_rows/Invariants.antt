use Rattle.std.proofs.Common.{◌≡◌, ◌+◌, ◌*◌, ◌≤◌, length, map, take}
use Rattle.pl_rows.specs.Rows.{rows_of, SameRows}
use Rattle.pl_join.specs.Source.{picked}
use Rattle.pl_join.proofs.projection.picked_rows.Given as goal

abbrev pub invariant-loop-i : goal.invariant-loop-i
invariant-loop-i g l = record {
  few : l.count ≤ l.i;
  whole : length l.flat.items ≡ length l.columns * l.count;
  rows : SameRows (rows_of (length l.columns) l.count l.flat.items)
      (map (picked l.columns) (take l.i l.table.rows));
  cost : l.steps ≡ l.initial.steps + l.i;
}
