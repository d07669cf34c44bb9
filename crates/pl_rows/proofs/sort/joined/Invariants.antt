use Rattle.std.proofs.Common.{◌≡◌, ◌*◌, length, map, take}
use Rattle.pl_rows.specs.Rows.{rows_of}
use Rattle.pl_rows.proofs.sort.joined.Given as goal

abbrev pub invariant-loop-row : goal.invariant-loop-row
invariant-loop-row l = record {
  whole : length l.flat.items ≡ l.arity * l.row-index;
  rows : rows_of l.arity l.row-index l.flat.items ≡ map (λ row. row.now) (take l.row-index l.rows);
}
