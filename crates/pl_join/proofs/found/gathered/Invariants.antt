use Rattle.std.proofs.Common.{◌≡◌, take}
use Rattle.pl_join.specs.Found.{rows_in}
use Rattle.pl_join.proofs.found.gathered.Given as goal

abbrev pub invariant-loop-range : goal.invariant-loop-range
invariant-loop-range l = record {
  arity : l.found.arity ≡ l.table.arity;
  rows : l.found.rows ≡ rows_in l.table.rows (take l.range-index l.ranges);
}
