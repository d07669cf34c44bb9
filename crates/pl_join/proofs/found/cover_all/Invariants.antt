use Rattle.std.proofs.Common.{◌≡◌, length, take}
use Rattle.pl_join.specs.Found.{rows_in}
use Rattle.pl_join.proofs.found.cover_all.Given as goal

abbrev pub invariant-loop-range : goal.invariant-loop-range
invariant-loop-range l = l.count ≡ length (rows_in l.table.rows (take l.range-index l.ranges))
