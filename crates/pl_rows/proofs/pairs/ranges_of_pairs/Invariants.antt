use Rattle.pl_rows.specs.Layout.{AreRangesOfPairs}
use Rattle.pl_rows.proofs.pairs.ranges_of_pairs.Given as goal

abbrev pub invariant-loop-i : goal.invariant-loop-i
invariant-loop-i l = AreRangesOfPairs l.table.rows l.pairs
