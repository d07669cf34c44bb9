use Rattle.pl_rows.proofs.pairs.ranges_of_pairs.Goals as goal
use Rattle.pl_rows.proofs.pairs.ranges_of_pairs.Goals.{then-end-i+in_ok-end, else-end-i}

pub loop-i-preserved : goal.loop-i-preserved
loop-i-preserved c = elim c.if-end-i.branch [
  | then-end-i+in_ok-end w ↦ rw w.pairs-is w.in_ok-end.ensures
  | else-end-i w ↦ rw w.pairs-is c.loop-i.invariant
]
