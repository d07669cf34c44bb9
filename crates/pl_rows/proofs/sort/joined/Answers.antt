use Rattle.std.proofs.Common.{arith}
use Rattle.pl_rows.proofs.Sorting.{joined_more, joined_whole}
use Rattle.pl_rows.proofs.sort.joined.Goals as goal

pub loop-row-preserved : goal.loop-row-preserved
loop-row-preserved c = record {
  whole = rw c.in_ok-extend_from_slice.ensures.items (joined_whole _ _ _ _ _ (omega arith) c.requires
      c.loop-row.invariant.whole);
  rows = rw c.in_ok-extend_from_slice.ensures.items
      (joined_more _ _ _ _ _ (omega arith) c.requires c.loop-row.invariant.whole c.loop-row.invariant.rows);
}
