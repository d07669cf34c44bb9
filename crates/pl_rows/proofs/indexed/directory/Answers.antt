use Rattle.std.proofs.Common.{arith}
use Rattle.pl_rows.proofs.Directory.{directory_more, directory_idle}
use Rattle.pl_rows.proofs.indexed.directory.Goals as goal
use Rattle.pl_rows.proofs.indexed.directory.Goals.{then-limit-gt0+in_ok-extend, else-limit-gt0}

pub loop-i-preserved : goal.loop-i-preserved
loop-i-preserved g c = elim c.if-limit-gt0.branch [
  | then-limit-gt0+in_ok-extend w ↦ record {
    cost = omega arith;
    up_to = rw (w.starts-is, w.in_ok-extend.ensures, w.min.ensures)
        (directory_more c.args.table.now.arity _ _ _ _ _ (c.requires w.if-limit-gt0.true).0
        c.len-count.ensures.rows c.row-row.ensures.row c.loop-i.invariant.up_to);
  }
  | else-limit-gt0 w ↦ record {
    cost = omega arith;
    up_to = rw w.starts-is (directory_idle _ _ _ _ w.if-limit-gt0.false c.loop-i.invariant.up_to);
  }
]
