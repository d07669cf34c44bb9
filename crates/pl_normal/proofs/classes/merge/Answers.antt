use Rattle.std.proofs.Common.{arith}
use Rattle.pl_normal.proofs.Loops.{renamed_more}
use Rattle.pl_normal.proofs.classes.merge.Goals as goal

pub loop-k-preserved : goal.loop-k-preserved
loop-k-preserved c =
    renamed_more _ _ c.args.classes.now c.loop-k.classes c.loop-k.k c.rename.result
    (omega arith) c.loop-k.auto.classes c.loop-k.invariant c.rename.ensures
