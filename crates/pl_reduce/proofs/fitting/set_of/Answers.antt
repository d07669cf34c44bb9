use Rattle.pl_reduce.proofs.EdgeSets.{set_more, set_all}
use Rattle.pl_reduce.proofs.fitting.set_of.Goals as goal

pub loop-class-preserved : goal.loop-class-preserved
loop-class-preserved c =
    set_more c.args.classes.now c.loop-class.class-index c.loop-class.set c.loop-class-test.true
    (c.requires c.loop-class.class-index 0 c.loop-class-test.true) c.loop-class.invariant

pub returns : goal.returns
returns c = set_all c.args.classes.now c.loop-class.class-index c.loop-class.set c.loop-class-test.false
    c.loop-class.invariant
