use Rattle.pl_reduce.proofs.EdgeSets.{union_more, union_all}
use Rattle.pl_reduce.proofs.fitting.held_by.Goals as goal

pub loop-edge-preserved : goal.loop-edge-preserved
loop-edge-preserved c = union_more c.args.edges.now c.args.some.now c.loop-edge.edge-index c.loop-edge.held
    c.loop-edge-test.true c.loop-edge.invariant

pub returns : goal.returns
returns c = union_all c.args.edges.now c.args.some.now c.loop-edge.edge-index c.loop-edge.held
    c.loop-edge-test.false c.loop-edge.invariant
