use Rattle.std.proofs.Common.{length, ap, arith}
use Rattle.pl_reduce.proofs.PlanNodes.{parent_node, parents_more, parents_all}
use Rattle.pl_reduce.proofs.parents.parent_nodes.Goals as goal

pub loop-ear-preserved : goal.loop-ear-preserved
loop-ear-preserved c =
    parents_more c.args.plan.now c.loop-ear.parents.items c.push-in-loop-ear.new.self.items
    c.loop-ear.ear-index c.index.result.now
    (parent_node c.args.plan.now c.removed-ears.result.now c.in_ok-node_of.node_of.items c.loop-ear.ear-index
    c.index.result.now c.removed-ears.ensures.walkable c.removed-ears.ensures.removed c.loop-ear-test.true
    c.in_ok-node_of.ensures.length c.in_ok-node_of.ensures.nodes c.index.ensures)
    c.in_ok-push-2.ensures.items c.loop-ear.invariant

pub returns : goal.returns
returns c =
    let long = ap length c.removed-ears.ensures.removed in
    parents_all c.args.plan.now c.loop-ear.parents.items c.loop-ear.ear-index
    (omega arith) c.loop-ear.invariant
