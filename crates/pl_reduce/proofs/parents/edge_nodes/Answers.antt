use Rattle.std.proofs.Common.{length, ap, arith}
use Rattle.pl_reduce.proofs.PlanNodes.{nodes_all}
use Rattle.pl_reduce.proofs.parents.edge_nodes.Goals as goal

pub returns-clause-nodes : goal.returns-clause-nodes
returns-clause-nodes c = λ edge l.
    let long = ap length c.removed-ear-items.ensures.removed in
    nodes_all c.args.plan.now c.loop-i.nodes.items c.loop-i.i edge c.removed-ear-items.ensures.walkable
    (omega arith) c.loop-i.invariant l
