use Rattle.pl_reduce.proofs.PlanNodes.{AreNodesUpTo}
use Rattle.pl_reduce.proofs.parents.edge_nodes.Given as goal

abbrev pub invariant-loop-i : goal.invariant-loop-i
invariant-loop-i l = AreNodesUpTo l.plan l.nodes.items l.i
