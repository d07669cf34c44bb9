use Rattle.pl_reduce.proofs.PlanNodes.{AreParentsUpTo}
use Rattle.pl_reduce.proofs.parents.parent_nodes.Given as goal

abbrev pub invariant-loop-ear : goal.invariant-loop-ear
invariant-loop-ear l = AreParentsUpTo l.plan l.parents.items l.ear-index
