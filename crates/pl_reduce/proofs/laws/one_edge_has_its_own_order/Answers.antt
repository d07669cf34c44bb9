use Rattle.pl_reduce.proofs.PlanLaws.{one_edge_order}
use Rattle.pl_reduce.proofs.laws.one_edge_has_its_own_order.Goals as goal

pub returns : goal.returns
returns c = one_edge_order
