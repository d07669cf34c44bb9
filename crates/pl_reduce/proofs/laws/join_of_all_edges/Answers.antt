use Rattle.pl_reduce.proofs.PlanLaws.{edges_join}
use Rattle.pl_reduce.proofs.laws.join_of_all_edges.Goals as goal

pub returns : goal.returns
returns c = edges_join
