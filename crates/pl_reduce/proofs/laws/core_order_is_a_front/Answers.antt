use Rattle.pl_reduce.proofs.PlanLaws.{core_front}
use Rattle.pl_reduce.proofs.laws.core_order_is_a_front.Goals as goal

pub returns : goal.returns
returns c = core_front
