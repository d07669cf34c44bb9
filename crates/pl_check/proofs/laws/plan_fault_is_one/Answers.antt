use Rattle.pl_check.proofs.PlanLineLemmas.{plan_fault_one}
use Rattle.pl_check.proofs.laws.plan_fault_is_one.Goals as goal

pub returns : goal.returns
returns c = plan_fault_one c.fault_is_one.ensures
