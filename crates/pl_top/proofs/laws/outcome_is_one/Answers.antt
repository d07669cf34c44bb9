use Rattle.pl_top.proofs.OutcomeLemmas.{outcome_one}
use Rattle.pl_top.proofs.laws.outcome_is_one.Goals as goal

pub returns : goal.returns
returns c =
    outcome_one c.first_fault_is_one.ensures c.task_is_one.ensures c.fault_or_task.ensures.not_both
    c.plan_fault_is_one.ensures c.lines_are_one.ensures c.fault_or_lines.ensures.not_both
