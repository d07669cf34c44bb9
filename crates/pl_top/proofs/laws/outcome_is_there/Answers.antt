use Rattle.pl_top.proofs.OutcomeLemmas.{outcome_there}
use Rattle.pl_top.proofs.laws.outcome_is_there.Goals as goal

pub returns : goal.returns
returns c =
    outcome_there c.fault_or_task.ensures.either c.fault_or_lines.ensures.either
    c.fault_or_lines.ensures.not_both c.lines_are_one.ensures
