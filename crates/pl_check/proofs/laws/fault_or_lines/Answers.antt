use Rattle.pl_check.proofs.PlanLineLemmas.{fault_or_lines, lines_none}
use Rattle.pl_check.proofs.laws.fault_or_lines.Goals as goal

pub returns-clause-either : goal.returns-clause-either
returns-clause-either c = fault_or_lines c.forms_or_fault.ensures

pub returns-clause-not_both : goal.returns-clause-not_both
returns-clause-not_both c = lines_none
