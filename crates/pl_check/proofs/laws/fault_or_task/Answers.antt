use Rattle.pl_check.proofs.StatedLemmas.{fault-or-task, fault-excludes-task}
use Rattle.pl_check.proofs.laws.fault_or_task.Goals as goal

pub returns-clause-either : goal.returns-clause-either
returns-clause-either c = fault-or-task c.forms_or_fault.ensures

pub returns-clause-not_both : goal.returns-clause-not_both
returns-clause-not_both c = fault-excludes-task
