use Rattle.pl_check.proofs.StatedLemmas.{task-one}
use Rattle.pl_check.proofs.laws.task_is_one.Goals as goal

pub returns : goal.returns
returns c = task-one
