use Rattle.pl_task.proofs.TypeLemmas.{is_of_type-decides, is_applicable-decides, applicable_step}
use Rattle.pl_task.proofs.laws.tests_decide.Goals as goal

pub returns : goal.returns
returns c = record {
  types = is_of_type-decides c.args._task.now;
  steps = is_applicable-decides c.args._task.now;
  are_steps = applicable_step c.args._task.now;
}
