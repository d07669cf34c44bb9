use Rattle.pl_task.proofs.TypeLemmas.{is_applicable-decides}
use Rattle.pl_normal.specs.Query.{step_under}
use Rattle.pl_normal.proofs.Answering.{answer_applicable, applicable_answer, applicable_under}
use Rattle.pl_normal.proofs.laws.answers_are_applicable.Goals as goal

pub returns : goal.returns
returns c = record {
  answers = λ number schema s f at keeps. (
    (λ h. (is_applicable-decides c.args._task.now s (step_under number schema f)).0
        (answer_applicable c.args._task.now number schema s f at keeps h)),
    (λ h. applicable_answer c.args._task.now number schema s f at keeps
        ((is_applicable-decides c.args._task.now s (step_under number schema f)).1 h)),
  );
  steps = λ schema s step at h. applicable_under c.args._task.now schema s step at
      ((is_applicable-decides c.args._task.now s step).1 h);
}
