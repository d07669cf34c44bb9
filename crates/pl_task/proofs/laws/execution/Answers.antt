use Rattle.pl_task.proofs.StateLemmas.{one_end, executes_parts, executes_joined}
use Rattle.pl_task.proofs.laws.execution.Goals as goal

pub returns : goal.returns
returns c = record {
  one_end = one_end c.args._task.now;
  parts = λ s after first rest. (
    executes_parts c.args._task.now s after first rest,
    (λ (middle, p, q). executes_joined c.args._task.now s middle after first rest p q),
  );
}
