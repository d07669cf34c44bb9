use Rattle.pl_normal.proofs.Listing.{step_order_total, steps_tie_nowhere, listed_is_step, step_is_listed}
use Rattle.pl_normal.proofs.Listing.{all_steps_ascend, applicable_listed, applicable_ascend}
use Rattle.pl_normal.proofs.laws.steps_are_listed_in_order.Goals as goal

pub returns : goal.returns
returns c = record {
  total = step_order_total c.args._task.now;
  ties = λ a b p q h. steps_tie_nowhere c.args._task.now a b p q h;
  steps = λ step. (listed_is_step c.args._task.now step, step_is_listed c.args._task.now step);
  ascend = all_steps_ascend c.args._task.now;
  applicable = λ s step. applicable_listed c.args._task.now s step;
  applicable_ascend = λ s. applicable_ascend c.args._task.now s;
}
