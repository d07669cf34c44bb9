use Rattle.pl_normal.proofs.Ordered.{parameter_order-is}
use Rattle.pl_normal.proofs.Listing.{steps_are_assignments, steps_compare}
use Rattle.pl_normal.proofs.laws.steps_follow_the_classes.Goals as goal

pub returns : goal.returns
returns c = record {
  one = λ number schema f g at. steps_are_assignments c.args._task.now number schema f g at;
  order = λ number schema f g at. steps_compare c.args._task.now number schema f g at;
  parameters = λ number schema at. parameter_order-is schema;
}
