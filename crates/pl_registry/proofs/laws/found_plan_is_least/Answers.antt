use Rattle.pl_registry.proofs.SearchLaws.{least, plan_order_total}
use Rattle.pl_registry.proofs.OneLeast.{one_least}
use Rattle.pl_registry.proofs.laws.found_plan_is_least.Goals as goal

pub returns : goal.returns
returns c = record {
  least = least c.args._task.now;
  one = one_least c.args._task.now;
  order =
      plan_order_total c.args._task.now;
}
