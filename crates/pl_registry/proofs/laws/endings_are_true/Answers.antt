use Rattle.pl_registry.proofs.SearchLaws.{found_lists, unsolvable_ones, limits}
use Rattle.pl_registry.proofs.laws.endings_are_true.Goals as goal

pub returns : goal.returns
returns c = record {
  found = found_lists c.args._task.now c.args._search;
  unsolvable = unsolvable_ones c.args._task.now c.args._search;
  limit = limits c.args._task.now c.args._search;
}
