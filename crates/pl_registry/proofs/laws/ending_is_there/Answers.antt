use Rattle.pl_registry.proofs.SearchLaws.{all_have_ending}
use Rattle.pl_registry.proofs.laws.ending_is_there.Goals as goal

pub returns : goal.returns
returns c = record { there = all_have_ending c.args._task.now c.args._search }
