use Rattle.pl_registry.proofs.SearchLaws.{endings_one}
use Rattle.pl_registry.proofs.laws.one_ending.Goals as goal

pub returns : goal.returns
returns c = record { one = endings_one c.args._task.now c.args._search c.args._limit }
