use Rattle.pl_registry.proofs.SearchLaws.{shortest}
use Rattle.pl_registry.proofs.laws.none_is_shorter.Goals as goal

pub returns : goal.returns
returns c = record { shorter = shortest c.args._task.now }
