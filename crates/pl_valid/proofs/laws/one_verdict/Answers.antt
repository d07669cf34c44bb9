use Rattle.pl_valid.proofs.RunLemmas.{verdict_is_one}
use Rattle.pl_valid.proofs.laws.one_verdict.Goals as goal

pub returns : goal.returns
returns c = verdict_is_one c.args._task.now
