use Rattle.pl_top.proofs.OptionLemmas.{request_runs}
use Rattle.pl_top.proofs.laws.requests_can_run.Goals as goal

pub returns : goal.returns
returns c = request_runs
