use Rattle.pl_check.proofs.PlanLineLemmas.{lines_one}
use Rattle.pl_check.proofs.laws.lines_are_one.Goals as goal

pub returns : goal.returns
returns c = lines_one
