use Rattle.pl_check.proofs.LeastLemmas.{first-least}
use Rattle.pl_check.proofs.laws.first_fault_is_least.Goals as goal

pub returns : goal.returns
returns c = first-least
