use Rattle.pl_check.proofs.FirstLemmas.{first-one}
use Rattle.pl_check.proofs.laws.first_fault_is_one.Goals as goal

pub returns : goal.returns
returns c = first-one c.fault_is_one.ensures
