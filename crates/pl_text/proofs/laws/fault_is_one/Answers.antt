use Rattle.pl_text.proofs.FaultOneLaws.{fault-only}
use Rattle.pl_text.proofs.laws.fault_is_one.Goals as goal

pub returns : goal.returns
returns c = fault-only
