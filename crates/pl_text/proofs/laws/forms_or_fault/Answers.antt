use Rattle.pl_text.proofs.ReadsLaws.{forms-or-fault}
use Rattle.pl_text.proofs.laws.forms_or_fault.Goals as goal

pub returns : goal.returns
returns c = λ bytes small. (forms-or-fault bytes small, λ has gives. has.0 gives.0 gives.1.has)
