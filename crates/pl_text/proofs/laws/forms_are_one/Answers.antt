use Rattle.pl_text.proofs.FormsOneLaws.{forms-only}
use Rattle.pl_text.proofs.laws.forms_are_one.Goals as goal

pub returns : goal.returns
returns c = forms-only
