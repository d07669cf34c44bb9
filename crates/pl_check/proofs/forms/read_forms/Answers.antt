use Rattle.pl_check.proofs.PlacedLemmas.{forms_short, forms_few}
use Rattle.pl_check.proofs.forms.read_forms.Goals as goal

pub returns-in-Ok-clause-short : goal.returns-in-Ok-clause-short
returns-in-Ok-clause-short c = forms_short _ c.in-Ok.all c.requires c.in-Ok.ensures.lie

pub returns-in-Ok-clause-few : goal.returns-in-Ok-clause-few
returns-in-Ok-clause-few c = forms_few _ c.in-Ok.all c.requires c.in-Ok.ensures.lie
