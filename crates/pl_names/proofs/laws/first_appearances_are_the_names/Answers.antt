use Rattle.pl_names.proofs.Firsts.{firsts_are_names}
use Rattle.pl_names.proofs.laws.first_appearances_are_the_names.Goals as goal

pub returns : goal.returns
returns c = firsts_are_names
