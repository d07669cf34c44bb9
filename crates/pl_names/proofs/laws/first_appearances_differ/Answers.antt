use Rattle.pl_names.proofs.Firsts.{number_of_place}
use Rattle.pl_names.proofs.laws.first_appearances_differ.Goals as goal

pub returns : goal.returns
returns c = number_of_place
