use Rattle.pl_hyper.proofs.Rising.{classes_of-rising}
use Rattle.pl_hyper.proofs.laws.one_rising_list_for_an_edge.Goals as goal

pub returns : goal.returns
returns c = classes_of-rising
