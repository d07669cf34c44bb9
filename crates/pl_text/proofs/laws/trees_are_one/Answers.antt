use Rattle.pl_text.proofs.TreePlaceLaws.{AreTreesOf-one}
use Rattle.pl_text.proofs.laws.trees_are_one.Goals as goal

pub returns : goal.returns
returns c = AreTreesOf-one
