use Rattle.pl_text.proofs.TreePlaceLaws.{AreTreesOf-lie}
use Rattle.pl_text.proofs.laws.trees_are_placed.Goals as goal

pub returns : goal.returns
returns c = AreTreesOf-lie
