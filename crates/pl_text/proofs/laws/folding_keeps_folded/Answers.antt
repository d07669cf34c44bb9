use Rattle.pl_text.proofs.WordLaws.{folded-folded}
use Rattle.pl_text.proofs.laws.folding_keeps_folded.Goals as goal

pub returns : goal.returns
returns c = folded-folded
