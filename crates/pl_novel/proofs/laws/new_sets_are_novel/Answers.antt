use Rattle.pl_novel.proofs.Seeing.{new_sets_novel}
use Rattle.pl_novel.proofs.laws.new_sets_are_novel.Goals as goal

pub returns : goal.returns
returns c = record { novel = new_sets_novel c.args._task.now }
