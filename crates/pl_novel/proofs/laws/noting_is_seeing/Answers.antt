use Rattle.pl_novel.proofs.Seeing.{noting_seeing, nothing_seen}
use Rattle.pl_novel.proofs.laws.noting_is_seeing.Goals as goal

pub returns : goal.returns
returns c = record {
  seeing = noting_seeing c.args._task.now;
  none = nothing_seen c.args._task.now;
}
