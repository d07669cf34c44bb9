use Rattle.pl_hyper.proofs.Holding.{AreCommon}
use Rattle.pl_hyper.proofs.holders.common_holders.Given as goal

abbrev pub invariant-loop-left : goal.invariant-loop-left
invariant-loop-left l = AreCommon l.words l.holders.present.items l.classes l.block l.found l.left

abbrev pub decreases-loop-left : goal.decreases-loop-left
decreases-loop-left l = l.left
