use Rattle.pl_hyper.proofs.Holding.{AreAdded}
use Rattle.pl_hyper.proofs.holders.add_edge.Given as goal

abbrev pub invariant-loop-left : goal.invariant-loop-left
invariant-loop-left l = AreAdded l.fn.words l.words l.block l.place l.classes l.left

abbrev pub decreases-loop-left : goal.decreases-loop-left
decreases-loop-left l = l.left
