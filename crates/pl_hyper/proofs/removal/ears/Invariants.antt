use Rattle.std.proofs.Common.{length}
use Rattle.pl_hyper.specs.Holders.{AreHolders}
use Rattle.pl_hyper.proofs.UnderWay.{IsUnderWay}
use Rattle.pl_hyper.proofs.removal.ears.Given as goal

abbrev pub invariant-loop-place : goal.invariant-loop-place
invariant-loop-place l = IsUnderWay l.edges l.core.items l.removed.items l.shared l.from
    × AreHolders l.edges l.core.items l.holders.words.items l.holders.present.items

abbrev pub decreases-loop-place : goal.decreases-loop-place
decreases-loop-place l = length l.core.items
