use Rattle.std.proofs.Common.{List, ℕ}
use Rattle.pl_hyper.specs.Holders.{AreHolders, AreSharedBut}
use Rattle.pl_hyper.proofs.sharing.still_shared.Given as goal

-- what is still to be asked about is as good as what was
abbrev pub invariant-loop-left : goal.invariant-loop-left
invariant-loop-left l = (edges remaining : List ℕ) →
    AreHolders edges remaining l.holders.words.items l.holders.present.items →
    AreSharedBut edges remaining l.holder l.asked l.shared →
    AreSharedBut edges remaining l.holder l.left l.still

abbrev pub decreases-loop-left : goal.decreases-loop-left
decreases-loop-left l = l.left
