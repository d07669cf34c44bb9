use Rattle.pl_hyper.proofs.Searches.{AreSeen}
use Rattle.pl_hyper.proofs.sharing.shared_classes.Given as goal

abbrev pub invariant-loop-e : goal.invariant-loop-e
invariant-loop-e l = AreSeen l.edges l.remaining l.e-index l.once l.twice
