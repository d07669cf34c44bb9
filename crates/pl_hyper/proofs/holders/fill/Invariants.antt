use Rattle.pl_hyper.specs.Holders.{AreFilled}
use Rattle.pl_hyper.proofs.holders.fill.Given as goal

abbrev pub invariant-loop-e : goal.invariant-loop-e
invariant-loop-e l = AreFilled l.edges l.e l.words l.present
