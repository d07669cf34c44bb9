use Rattle.pl_hyper.proofs.Holding.{NoneBefore}
use Rattle.pl_hyper.proofs.search.first_parent.Given as goal

abbrev pub invariant-loop-block : goal.invariant-loop-block
invariant-loop-block l = NoneBefore l.holders.words.items l.holders.present.items l.edge l.classes l.block
