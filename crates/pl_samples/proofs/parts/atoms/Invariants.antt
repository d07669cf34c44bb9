use Rattle.pl_samples.proofs.Cases.{IsMade}
use Rattle.pl_samples.proofs.parts.atoms.Given as goal

abbrev pub invariant-loop-predicate : goal.invariant-loop-predicate
invariant-loop-predicate l = IsMade l.task l.cases l.predicate-index l.made.items
