use Rattle.pl_check.proofs.KnownLemmas.{AreDeclared}
use Rattle.pl_check.proofs.known.collect_predicates.Given as goal

abbrev pub invariant-loop-form : goal.invariant-loop-form
invariant-loop-form l = AreDeclared l.text l.forms l.names.items l.arities.items l.form-index
