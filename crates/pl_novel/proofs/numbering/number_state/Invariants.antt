use Rattle.pl_state.specs.StateOf.{state_in}
use Rattle.pl_novel.specs.Keys.{AreStateNumbers}
use Rattle.pl_novel.proofs.numbering.number_state.Given as goal

abbrev pub invariant-loop-predicate : goal.invariant-loop-predicate
invariant-loop-predicate l = AreStateNumbers l.task (state_in l.task l.state) l.predicate l.fn.atoms.keys
    l.atoms.keys l.numbers.items
