use Rattle.pl_state.proofs.Applyings.{IsApplied}
use Rattle.pl_state.proofs.applying.changed_words.Given as goal

abbrev pub invariant-loop-number : goal.invariant-loop-number
invariant-loop-number l = IsApplied l.task l.old l.args l.deletes l.adds l.number l.from l.at l.new.items
