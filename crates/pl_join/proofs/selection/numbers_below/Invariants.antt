use Rattle.pl_join.specs.Source.{AreNumbersBelow}
use Rattle.pl_join.proofs.selection.numbers_below.Given as goal

abbrev pub invariant-loop-number : goal.invariant-loop-number
invariant-loop-number l = AreNumbersBelow l.number l.numbers.items
