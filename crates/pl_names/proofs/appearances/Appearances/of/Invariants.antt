use Rattle.pl_names.specs.Names.{texts}
use Rattle.pl_names.proofs.Firsts.{AreNumberedUpTo}
use Rattle.pl_names.proofs.appearances.Appearances.of.Given as goal

abbrev pub invariant-loop-i : goal.invariant-loop-i
invariant-loop-i l = AreNumberedUpTo (texts l.name-items) l.i (texts l.names.items) l.numbers.items
