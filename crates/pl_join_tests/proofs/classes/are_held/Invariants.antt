use Rattle.std.proofs.Common.{All, Contains, take}
use Rattle.pl_join_tests.proofs.classes.are_held.Given as goal

abbrev pub invariant-loop-class : goal.invariant-loop-class
invariant-loop-class l = All (Contains l.classes) (take l.class-index l.wanted)
