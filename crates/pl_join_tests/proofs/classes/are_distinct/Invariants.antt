use Rattle.std.proofs.Common.{take}
use Rattle.pl_join.specs.Relation.{AreDistinct}
use Rattle.pl_join_tests.proofs.classes.are_distinct.Given as goal

abbrev pub invariant-loop-i : goal.invariant-loop-i
invariant-loop-i l = AreDistinct (take l.i l.classes)
