use Rattle.std.proofs.Common.{All, take}
use Rattle.pl_join.specs.Relation.{IsSlotOver}
use Rattle.pl_join_tests.proofs.classes.are_over.Given as goal

abbrev pub invariant-loop-slot : goal.invariant-loop-slot
invariant-loop-slot l = All (IsSlotOver l.classes) (take l.slot-index l.slots)
