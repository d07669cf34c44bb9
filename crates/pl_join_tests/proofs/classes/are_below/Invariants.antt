use Rattle.std.proofs.Common.{All, take}
use Rattle.pl_join.specs.Relation.{IsSlotBelow}
use Rattle.pl_join_tests.proofs.classes.are_below.Given as goal

abbrev pub invariant-loop-slot : goal.invariant-loop-slot
invariant-loop-slot l = All (IsSlotBelow 64) (take l.slot-index l.slots)
