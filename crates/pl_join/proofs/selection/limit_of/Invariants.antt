use Rattle.std.proofs.Common.{◌≤◌, take, All}
use Rattle.pl_join.specs.Relation.{IsSlotBelow}
use Rattle.pl_join.proofs.selection.limit_of.Given as goal

abbrev pub invariant-loop-slot : goal.invariant-loop-slot
invariant-loop-slot l = record {
  below : All (IsSlotBelow l.limit) (take l.slot-index l.slots);
  most : l.limit ≤ 64;
}
