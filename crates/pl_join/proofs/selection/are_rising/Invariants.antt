use Rattle.std.proofs.Common.{◌≤◌, take}
use Rattle.pl_join.proofs.Copying.{AreRisingBelow}
use Rattle.pl_join.proofs.selection.are_rising.Given as goal

abbrev pub invariant-loop-slot : goal.invariant-loop-slot
invariant-loop-slot l = record {
  are : AreRisingBelow l.limit (take l.slot-index l.slots);
  most : l.limit ≤ 64;
}
