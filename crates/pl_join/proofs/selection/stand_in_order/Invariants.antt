use Rattle.std.proofs.Common.{◌≤◌, length, take}
use Rattle.pl_join.specs.Source.{StandInOrder}
use Rattle.pl_join.proofs.selection.stand_in_order.Given as goal

abbrev pub invariant-loop-class : goal.invariant-loop-class
invariant-loop-class l = record {
  within : l.place ≤ length l.slots;
  past : StandInOrder (take l.class-index l.order) (take l.place l.slots);
}
