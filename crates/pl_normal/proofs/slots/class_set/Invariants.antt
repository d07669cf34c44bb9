use Rattle.std.proofs.Common.{◌≡◌, take}
use Rattle.std.specs.List.{fold}
use Rattle.pl_normal.specs.Slots.{with_class}
use Rattle.pl_normal.proofs.slots.class_set.Given as goal

abbrev pub invariant-loop-slot : goal.invariant-loop-slot
invariant-loop-slot l = l.set ≡ fold with_class 0 (take l.slot-index l.slots)
