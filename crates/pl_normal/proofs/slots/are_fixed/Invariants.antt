use Rattle.std.proofs.Common.{◌≡◌, drop}
use Rattle.pl_normal.specs.Slots.{are_fixed}
use Rattle.pl_normal.proofs.slots.are_fixed.Given as goal

abbrev pub invariant-loop-slot : goal.invariant-loop-slot
invariant-loop-slot l = are_fixed l.slots ≡ are_fixed (drop l.slot-index l.slots)
