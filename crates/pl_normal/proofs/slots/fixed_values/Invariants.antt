use Rattle.std.proofs.Common.{◌≡◌, map, take}
use Rattle.pl_normal.specs.Slots.{fixed_value}
use Rattle.pl_normal.proofs.slots.fixed_values.Given as goal

abbrev pub invariant-loop-slot : goal.invariant-loop-slot
invariant-loop-slot l = l.values.items ≡ map fixed_value (take l.slot-index l.slots)
