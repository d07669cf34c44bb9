use Rattle.std.proofs.Common.{◌≡◌, map, take}
use Rattle.pl_normal.specs.Slots.{slot_object}
use Rattle.pl_normal.proofs.classes.slot_objects.Given as goal

abbrev pub invariant-loop-slot : goal.invariant-loop-slot
invariant-loop-slot l = l.objects.items ≡ map slot_object (take l.slot-index l.slots)
