use Rattle.std.proofs.Common.{◌≡◌, map, take}
use Rattle.pl_normal.specs.Slots.{slot_of}
use Rattle.pl_normal.proofs.slots.slots_of.Given as goal

abbrev pub invariant-loop-term : goal.invariant-loop-term
invariant-loop-term l = l.made.items ≡ map (slot_of l.slots) (take l.term-index l.terms)
