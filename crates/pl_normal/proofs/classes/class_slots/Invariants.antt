use Rattle.std.proofs.Common.{◌≡◌, map, take}
use Rattle.pl_normal.specs.Classes.{object_of}
use Rattle.pl_normal.specs.Slots.{class_slot}
use Rattle.pl_normal.proofs.classes.class_slots.Given as goal

abbrev pub invariant-loop-class : goal.invariant-loop-class
invariant-loop-class l = l.slots.items ≡ map (λ class. class_slot (object_of l.classes l.fixings class) class)
    (take l.class-index l.classes)
