-- The slots of the parameters of a schema: a parameter stands for its class, or for the object that its class
-- is fixed to.
use Rattle.std.specs.Prelude.{ℕ, ◌^◌, Bool, true, false, List, Option, Some, None, map, bit_or}
use Rattle.std.specs.List.{fold, list_all}
use Rattle.std.proofs.Common.{get_or}
use Rattle.pl_task.specs.declared.data.Schema.{Schema}
use Rattle.pl_task.specs.declared.data.Term.{Term}
use Rattle.pl_task.specs.declared.data.Term.TheVariants as term
use Rattle.pl_join.specs.declared.slot.Slot.{Slot}
use Rattle.pl_join.specs.declared.slot.Slot.TheVariants.{Fixed, Class}
use Rattle.pl_normal.specs.Classes.{parameter_classes, object_of, fixings}

-- a class that is not fixed, or the object that it is fixed to
abbrev pub class_slot : Option ℕ → ℕ → Slot
class_slot None class = Class class
class_slot (Some object) class = Fixed object

-- the objects that the classes of the parameters are fixed to, those of equalities to two objects to the
-- first
unfoldable pub fixed_objects : Schema → List (Option ℕ)
fixed_objects schema = map (object_of (parameter_classes schema) (fixings schema.condition))
    (parameter_classes schema)

abbrev pub slot_object : Slot → Option ℕ
slot_object (Fixed object) = Some object
slot_object (Class class) = None

-- the slot of each parameter
unfoldable pub parameter_slots : Schema → List Slot
parameter_slots schema =
    map (λ class. class_slot (object_of (parameter_classes schema) (fixings schema.condition) class) class)
    (parameter_classes schema)

-- the slot of a parameter
abbrev pub slot_at : List Slot → ℕ → Slot
slot_at slots p = get_or slots p (Fixed 0)

-- the slot of a term
abbrev pub slot_of : List Slot → Term → Slot
slot_of slots (term.Parameter p) = slot_at slots p
slot_of slots (term.Object o) = Fixed o

-- the slots of the terms of an atom
abbrev pub slots_of : List Slot → List Term → List Slot
slots_of slots terms = map (slot_of slots) terms

abbrev pub is_fixed : Slot → Bool
is_fixed (Fixed object) = true
is_fixed (Class class) = false

-- no slot is a class
abbrev pub are_fixed : List Slot → Bool
are_fixed slots = list_all is_fixed slots

abbrev pub fixed_value : Slot → ℕ
fixed_value (Fixed object) = object
fixed_value (Class class) = 0

-- a set of classes as a number: bit c is set for class c
abbrev pub class_bit : Slot → ℕ
class_bit (Fixed object) = 0
class_bit (Class class) = 2 ^ class

abbrev pub with_class : ℕ → Slot → ℕ
with_class set slot = bit_or set (class_bit slot)

-- the classes of the slots
abbrev pub class_set : List Slot → ℕ
class_set slots = fold with_class 0 slots
