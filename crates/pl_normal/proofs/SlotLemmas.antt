-- The slots of parameters and terms, and the values that they have under an assignment.
use Rattle.std.proofs.Common.{◌≡◌, ℕ, ◌<◌, ◌==◌, Bool, true, false, if◌then◌else◌, List, [], ◌∷◌, length, map}
use Rattle.std.proofs.Common.{get_or, Some, refl, sym, ◌∙◌, ap, arith, inl, inr, Contains, eq-eqb}
use Rattle.std.specs.Prelude.{slice_index}
use Rattle.std.proofs.Math.ListN.{get_or-map}
use Rattle.std.proofs.lemmas.Bool.{false≢true}
use Rattle.std.proofs.lemmas.List.{length-map, get_or-map as list_map}
use Rattle.std.proofs.lemmas.List.FromFn.{length-map-range_with_len, get_or-map-range_with_len}
use Rattle.pl_rows.proofs.Canonical.{Contains-cons_cases, Contains-cons_first, Contains-nil}
use Rattle.pl_task.specs.declared.data.Literal.TheVariants as literal
use Rattle.pl_task.specs.declared.data.Schema.{Schema}
use Rattle.pl_task.specs.declared.data.Term.{Term}
use Rattle.pl_task.specs.declared.data.Term.TheVariants as term
use Rattle.pl_task.specs.States.{value_of}
use Rattle.pl_join.specs.declared.slot.Slot.{Slot}
use Rattle.pl_join.specs.declared.slot.Slot.TheVariants.{Fixed, Class}
use Rattle.pl_join.specs.Relation.{Assignment, slot_value}
use Rattle.pl_join.proofs.Members.{Contains-flat_map}
use Rattle.pl_normal.specs.Classes.{Equality, Fixing, equalities, literal_equality, fixings, class_of}
use Rattle.pl_normal.specs.Classes.{parameter_classes, object_of}
use Rattle.pl_normal.specs.Slots.{class_slot, parameter_slots, slot_at, slot_of, slots_of, are_fixed}
use Rattle.pl_normal.specs.Slots.{fixed_value}
use Rattle.pl_normal.specs.Query.{values_of, args_under}
use Rattle.pl_normal.proofs.Joined.{joined_class, joined_once}

-- ---- the classes and slots of the parameters

pub parameter_classes-length : (schema : Schema)
    → length (parameter_classes schema) ≡ length schema.parameters
unfolding parameter_classes
parameter_classes-length schema = length-map-range_with_len (class_of (equalities schema.condition)) 0
    (length schema.parameters)

pub class_at : (schema : Schema) (p : ℕ) (d : ℕ) → p < length schema.parameters
    → get_or (parameter_classes schema) p d ≡ class_of (equalities schema.condition) p
unfolding parameter_classes
class_at schema p d h = get_or-map-range_with_len (class_of (equalities schema.condition)) 0
    (length schema.parameters) p p d h (omega arith)

-- the slot of a class
abbrev pub slot_of_class : Schema → ℕ → Slot
slot_of_class schema c = class_slot (object_of (parameter_classes schema) (fixings schema.condition) c) c

pub parameter_slots-length : (schema : Schema) → length (parameter_slots schema) ≡ length schema.parameters
unfolding parameter_slots
parameter_slots-length schema = length-map (parameter_classes schema) (slot_of_class schema)
    ∙ parameter_classes-length schema

pub slot_is : (schema : Schema) (p : ℕ) → p < length schema.parameters
    → slot_at (parameter_slots schema) p ≡ slot_of_class schema (class_of (equalities schema.condition) p)
unfolding parameter_slots
slot_is schema p h =
    let long = parameter_classes-length schema in
    list_map (slot_of_class schema) (parameter_classes schema) p 0 (Fixed 0) (omega arith)
    ∙ ap (slot_of_class schema) (class_at schema p 0 h)

-- parameters that an equality joins have one slot
pub same_slot : (schema : Schema) (p q : ℕ) → Contains schema.condition
    (literal.Equal (term.Parameter p) (term.Parameter q)) → p < length schema.parameters
    → q < length schema.parameters → slot_at (parameter_slots schema) p ≡ slot_at (parameter_slots schema) q
same_slot schema p q held h k =
    let pair : Equality = record { left = p; right = q } in
    let among = Contains-flat_map literal_equality schema.condition
    (literal.Equal (term.Parameter p) (term.Parameter q)) pair held (Contains-cons_first pair []) in
    slot_is schema p h
    ∙ (ap (slot_of_class schema)
    (joined_class (equalities schema.condition) p q
    (joined_once (equalities schema.condition) p q (inl among))) ∙ sym (slot_is schema q k))

found_or_later : (classes : List ℕ) (f : Fixing) (fs : List Fixing) (c : ℕ) (g : Fixing) (b : Bool)
    → (slice_index classes f.parameter == c) ≡ b → slice_index classes g.parameter ≡ c →
    Contains (f ∷ fs) g → (Contains fs g → (x : ℕ) × (object_of classes fs c ≡ Some x)) → (x : ℕ)
    × ((if b then Some f.object else object_of classes fs c) ≡ Some x)
found_or_later classes f fs c g true t same held next = (f.object, refl)
found_or_later classes f fs c g false t same held next = elim (Contains-cons_cases f fs g held) [
  | inl is ↦ absurd
      (false≢true (sym t ∙ eq-eqb (slice_index classes f.parameter) c
      (ap (λ (x : Fixing). slice_index classes x.parameter) is ∙ same)))
  | inr r ↦ next r
]

-- a class that some fixing is about is fixed
object_found : (classes : List ℕ) (fs : List Fixing) (c : ℕ) (g : Fixing)
    → slice_index classes g.parameter ≡ c → Contains fs g → (x : ℕ) × (object_of classes fs c ≡ Some x)
object_found classes [] c g same held = absurd (Contains-nil g held)
object_found classes (f ∷ fs) c g same held =
    found_or_later classes f fs c g (slice_index classes f.parameter == c) refl same held
    (λ r. object_found classes fs c g same r)

-- a parameter of a fixing has a fixed slot
pub fixed_slot : (schema : Schema) (p o : ℕ) → Contains (fixings schema.condition)
    (record { parameter = p; object = o }) → p < length schema.parameters → (x : ℕ)
    × (slot_at (parameter_slots schema) p ≡ Fixed x)
fixed_slot schema p o held h =
    let c = class_of (equalities schema.condition) p in
    let (x, is) = object_found (parameter_classes schema) (fixings schema.condition) c
    (record { parameter = p; object = o }) (class_at schema p 0 h) held in
    (x, slot_is schema p h ∙ ap (λ found. class_slot found c) is)

-- ---- values

pub parameter_value : (schema : Schema) (f : Assignment) (p : ℕ)
    → slice_index (args_under schema f) p ≡ slot_value f (slot_at (parameter_slots schema) p)
unfolding args_under
parameter_value schema f p = get_or-map (slot_value f) (parameter_slots schema) p (Fixed 0)

pub term_value : (schema : Schema) (f : Assignment) (t : Term)
    → value_of (args_under schema f) t ≡ slot_value f (slot_of (parameter_slots schema) t)
term_value schema f (term.Parameter p) = parameter_value schema f p
term_value schema f (term.Object o) = refl

pub terms_values : (schema : Schema) (f : Assignment) (terms : List Term)
    → map (value_of (args_under schema f)) terms ≡ values_of f (slots_of (parameter_slots schema) terms)
terms_values schema f [] = refl
terms_values schema f (t ∷ terms) =
    let first = term_value schema f t in
    let rest = terms_values schema f terms in cc

pub fixed_values : (f : Assignment) (slots : List Slot) → are_fixed slots ≡ true
    → map fixed_value slots ≡ values_of f slots
fixed_values f [] h = refl
fixed_values f (Fixed x ∷ slots) h = ap (λ xs. x ∷ xs) (fixed_values f slots h)
fixed_values f (Class c ∷ slots) h = absurd (false≢true h)

pub args_under-length : (schema : Schema) (f : Assignment)
    → length (args_under schema f) ≡ length schema.parameters
unfolding args_under
args_under-length schema f = length-map (parameter_slots schema) (slot_value f)
    ∙ parameter_slots-length schema
