-- The guards of a schema.
use Rattle.std.specs.Prelude.{ℕ, ◌==◌, Bool, true, false, not, if◌then◌else◌, List, [], ◌∷◌, ◌++◌, length}
use Rattle.std.specs.Prelude.{map}
use Rattle.std.specs.List.{flat_map, list_any, range_with_len}
use Rattle.std.proofs.Common.{get_or}
use Rattle.pl_task.specs.declared.data.Atom.{Atom}
use Rattle.pl_task.specs.declared.data.Literal.{Literal}
use Rattle.pl_task.specs.declared.data.Literal.TheVariants as literal
use Rattle.pl_task.specs.declared.data.Parameter.{Parameter}
use Rattle.pl_task.specs.declared.data.Schema.{Schema}
use Rattle.pl_task.specs.declared.task.Task.{Task}
use Rattle.pl_task.specs.States.{initial}
use Rattle.pl_task.specs.Types.{is_of_type}
use Rattle.pl_task.specs.WellFormed.{is_fluent}
use Rattle.pl_join.specs.declared.slot.Slot.{Slot}
use Rattle.pl_join.specs.declared.slot.Slot.TheVariants.{Fixed, Class}
use Rattle.pl_normal.specs.declared.form.Guard.{Guard}
use Rattle.pl_normal.specs.declared.form.Guard.TheVariants as guard
use Rattle.pl_normal.specs.declared.guards.Sign.{Sign}
use Rattle.pl_normal.specs.declared.guards.Sign.TheVariants as sign
use Rattle.pl_normal.specs.Slots.{parameter_slots, slot_at, slot_of, slots_of, are_fixed, fixed_value}

-- Guards: the types of each fixed parameter, then each literal without an unfixed class, in reading order.
-- What is known without a state is left out where it is true, and is `Never` where it is false: types,
-- equalities, inequalities, and atoms over static predicates. So a class that equalities join to two objects
-- makes the guard `Never`.

-- a guard that is known without a state
abbrev pub known : Bool → List Guard
known true = []
known false = guard.Never ∷ []

-- whether the object has one of the types
abbrev pub has_some_type : Task → List ℕ → ℕ → Bool
has_some_type task types object = list_any (is_of_type task object) types

abbrev pub type_guard : Task → List ℕ → Slot → List Guard
type_guard task types (Fixed object) = known (has_some_type task types object)
type_guard task types (Class class) = []

-- the types of a parameter
abbrev pub types_at : List Parameter → ℕ → List ℕ
types_at parameters p = get_or (map (λ (parameter : Parameter). parameter.types) parameters) p []

unfoldable pub type_guards : Task → List Parameter → List Slot → List Guard
type_guards task parameters slots = flat_map (λ p. type_guard task (types_at parameters p) (slot_at slots p))
    (range_with_len 0 (length slots))

-- whether a literal of this sign wants its atom or its equality true
abbrev pub is_positive : Sign → Bool
is_positive sign.Positive = true
is_positive sign.Negative = false

abbrev pub wanted_guard : Bool → Atom → Guard
wanted_guard true atom = guard.Holds atom
wanted_guard false atom = guard.Absent atom

-- whether the atom is there just where it is wanted
abbrev pub is_as_wanted : Bool → Bool → Bool
is_as_wanted true there = there
is_as_wanted false there = not there

-- the guard of an atom that is wanted true or false; init decides atoms over static predicates
abbrev pub atom_guard : Task → Bool → Atom → List Guard
atom_guard task wanted atom = if is_fluent task.schemas atom.predicate then wanted_guard wanted atom ∷ [] else
    known (is_as_wanted wanted (initial task atom))

abbrev pub guard_over : Task → Bool → ℕ → List Slot → List Guard
guard_over task wanted predicate slots = if are_fixed slots then atom_guard task wanted
    (record { predicate = predicate; objects = map fixed_value slots }) else []

-- of two fixed slots, whether their objects are equal just where that is wanted
abbrev pub equality_guard : Bool → Slot → Slot → List Guard
equality_guard wanted (Fixed a) (Fixed b) = known (is_as_wanted wanted (a == b))
equality_guard wanted (Fixed a) (Class b) = []
equality_guard wanted (Class a) (Fixed b) = []
equality_guard wanted (Class a) (Class b) = []

abbrev pub literal_guard : Task → List Slot → Literal → List Guard
literal_guard task slots (literal.Atom a) = guard_over task true a.predicate (slots_of slots a.terms)
literal_guard task slots (literal.NotAtom a) = guard_over task false a.predicate (slots_of slots a.terms)
literal_guard task slots (literal.Equal a b) = equality_guard true (slot_of slots a) (slot_of slots b)
literal_guard task slots (literal.NotEqual a b) = equality_guard false (slot_of slots a) (slot_of slots b)

unfoldable pub literal_guards : Task → List Slot → List Literal → List Guard
literal_guards task slots condition = flat_map (literal_guard task slots) condition

unfoldable pub guards_of : Task → Schema → List Guard
guards_of task schema = type_guards task schema.parameters (parameter_slots schema)
    ++ literal_guards task (parameter_slots schema) schema.condition
