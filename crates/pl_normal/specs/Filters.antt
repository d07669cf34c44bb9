-- The filters of a schema.
use Rattle.std.specs.Prelude.{ℕ, ◌==◌, Bool, ◌&&◌, if◌then◌else◌, List, [], ◌∷◌, Option, Some, None, bit_and}
use Rattle.std.specs.List.{flat_map, position_from}
use Rattle.pl_task.specs.declared.data.Literal.{Literal}
use Rattle.pl_task.specs.declared.data.Literal.TheVariants as literal
use Rattle.pl_task.specs.declared.data.Schema.{Schema}
use Rattle.pl_join.specs.declared.slot.Slot.{Slot}
use Rattle.pl_normal.specs.declared.form.Edge.{Edge}
use Rattle.pl_normal.specs.declared.form.Sieve.{Sieve}
use Rattle.pl_normal.specs.declared.form.Sieve.TheVariants as sieve
use Rattle.pl_normal.specs.declared.form.Placed.{Placed}
use Rattle.pl_normal.specs.Slots.{parameter_slots, slot_of, slots_of, is_fixed, are_fixed, class_set}
use Rattle.pl_normal.specs.Edges.{edges_of}

-- Filters: each inequality and each negated atom that has an unfixed class, in reading order. A filter is
-- local to the least-numbered edge that has all its classes, and late where no edge has.

abbrev pub absent_over : ℕ → List Slot → List Sieve
absent_over predicate slots = if are_fixed slots then [] else sieve.Absent predicate slots ∷ []

abbrev pub unequal_over : Slot → Slot → List Sieve
unequal_over a b = if is_fixed a && is_fixed b then [] else sieve.NotEqual a b ∷ []

abbrev pub literal_sieve : List Slot → Literal → List Sieve
literal_sieve slots (literal.Atom a) = []
literal_sieve slots (literal.NotAtom a) = absent_over a.predicate (slots_of slots a.terms)
literal_sieve slots (literal.Equal a b) = []
literal_sieve slots (literal.NotEqual a b) = unequal_over (slot_of slots a) (slot_of slots b)

unfoldable pub sieves_of : List Slot → List Literal → List Sieve
sieves_of slots condition = flat_map (literal_sieve slots) condition

abbrev pub sieve_classes : Sieve → ℕ
sieve_classes (sieve.NotEqual a b) = class_set (a ∷ b ∷ [])
sieve_classes (sieve.Absent predicate slots) = class_set slots

-- whether the edge has all the classes
abbrev pub has_all : ℕ → Edge → Bool
has_all classes edge = bit_and classes edge.classes == classes

-- the number of the first edge that has all classes of the filter
unfoldable pub home : List Edge → Sieve → Option ℕ
home edges sieve = position_from (has_all (sieve_classes sieve)) 0 edges

abbrev pub local_at : Option ℕ → Sieve → List Placed
local_at None sieve = []
local_at (Some edge) sieve = record { edge = edge; sieve = sieve } ∷ []

abbrev pub late_at : Option ℕ → Sieve → List Sieve
late_at None sieve = sieve ∷ []
late_at (Some edge) sieve = []

unfoldable pub local_among : List Edge → List Sieve → List Placed
local_among edges sieves = flat_map (λ sieve. local_at (home edges sieve) sieve) sieves

unfoldable pub late_among : List Edge → List Sieve → List Sieve
late_among edges sieves = flat_map (λ sieve. late_at (home edges sieve) sieve) sieves

unfoldable pub local_of : Schema → List Placed
local_of schema = local_among (edges_of schema) (sieves_of (parameter_slots schema) schema.condition)

unfoldable pub late_of : Schema → List Sieve
late_of schema = late_among (edges_of schema) (sieves_of (parameter_slots schema) schema.condition)
