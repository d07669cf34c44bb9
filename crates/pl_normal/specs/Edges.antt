-- The edges of a schema.
use Rattle.std.specs.Prelude.{ℕ, if◌then◌else◌, List, [], ◌∷◌, ◌++◌, length, map}
use Rattle.std.specs.List.{flat_map, range_with_len}
use Rattle.pl_task.specs.declared.data.Literal.{Literal}
use Rattle.pl_task.specs.declared.data.Literal.TheVariants as literal
use Rattle.pl_task.specs.declared.data.Schema.{Schema}
use Rattle.pl_join.specs.declared.slot.Slot.{Slot}
use Rattle.pl_join.specs.declared.slot.Slot.TheVariants.{Fixed, Class}
use Rattle.pl_normal.specs.declared.form.Edge.{Edge}
use Rattle.pl_normal.specs.declared.form.Source.TheVariants as source
use Rattle.pl_normal.specs.Slots.{parameter_slots, slot_at, slots_of, are_fixed, class_set}

-- Edges: one for each unfixed parameter, then one for each positive atom that has an unfixed class, in
-- reading order. Edges over the same classes stay apart.

abbrev pub type_edge : ℕ → Slot → List Edge
type_edge p (Fixed object) = []
type_edge p (Class class) =
    record { source = source.Kind p; slots = Class class ∷ []; classes = class_set (Class class ∷ []) } ∷ []

unfoldable pub type_edges : List Slot → List Edge
type_edges slots = flat_map (λ p. type_edge p (slot_at slots p)) (range_with_len 0 (length slots))

abbrev pub edge_over : ℕ → List Slot → List Edge
edge_over predicate slots = if are_fixed slots then [] else
    record { source = source.Predicate predicate; slots = slots; classes = class_set slots } ∷ []

abbrev pub literal_edge : List Slot → Literal → List Edge
literal_edge slots (literal.Atom a) = edge_over a.predicate (slots_of slots a.terms)
literal_edge slots (literal.NotAtom a) = []
literal_edge slots (literal.Equal a b) = []
literal_edge slots (literal.NotEqual a b) = []

unfoldable pub atom_edges : List Slot → List Literal → List Edge
atom_edges slots condition = flat_map (literal_edge slots) condition

unfoldable pub edges_of : Schema → List Edge
edges_of schema = type_edges (parameter_slots schema) ++ atom_edges (parameter_slots schema) schema.condition

-- the sets of classes of the edges
abbrev pub sets_of : List Edge → List ℕ
sets_of edges = map (λ (edge : Edge). edge.classes) edges
