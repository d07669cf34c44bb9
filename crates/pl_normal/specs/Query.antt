-- When an assignment of objects to classes is an answer of a schema's query, and the step that it stands for.
use Rattle.std.specs.Prelude.{◌≡◌, ℕ, Bool, false, not, ◌&&◌, ◌==◌, List, [], ◌∷◌, map}
use Rattle.std.specs.List.{list_all}
use Rattle.pl_task.specs.declared.data.Atom.{Atom}
use Rattle.pl_task.specs.declared.data.Schema.{Schema}
use Rattle.pl_task.specs.declared.task.Task.{Task}
use Rattle.pl_task.specs.Instance.{Instance}
use Rattle.pl_task.specs.States.{State, initial}
use Rattle.pl_task.specs.WellFormed.{is_fluent}
use Rattle.pl_join.specs.declared.slot.Slot.{Slot}
use Rattle.pl_join.specs.Relation.{Assignment, slot_value}
use Rattle.pl_normal.specs.declared.form.Edge.{Edge}
use Rattle.pl_normal.specs.declared.form.Guard.{Guard}
use Rattle.pl_normal.specs.declared.form.Guard.TheVariants as guard
use Rattle.pl_normal.specs.declared.form.Placed.{Placed}
use Rattle.pl_normal.specs.declared.form.Sieve.{Sieve}
use Rattle.pl_normal.specs.declared.form.Sieve.TheVariants as sieve
use Rattle.pl_normal.specs.declared.form.Source.{Source}
use Rattle.pl_normal.specs.declared.form.Source.TheVariants as source
use Rattle.pl_normal.specs.Slots.{parameter_slots}
use Rattle.pl_normal.specs.Edges.{edges_of}
use Rattle.pl_normal.specs.Guards.{guards_of, has_some_type, types_at}
use Rattle.pl_normal.specs.Filters.{local_of, late_of}

-- the atoms over static predicates are those of the initial state; so it is in every reachable state
abbrev pub KeepsStatic : Task → State → Type 0
KeepsStatic task s = (a : Atom) → is_fluent task.schemas a.predicate ≡ false → s a ≡ initial task a

-- whether the row is one of an object that has a type of the parameter
abbrev pub is_of_kind : Task → List ℕ → List ℕ → Bool
is_of_kind task types [] = false
is_of_kind task types (object ∷ []) = has_some_type task types object
is_of_kind task types (object ∷ (other ∷ rest)) = false

-- whether a row is in the relation of a source
abbrev pub is_in_source : Task → Schema → State → Source → List ℕ → Bool
is_in_source task schema s (source.Kind p) row = is_of_kind task (types_at schema.parameters p) row
is_in_source task schema s (source.Predicate predicate) row =
    s (record { predicate = predicate; objects = row })

-- the values of the slots
abbrev pub values_of : Assignment → List Slot → List ℕ
values_of f slots = map (slot_value f) slots

-- whether the values of the edge's slots are a row of its relation
abbrev pub meets_edge : Task → Schema → State → Assignment → Edge → Bool
meets_edge task schema s f edge = is_in_source task schema s edge.source (values_of f edge.slots)

abbrev pub meets_guard : State → Guard → Bool
meets_guard s (guard.Holds atom) = s atom
meets_guard s (guard.Absent atom) = not (s atom)
meets_guard s guard.Never = false

abbrev pub meets_sieve : State → Assignment → Sieve → Bool
meets_sieve s f (sieve.NotEqual a b) = not (slot_value f a == slot_value f b)
meets_sieve s f (sieve.Absent predicate slots) =
    not (s (record { predicate = predicate; objects = values_of f slots }))

-- whether the assignment meets all edges, guards and local filters
unfoldable pub is_local_answer : Task → Schema → State → Assignment → Bool
is_local_answer task schema s f =
    list_all (meets_edge task schema s f) (edges_of schema)
    && list_all (meets_guard s) (guards_of task schema)
    && list_all (λ (placed : Placed). meets_sieve s f placed.sieve) (local_of schema)

-- whether the assignment meets all edges, guards and filters
unfoldable pub is_answer : Task → Schema → State → Assignment → Bool
is_answer task schema s f = is_local_answer task schema s f && list_all (meets_sieve s f) (late_of schema)

-- the objects of the parameters under an assignment of objects to classes
unfoldable pub args_under : Schema → Assignment → List ℕ
args_under schema f = values_of f (parameter_slots schema)

-- the step of the schema with this number under an assignment
abbrev pub step_under : ℕ → Schema → Assignment → Instance
step_under number schema f = record { schema = number; args = args_under schema f }
