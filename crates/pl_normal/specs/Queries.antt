-- The query of a schema in a state: what its edges and filters ask of the state's tables, and the relations
-- of its edges.
use Rattle.std.specs.Prelude.{◌≡◌, ◌↔◌, ◌<◌, ◌+◌, ◌*◌, ◌==◌, ◌&&◌, ◌||◌, ℕ, Bool, not, IsTrue, List, []}
use Rattle.std.specs.Prelude.{length, All, Contains, Some, slice_get, slice_index}
use Rattle.std.specs.Int.{bit_at}
use Rattle.std.specs.List.{list_all}
use Rattle.std.proofs.Common.{get_or}
use Rattle.pl_task.specs.declared.data.Atom.{Atom}
use Rattle.pl_task.specs.declared.data.PredicateDef.{PredicateDef}
use Rattle.pl_task.specs.declared.data.Schema.{Schema}
use Rattle.pl_task.specs.declared.task.Task.{Task}
use Rattle.pl_task.specs.States.{State}
use Rattle.pl_task.specs.WellFormed.{IsAtomOf}
use Rattle.pl_join.specs.declared.slot.Slot.{Slot}
use Rattle.pl_join.specs.declared.slot.Slot.TheVariants.{Class}
use Rattle.pl_join.specs.Relation.{Assignment, ClassRows, Holds, IsRelation, IsSlotBelow, IsSlotOver}
use Rattle.pl_reduce.specs.Plan.{relation_at}
use Rattle.pl_normal.specs.declared.form.Edge.{Edge}
use Rattle.pl_normal.specs.declared.form.Guard.{Guard}
use Rattle.pl_normal.specs.declared.form.Guard.TheVariants as guard
use Rattle.pl_normal.specs.declared.form.NormalSchema.{NormalSchema}
use Rattle.pl_normal.specs.declared.form.Placed.{Placed}
use Rattle.pl_normal.specs.declared.form.Sieve.{Sieve}
use Rattle.pl_normal.specs.declared.form.Sieve.TheVariants as sieve
use Rattle.pl_normal.specs.declared.form.Source.{Source}
use Rattle.pl_normal.specs.declared.form.Source.TheVariants as source
use Rattle.pl_normal.specs.Edges.{edges_of}
use Rattle.pl_normal.specs.Filters.{local_of}
use Rattle.pl_normal.specs.Query.{is_in_source, meets_edge, meets_sieve}

-- the parameter or the predicate is there
pub record IsSourceOf (task : Task) (schema : Schema) (from : Source) : Type 0 where
  pub kind : (p : ℕ) → from ≡ source.Kind p → p < length schema.parameters
  pub predicate : (p : ℕ) → from ≡ source.Predicate p → p < length task.predicates

-- rows of the source have so many values
pub record IsArityOf (task : Task) (from : Source) (arity : ℕ) : Type 0 where
  pub kind : (p : ℕ) → from ≡ source.Kind p → arity ≡ 1
  pub predicate : (p : ℕ) (d : PredicateDef) → from ≡ source.Predicate p →
      slice_get task.predicates p ≡ Some d →
      arity ≡ d.arity

-- a source of the task, as many slots as its rows have values, and the classes of the slots as a set
pub record IsEdgeOf (task : Task) (schema : Schema) (edge : Edge) : Type 0 where
  pub from : IsSourceOf task schema edge.source
  pub arity : IsArityOf task edge.source (length edge.slots)
  pub below : All (IsSlotBelow 64) edge.slots
  pub set : (c : ℕ) → (bit_at edge.classes c ≡ 1) ↔ Contains edge.slots (Class c)

-- a predicate of the task with a slot for each of its places
pub record IsSieveOf (task : Task) (x : Sieve) : Type 0 where
  pub predicate : (p : ℕ) (slots : List Slot) → x ≡ sieve.Absent p slots → p < length task.predicates
  pub arity : (p : ℕ) (slots : List Slot) (d : PredicateDef) → x ≡ sieve.Absent p slots →
      slice_get task.predicates p ≡ Some d → length slots ≡ d.arity
  pub below : (p : ℕ) (slots : List Slot) → x ≡ sieve.Absent p slots → All (IsSlotBelow 64) slots
  pub left : (a b : Slot) → x ≡ sieve.NotEqual a b → IsSlotBelow 64 a
  pub right : (a b : Slot) → x ≡ sieve.NotEqual a b → IsSlotBelow 64 b

-- all slots of the filter are over the classes
pub record IsSieveOver (classes : List ℕ) (x : Sieve) : Type 0 where
  pub slots : (p : ℕ) (slots : List Slot) → x ≡ sieve.Absent p slots → All (IsSlotOver classes) slots
  pub left : (a b : Slot) → x ≡ sieve.NotEqual a b → IsSlotOver classes a
  pub right : (a b : Slot) → x ≡ sieve.NotEqual a b → IsSlotOver classes b

-- the atom of the guard is one of the task
pub record IsGuardOf (task : Task) (g : Guard) : Type 0 where
  pub holds : (a : Atom) → g ≡ guard.Holds a → IsAtomOf task.objects task.predicates a
  pub absent : (a : Atom) → g ≡ guard.Absent a → IsAtomOf task.objects task.predicates a

abbrev pub edge_at : List Edge → ℕ → Edge
edge_at edges e = get_or edges e (record { source = source.Kind 0; slots = []; classes = 0 })

-- what the relations of edges may take whose sources have so many rows: a probe for each row, and two for
-- each with
-- each local filter
abbrev pub sieved_probes : NormalSchema → ℕ → ℕ
sieved_probes form rows = rows + length form.local * (2 * rows)

-- whether a filter lets the assignment pass, if it is local to the edge with this number
abbrev pub lets_pass : State → Assignment → ℕ → Placed → Bool
lets_pass s f e placed = not (placed.edge == e) || meets_sieve s f placed.sieve

-- whether an assignment meets an edge and the filters that are local to it
unfoldable pub meets_at : Task → Schema → State → Assignment → ℕ → Bool
meets_at task schema s f e =
    meets_edge task schema s f (edge_at (edges_of schema) e) && list_all (lets_pass s f e) (local_of schema)

-- all rows of the edge's source are of objects
abbrev pub AreEdgeRows : Task → Schema → State → Edge → Type 0
AreEdgeRows task schema s edge = (row : List ℕ) (x : ℕ) →
    IsTrue (is_in_source task schema s edge.source row) → Contains row x → x < length task.objects

-- the relation is over the edge's classes, in any order, and has passed these of the local filters
pub record IsSieved (task : Task) (schema : Schema) (s : State) (edge : Edge) (e : ℕ) (passed : List Placed)
    (relation : ClassRows) : Type 0 where
  pub classes : (c : ℕ) → Contains relation.classes c ↔ (bit_at edge.classes c ≡ 1)
  pub rows : (f : Assignment) → Holds relation f ↔ IsTrue
      (meets_edge task schema s f edge && list_all (lets_pass s f e) passed)

-- the relation of an edge: over its classes, in any order, the assignments that meet it and its local filters
pub record IsRelationAt (task : Task) (schema : Schema) (s : State) (e : ℕ) (relation : ClassRows) : Type 0
  where
    pub whole : IsRelation relation
    pub classes : (c : ℕ) → Contains relation.classes c ↔ (bit_at (edge_at (edges_of schema) e).classes c ≡ 1)
    pub rows : (f : Assignment) → Holds relation f ↔ IsTrue (meets_at task schema s f e)

-- the relations of some edges, in their order
pub record AreRelationsAt (task : Task) (schema : Schema) (s : State) (numbers : List ℕ)
    (relations : List ClassRows) : Type 0 where
  pub many : length relations ≡ length numbers
  pub each : (i : ℕ) → i < length numbers →
      IsRelationAt task schema s (slice_index numbers i) (relation_at relations i)

-- whether an assignment meets all edges and local filters
unfoldable pub is_join_answer : Task → Schema → State → Assignment → Bool
is_join_answer task schema s f =
    list_all (meets_edge task schema s f) (edges_of schema)
    && list_all (λ (placed : Placed). meets_sieve s f placed.sieve) (local_of schema)
