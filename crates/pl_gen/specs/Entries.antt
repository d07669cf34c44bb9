-- What is kept of a schema in a prepared state.
use Rattle.std.specs.Prelude.{◌≡◌, ◌↔◌, ◌<◌, ℕ, true, false, IsTrue, List, [], length, All, Some, slice_get}
use Rattle.std.specs.List.{list_all}
use Rattle.pl_task.specs.declared.data.Schema.{Schema}
use Rattle.pl_task.specs.declared.task.Task.{Task}
use Rattle.pl_task.specs.States.{State}
use Rattle.pl_join.specs.Relation.{Assignment, Holds, Agree}
use Rattle.pl_reduce.specs.Nodes.{Node, ReducedJoin}
use Rattle.pl_reduce.specs.Plan.{AreColumns}
use Rattle.pl_reduce.specs.Reduced.{JoinHolds}
use Rattle.pl_normal.specs.EarRemoval.{ear_removal}
use Rattle.pl_normal.specs.Edges.{edges_of, sets_of}
use Rattle.pl_normal.specs.Guards.{guards_of}
use Rattle.pl_normal.specs.ParameterOrder.{classes_in_order}
use Rattle.pl_normal.specs.Query.{meets_guard}
use Rattle.pl_gen.specs.declared.entry.Entry.{Entry}
use Rattle.pl_gen.specs.declared.entry.Entry.TheVariants as entry
use Rattle.pl_normal.specs.Queries.{is_join_answer}

-- the reduced join is that of the edges and local filters of the schema: its nodes stand along the ear plan,
-- and each node's table is the projection of the set of assignments that meet them all
pub record AreTablesFor (task : Task) (schema : Schema) (s : State) (join : ReducedJoin) : Type 0 where
  pub classes : join.classes ≡ classes_in_order schema
  pub columns : AreColumns (ear_removal (sets_of (edges_of schema))) join.nodes
  pub same_join : (f : Assignment) → JoinHolds join f ↔ IsTrue (is_join_answer task schema s f)
  pub projections : All (λ (node : Node). (f : Assignment) → Holds node.relation f ↔
      ((g : Assignment) × IsTrue (is_join_answer task schema s g) × Agree node.relation.classes f g))
      join.nodes

-- never: a guard is false; always: all guards hold and there is no edge; tables: all guards hold and there
-- are edges
pub record IsEntry (task : Task) (schema : Schema) (s : State) (e : Entry) : Type 0 where
  pub never : e ≡ entry.Never → list_all (meets_guard s) (guards_of task schema) ≡ false
  pub always_guards : e ≡ entry.Always → list_all (meets_guard s) (guards_of task schema) ≡ true
  pub always_edges : e ≡ entry.Always → edges_of schema ≡ []
  pub tables_guards : (join : ReducedJoin) → e ≡ entry.Tables join
      → list_all (meets_guard s) (guards_of task schema) ≡ true
  pub tables_edges : (join : ReducedJoin) → e ≡ entry.Tables join → 0 < length (edges_of schema)
  pub tables_are : (join : ReducedJoin) → e ≡ entry.Tables join → AreTablesFor task schema s join

-- the entries of the first schemas
pub record AreEntriesUpTo (task : Task) (s : State) (count : ℕ) (entries : List Entry) : Type 0 where
  pub many : length entries ≡ count
  pub each : (i : ℕ) (schema : Schema) (e : Entry) → slice_get task.schemas i ≡ Some schema
      → slice_get entries i ≡ Some e → IsEntry task schema s e
