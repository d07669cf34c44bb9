-- The join of a schema's query node by node: which nodes no state changes, and the recipe that has the
-- relations of these.
use Rattle.std.specs.Prelude.{◌≡◌, ◌↔◌, ◌<◌, ◌==◌, ◌&&◌, ◌||◌, ℕ, zero, suc, Bool, true, false, not, IsTrue}
use Rattle.std.specs.Prelude.{List, [], ◌∷◌, length, drop, Contains, Option, Some, None, slice_get}
use Rattle.std.specs.List.{list_all}
use Rattle.std.proofs.Common.{get_or}
use Rattle.pl_hyper.specs.Edges.{Holds as HoldsClass}
use Rattle.pl_hyper.specs.Ears.{Removal, ear_at}
use Rattle.pl_join.specs.Relation.{Assignment, ClassRows, Holds, HoldsAll, IsRelation}
use Rattle.pl_reduce.specs.Plan.{relation_at, core_order, AreOverPlan}
use Rattle.pl_reduce.specs.Recipes.{FixedJoin}
use Rattle.pl_rows.specs.Rows.{Rows}
use Rattle.pl_task.specs.declared.data.Schema.{Schema}
use Rattle.pl_task.specs.declared.task.Task.{Task}
use Rattle.pl_task.specs.States.{State}
use Rattle.pl_task.specs.WellFormed.{is_fluent}
use Rattle.pl_normal.specs.declared.form.Edge.{Edge}
use Rattle.pl_normal.specs.declared.form.Placed.{Placed}
use Rattle.pl_normal.specs.declared.form.Sieve.{Sieve}
use Rattle.pl_normal.specs.declared.form.Sieve.TheVariants as sieve
use Rattle.pl_normal.specs.declared.form.Source.{Source}
use Rattle.pl_normal.specs.declared.form.Source.TheVariants as source
use Rattle.pl_normal.specs.declared.nodes.Share.{Share}
use Rattle.pl_normal.specs.declared.nodes.Share.TheVariants.{Fixed, Given}
use Rattle.pl_normal.specs.EarRemoval.{ear_removal}
use Rattle.pl_normal.specs.Edges.{edges_of, sets_of}
use Rattle.pl_normal.specs.Filters.{local_of}
use Rattle.pl_normal.specs.Query.{KeepsStatic}
use Rattle.pl_normal.specs.Queries.{edge_at, meets_at, is_join_answer}

-- ---- what no state changes, where it is known of each predicate whether states change it

-- the rows of the source are the same in all states: it is the types of a parameter, or a predicate that no
-- state changes
abbrev pub is_fixed_source : (ℕ → Bool) → Source → Bool
is_fixed_source changes (source.Kind p) = true
is_fixed_source changes (source.Predicate p) = not (changes p)

-- the filter lets the same pass in all states: it is an inequality, or over a predicate that no state changes
abbrev pub is_fixed_sieve : (ℕ → Bool) → Sieve → Bool
is_fixed_sieve changes (sieve.NotEqual a b) = true
is_fixed_sieve changes (sieve.Absent p slots) = not (changes p)

-- the filter is local to another edge, or no state changes it
abbrev pub is_fixed_for : (ℕ → Bool) → ℕ → Placed → Bool
is_fixed_for changes e placed = not (placed.edge == e) || is_fixed_sieve changes placed.sieve

-- no state changes the edge's source, nor any filter that is local to it
unfoldable pub is_fixed_among : (ℕ → Bool) → List Edge → List Placed → ℕ → Bool
is_fixed_among changes edges local e =
    is_fixed_source changes (edge_at edges e).source && list_all (is_fixed_for changes e) local

-- states change the fluent predicates
abbrev pub is_fixed_edge : Task → Schema → ℕ → Bool
is_fixed_edge task schema e = is_fixed_among (is_fluent task.schemas) (edges_of schema) (local_of schema) e

-- by tables that only predicates have which no state changes
abbrev pub is_missing : Option Rows → Bool
is_missing None = true
is_missing (Some table) = false

abbrev pub has_no_table : List (Option Rows) → ℕ → Bool
has_no_table tables p = is_missing (get_or tables p None)

-- ---- the nodes of a schema's join: node 0 is the core, and node i + 1 the i-th removed ear

abbrev pub plan_of : Schema → Removal
plan_of schema = ear_removal (sets_of (edges_of schema))

-- the edges of a node
abbrev pub node_edges : Removal → ℕ → List ℕ
node_edges plan zero = plan.core
node_edges plan (suc i) = (ear_at plan i (record { edge = 0; parent = 0 })).edge ∷ []

-- no state changes an edge of the node
abbrev pub is_fixed_node : Task → Schema → ℕ → Bool
is_fixed_node task schema k = list_all (is_fixed_edge task schema) (node_edges (plan_of schema) k)

-- whether an assignment meets the edges of a node and the filters that are local to these
abbrev pub meets_node : Task → Schema → State → Assignment → ℕ → Bool
meets_node task schema s f k = list_all (meets_at task schema s f) (node_edges (plan_of schema) k)

-- the root is over the classes of the core's edges, in class order, and another node over those of its
-- edge, in any order
abbrev pub IsOverNode : Removal → ℕ → List ℕ → Type 0
IsOverNode plan zero classes = classes ≡ core_order plan
IsOverNode plan (suc i) classes =
    (c : ℕ) → Contains classes c ↔ HoldsClass plan.edges
    (ear_at plan i (record { edge = 0; parent = 0 })).edge c

-- the relation of a node: over its classes, the assignments that meet its edges and their local filters
pub record IsNodeRelation (task : Task) (schema : Schema) (s : State) (k : ℕ)
    (relation : ClassRows) : Type 0 where
  pub whole : IsRelation relation
  pub classes : IsOverNode (plan_of schema) k relation.classes
  pub rows : (f : Assignment) → Holds relation f ↔ IsTrue (meets_node task schema s f k)

-- the relations of all nodes: they are over the plan's nodes, and their join is that of all edges and local
-- filters
pub record AreNodesAt (task : Task) (schema : Schema) (s : State) (relations : List ClassRows) : Type 0 where
  pub over : AreOverPlan (plan_of schema) (relation_at relations 0) (drop 1 relations)
  pub join : (f : Assignment) → HoldsAll relations f ↔ IsTrue (is_join_answer task schema s f)

-- ---- the relations of some nodes

-- there is one just where it is wanted, and it is as wanted
abbrev pub IsWanted : Bool → (ClassRows → Type 0) → Option ClassRows → Type 0
IsWanted wanted P None = wanted ≡ false
IsWanted wanted P (Some relation) = (wanted ≡ true) × P relation

-- whether the share has the fixed nodes or the others
abbrev pub takes : Share → Bool → Bool
takes Fixed fixed = fixed
takes Given fixed = not fixed

-- the relations of the first nodes in a state, as far as they are of the share
pub record AreOfShare (task : Task) (schema : Schema) (s : State) (share : Share) (count : ℕ)
    (entries : List (Option ClassRows)) : Type 0 where
  pub many : length entries ≡ count
  pub each : (k : ℕ) (d : Option ClassRows) → k < count →
      IsWanted (takes share (is_fixed_node task schema k)) (IsNodeRelation task schema s k)
      (get_or entries k d)

-- ---- recipes

-- the relation is that of the node in every state that keeps the static atoms
abbrev pub IsFixedRelation : Task → Schema → ℕ → ClassRows → Type 0
IsFixedRelation task schema k relation = (s : State) → KeepsStatic task s →
    IsNodeRelation task schema s k relation

-- the recipe is over the plan of the schema's edges, and has the relations of the nodes that no state changes
pub record IsRecipeFor (task : Task) (schema : Schema) (recipe : FixedJoin) : Type 0 where
  pub plan : recipe.plan ≡ plan_of schema
  pub many : length recipe.fixed ≡ suc (length (plan_of schema).removed)
  pub each : (k : ℕ) (d : Option ClassRows) → k < length recipe.fixed →
      IsWanted (is_fixed_node task schema k) (IsFixedRelation task schema k) (get_or recipe.fixed k d)

-- a schema with edges has its recipe, and one without has none
abbrev pub HasRecipe : Task → Schema → Option FixedJoin → Type 0
HasRecipe task schema None = edges_of schema ≡ []
HasRecipe task schema (Some recipe) = (0 < length (edges_of schema)) × IsRecipeFor task schema recipe

-- the recipes of the first schemas, in their order
pub record AreRecipes (task : Task) (count : ℕ) (recipes : List (Option FixedJoin)) : Type 0 where
  pub many : length recipes ≡ count
  pub each : (i : ℕ) (schema : Schema) (d : Option FixedJoin) → i < count →
      slice_get task.schemas i ≡ Some schema →
      HasRecipe task schema (get_or recipes i d)
