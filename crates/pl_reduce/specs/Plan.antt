-- The relations of a join as a removal of ears wants them: one for the core, and one for each removed ear.
use Rattle.std.specs.Prelude.{◌≡◌, ◌↔◌, ◌==◌, ◌<◌, ℕ, Bool, suc, List, [], length, filter, slice_index}
use Rattle.std.specs.Prelude.{slice_index_or, Contains}
use Rattle.std.specs.Int.{bit_at}
use Rattle.std.specs.List.{flat_map}
use Rattle.pl_join.specs.Relation.{ClassRows}
use Rattle.pl_hyper.specs.declared.ear.Ear.{Ear}
use Rattle.pl_hyper.specs.Edges.{Holds}
use Rattle.pl_hyper.specs.Ears.{Removal, ear_at}
use Rattle.pl_hyper.specs.ClassOrder.{classes_of, class_order, first_appearances}
use Rattle.pl_reduce.specs.Nodes.{Node, node_at}

-- the classes of the core's edges, in class order: in the order in which a walk over these edges meets them
abbrev pub core_order : Removal → List ℕ
core_order plan = first_appearances (flat_map (λ e. classes_of (slice_index plan.edges e)) plan.core)

-- whether an edge holds a class
abbrev pub edge_holds : Removal → ℕ → ℕ → Bool
edge_holds plan edge c = bit_at (slice_index plan.edges edge) c == 1

-- the classes of an edge, in class order
abbrev pub edge_order : Removal → ℕ → List ℕ
edge_order plan edge = filter (edge_holds plan edge) (class_order plan)

abbrev pub relation_at : List ClassRows → ℕ → ClassRows
relation_at relations i = slice_index_or relations i (record { classes = []; rows = [] })

-- the root is over the classes of the core's edges, in class order, and each of the rest over the classes of
-- its ear, in any order
pub record AreOverPlan (plan : Removal) (root : ClassRows) (rest : List ClassRows) : Type 0 where
  pub core : 0 < length plan.core
  pub root_order : root.classes ≡ core_order plan
  pub many : length rest ≡ length plan.removed
  pub ears : (i c : ℕ) (d : Ear) → i < length rest → Contains (relation_at rest i).classes c
      ↔ Holds plan.edges (ear_at plan i d).edge c

-- the nodes' columns: node 0 is over the classes of the core's edges, and node i + 1 over those of the i-th
-- ear, in class order; the key of a node is as long as the classes are many that its ear shares with the
-- ear's parent, and that of the root is empty
pub record AreColumns (plan : Removal) (nodes : List Node) : Type 0 where
  pub many : length nodes ≡ suc (length plan.removed)
  pub root : (node_at nodes 0).relation.classes ≡ core_order plan
  pub root_width : (node_at nodes 0).width ≡ 0
  pub ears : (i : ℕ) (d : Ear) → i < length plan.removed
      → (node_at nodes (suc i)).relation.classes ≡ edge_order plan (ear_at plan i d).edge
  pub widths : (i : ℕ) (d : Ear) → i < length plan.removed
      → (node_at nodes (suc i)).width ≡ length
      (filter (edge_holds plan (ear_at plan i d).parent) (edge_order plan (ear_at plan i d).edge))
