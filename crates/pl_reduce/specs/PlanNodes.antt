-- The nodes of a plan's edges, and the parents of the nodes.
use Rattle.std.specs.Prelude.{◌≡◌, ◌↔◌, ◌<◌, ℕ, zero, suc, List, length, slice_index, Contains}
use Rattle.pl_join.specs.Relation.{ClassRows}
use Rattle.pl_hyper.specs.declared.ear.Ear.{Ear}
use Rattle.pl_hyper.specs.Edges.{Holds}
use Rattle.pl_hyper.specs.Ears.{Removal, ear_at}
use Rattle.pl_hyper.specs.ClassOrder.{IsHeldBy}
use Rattle.pl_reduce.specs.Plan.{relation_at}

-- the node of an edge: that of its ear, or the root where the edge stayed in the core
abbrev pub IsNodeOf : Removal → ℕ → ℕ → Type 0
IsNodeOf plan edge zero = Contains plan.core edge
IsNodeOf plan edge (suc i) = (i < length plan.removed) × ((d : Ear) → (ear_at plan i d).edge ≡ edge)

-- for each node but the root, the node of its ear's parent; the root is its own
pub record AreParentNodes (plan : Removal) (parents : List ℕ) : Type 0 where
  pub many : length parents ≡ suc (length plan.removed)
  pub root : slice_index parents 0 ≡ 0
  pub are : (i : ℕ) (d : Ear) → i < length plan.removed
      → IsNodeOf plan (ear_at plan i d).parent (slice_index parents (suc i))

-- the relations, numbered as the nodes are, are over the classes of the core and of the ears
pub record AreOverNodes (plan : Removal) (nodes : List ClassRows) : Type 0 where
  pub many : length nodes ≡ suc (length plan.removed)
  pub root : (c : ℕ) → Contains (relation_at nodes 0).classes c ↔ IsHeldBy plan.edges plan.core c
  pub ears : (i c : ℕ) (d : Ear) → i < length plan.removed → Contains (relation_at nodes (suc i)).classes c
      ↔ Holds plan.edges (ear_at plan i d).edge c
