-- The removal of ears from a hypergraph (Graham; Yu and Ozsoyoglu). Sets of edges are lists of edge numbers.
use Rattle.std.specs.Prelude.{◌≡◌, ◌≢◌, ◌≤◌, ◌<◌, ◌==◌, ◌++◌, ℕ, suc, List, [], ◌∷◌, length, map, drop, not}
use Rattle.std.specs.Prelude.{if◌then◌else◌, slice_index_or, Contains, All, AllPairs}
use Rattle.std.specs.List.{filter}
use Rattle.pl_hyper.specs.Edges.{Holds, edge_numbers}
use Rattle.pl_hyper.specs.declared.ear.Ear.{Ear}

-- among the remaining edges, `edge` is an ear that `parent` serves:
-- a further remaining edge that holds each class which `edge` shares with the remaining other edges
pub record IsEar (edges remaining : List ℕ) (edge parent : ℕ) : Type 0 where
  pub edge_remains : Contains remaining edge
  pub parent_remains : Contains remaining parent
  pub apart : edge ≢ parent
  pub serves : (class other : ℕ) → Contains remaining other → other ≢ edge → Holds edges edge class →
      Holds edges other class → Holds edges parent class

-- the ear that is taken is the least-numbered edge that is one, and its parent is the least-numbered one that
-- serves it
pub record IsFirstEar (edges remaining : List ℕ) (edge parent : ℕ) : Type 0 where
  pub is_ear : IsEar edges remaining edge parent
  pub least_edge : (e f : ℕ) → IsEar edges remaining e f → edge ≤ e
  pub least_parent : (f : ℕ) → IsEar edges remaining edge f → parent ≤ f

-- the remaining edges but this one
abbrev pub without : ℕ → List ℕ → List ℕ
without edge remaining = filter (λ e. not (e == edge)) remaining

-- from the remaining edges the ears are removed one after another, each the first one of those that remain,
-- and then the edges `left` remain
abbrev pub Removes : List ℕ → List ℕ → List Ear → List ℕ → Type 0
Removes edges remaining [] left = left ≡ remaining
Removes edges remaining (ear ∷ ears) left = IsFirstEar edges remaining ear.edge ear.parent ×
    Removes edges (without ear.edge remaining) ears left

-- the parent that an edge got when it was removed, and the edge itself where it was not
abbrev pub parent_of : List Ear → ℕ → ℕ
parent_of [] edge = edge
parent_of (ear ∷ ears) edge = if edge == ear.edge then ear.parent else parent_of ears edge

-- what the removal of ears makes of a hypergraph: the removed ears in the order of their removal, and the
-- core, the edges that stay
pub record Removal : Type 0 where
  pub edges : List ℕ
  pub removed : List Ear
  pub core : List ℕ

-- the removal begins with all edges, and ends when no remaining edge is an ear
pub record IsRemoval (plan : Removal) : Type 0 where
  pub removes : Removes plan.edges (edge_numbers plan.edges) plan.removed plan.core
  pub ends : (e f : ℕ) → IsEar plan.edges plan.core e f → ⊥

-- all edges in the order in which they leave: the removed ones by their removal, and the core after them
abbrev pub leaving_order : Removal → List ℕ
leaving_order plan = map (λ ear. ear.edge) plan.removed ++ plan.core

-- the edges that are still there when the i-th ear is removed: those that are removed later, and the core
abbrev pub staying : Removal → ℕ → List ℕ
staying plan i = drop (suc i) (leaving_order plan)

abbrev pub ear_at : Removal → ℕ → Ear → Ear
ear_at plan i d = slice_index_or plan.removed i d

-- what a walk over the removed edges, in the order of their removal or back, rests on
pub record IsWalkable (plan : Removal) : Type 0 where
  -- each edge is removed or in the core, and that once
  pub all_leave : (e : ℕ) → e < length plan.edges → Contains (leaving_order plan) e
  pub leave_once : AllPairs (λ e f. e ≢ f) (leaving_order plan)
  -- the parts name edges, and where there is an edge one stays
  pub ears_are_edges : All (λ ear. ear.edge < length plan.edges) plan.removed
  pub core_is_edges : All (λ e. e < length plan.edges) plan.core
  pub core_rises : AllPairs (λ e f. e < f) plan.core
  pub core_is_filled : 0 < length plan.edges → 0 < length plan.core
  -- the parent of an ear is another edge, which is still there when the ear is removed
  pub parents_are_edges : All (λ ear. ear.parent < length plan.edges) plan.removed
  pub parents_differ : All (λ ear. ear.edge ≢ ear.parent) plan.removed
  pub parent_stays : (i : ℕ) (d : Ear) → i < length plan.removed →
      Contains (staying plan i) (ear_at plan i d).parent
  -- each class that an ear shares with an edge that is still there is held by the parent
  pub parent_holds : (i : ℕ) (d : Ear) (class other : ℕ) → i < length plan.removed →
      Contains (staying plan i) other → Holds plan.edges (ear_at plan i d).edge class →
      Holds plan.edges other class → Holds plan.edges (ear_at plan i d).parent class
