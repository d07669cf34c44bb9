-- Join trees, and the acyclic hypergraphs, which are those that have one (Beeri, Fagin, Maier and Yannakakis
-- 1983).
use Rattle.std.specs.Prelude.{◌≡◌, ◌≢◌, ◌<◌, ◌⊎◌, ℕ, zero, suc, List, [], length}
use Rattle.pl_hyper.specs.Edges.{Holds}

-- where one comes to from an edge by this many steps to the parent
abbrev pub ancestor : (ℕ → ℕ) → ℕ → ℕ → ℕ
ancestor parent zero edge = edge
ancestor parent (suc steps) edge = ancestor parent steps (parent edge)

-- a tree over the edges: a root, and a parent for each other edge, such that the parents lead every edge to
-- the root
pub record IsTree (edges : List ℕ) (root : ℕ) (parent : ℕ → ℕ) : Type 0 where
  pub root_is_edge : root < length edges
  pub parent_is_edge : (e : ℕ) → e < length edges → e ≢ root → parent e < length edges
  pub leads_to_root : (e : ℕ) → e < length edges → (steps : ℕ) × (ancestor parent steps e ≡ root)

-- of the edges that hold the class, this one is the root or has a parent that does not hold it
pub record IsTop (edges : List ℕ) (root : ℕ) (parent : ℕ → ℕ) (class edge : ℕ) : Type 0 where
  pub is_edge : edge < length edges
  pub holds : Holds edges edge class
  pub parent_lacks : edge ≢ root → Holds edges (parent edge) class → ⊥

-- the edges that hold the class are connected in the tree: at most one of them has no parent among them
abbrev pub IsConnected : List ℕ → ℕ → (ℕ → ℕ) → ℕ → Type 0
IsConnected edges root parent class = (e f : ℕ) → IsTop edges root parent class e →
    IsTop edges root parent class f → e ≡ f

-- a tree in which the edges of each class are connected
pub record IsJoinTree (edges : List ℕ) (root : ℕ) (parent : ℕ → ℕ) : Type 0 where
  pub is_tree : IsTree edges root parent
  pub connected : (class : ℕ) → IsConnected edges root parent class

-- a hypergraph is acyclic where it has no edge or has a join tree
abbrev pub IsAcyclic : List ℕ → Type 0
IsAcyclic edges = (edges ≡ []) ⊎ ((root : ℕ) × (parent : ℕ → ℕ) × IsJoinTree edges root parent)
