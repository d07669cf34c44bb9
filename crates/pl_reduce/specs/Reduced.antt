-- What a full reduction is (Yannakakis 1981): each table is the projection of the join, so no row dangles.
use Rattle.std.specs.Prelude.{◌≡◌, ◌<◌, ◌≤◌, ◌↔◌, ◌++◌, ◌∷◌, [], ℕ, List, length, filter, All, Contains}
use Rattle.pl_join.specs.Relation.{ClassRows, Assignment, AreDistinct, IsRelation, Holds, HoldsAll, Agree}
use Rattle.pl_join.specs.Relation.{has_class}
use Rattle.pl_reduce.specs.Nodes.{Node, ReducedJoin, relations_of, key_classes}
use Rattle.pl_reduce.specs.Walk.{walk_of, classes_along, GoesOn}

-- the join of the nodes' relations has the assignment
abbrev pub JoinHolds : ReducedJoin → Assignment → Type 0
JoinHolds join f = HoldsAll (relations_of join.nodes) f

-- how the columns of the nodes stand, and that no walk over the tables ends at a row that goes no further
pub record IsReduced (join : ReducedJoin) : Type 0 where
  pub filled : 0 < length join.nodes
  pub relations : All (λ node. IsRelation node.relation) join.nodes
  pub distinct : AreDistinct join.classes
  pub below : All (λ c. c < 64) join.classes
  -- the columns of each node stand in class order, and those of its key in front
  pub in_order : All (λ node. node.relation.classes ≡ filter (has_class node.relation.classes) join.classes)
      join.nodes
  pub widths : All (λ node. node.width ≤ length node.relation.classes) join.nodes
  -- the walk meets the classes in class order, and those of a node's key before the node
  pub order : join.classes ≡ classes_along (walk_of join.nodes)
  pub keys : (before after : List Node) (node : Node) → walk_of join.nodes ≡ before ++ node ∷ after
      → All (Contains (classes_along before)) (key_classes node)
  -- an assignment that the nodes of a front part of the walk hold goes on to the next node
  pub goes_on : (root node : Node) (before after : List Node) (f : Assignment)
      → walk_of join.nodes ≡ root ∷ before ++ node ∷ after → HoldsAll (relations_of (root ∷ before)) f
      → GoesOn f node
  -- where the root has no row, no node has one
  pub emptied : (root : Node) (others : List Node) → join.nodes ≡ root ∷ others → root.relation.rows ≡ []
      → All (λ node. node.relation.rows ≡ []) join.nodes

-- a node's key has just those of its classes that a node walked before it holds
abbrev pub KeysAreHeldBefore : ReducedJoin → Type 0
KeysAreHeldBefore join = (before after : List Node) (node : Node) (c : ℕ) → walk_of join.nodes ≡ before
    ++ node ∷ after →
    Contains (key_classes node) c
    ↔ (Contains node.relation.classes c
    × ((other : Node) × Contains before other × Contains other.relation.classes c))

-- for each front part of the walk, the join of its nodes is the projection of the whole join onto the classes
-- that it meets: so every partial answer extends to an answer
abbrev pub FrontsAreProjections : ReducedJoin → Type 0
FrontsAreProjections join = (front rest : List Node) (f : Assignment) → walk_of join.nodes ≡ front ++ rest
    → 0 < length front →
    HoldsAll (relations_of front) f ↔ ((g : Assignment) × JoinHolds join g × Agree (classes_along front) f g)

-- a relation is the projection of the join of some relations onto its classes
abbrev pub IsProjectionOfJoin : List ClassRows → ClassRows → Type 0
IsProjectionOfJoin given relation = (f : Assignment) → Holds relation f
    ↔ ((g : Assignment) × HoldsAll given g × Agree relation.classes f g)

-- the reduction of some relations: each node's table is the projection of their join onto the node's classes,
-- so no row of it is in no answer, and the join of the tables is the join of the relations
pub record IsReductionOf (given : List ClassRows) (join : ReducedJoin) : Type 0 where
  pub projections : All (λ node. IsProjectionOfJoin given node.relation) join.nodes
  pub same_join : (f : Assignment) → JoinHolds join f ↔ HoldsAll given f
