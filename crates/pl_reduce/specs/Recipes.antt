-- A join of which some relations are fixed, and the relations that are given for its other nodes.
use Rattle.std.specs.Prelude.{◌≡◌, ◌↔◌, ◌<◌, ℕ, suc, not, List, [], ◌∷◌, Option, None, Some, length, is_some}
use Rattle.std.specs.Prelude.{slice_index_or, Contains}
use Rattle.pl_join.specs.Relation.{ClassRows}
use Rattle.pl_hyper.specs.declared.ear.Ear.{Ear}
use Rattle.pl_hyper.specs.Edges.{Holds}
use Rattle.pl_hyper.specs.Ears.{Removal, ear_at}
use Rattle.pl_reduce.specs.Plan.{core_order}

-- a recipe as its callers see it: the plan, and for each node the relation that is fixed there, where one is
pub record FixedJoin : Type 0 where
  pub plan : Removal
  pub fixed : List (Option ClassRows)

-- what a node has, if it has one
abbrev pub option_at : List (Option ClassRows) → ℕ → Option ClassRows
option_at relations node = slice_index_or relations node None

-- the relation of a node: the one that is given for it, and otherwise the fixed one
abbrev pub chosen : Option ClassRows → Option ClassRows → ClassRows
chosen (Some given) fixed = given
chosen None (Some fixed) = fixed
chosen None None = record { classes = []; rows = [] }

-- the relations of a join, node by node
abbrev pub relations_with : List (Option ClassRows) → List (Option ClassRows) → List ClassRows
relations_with fixed [] = []
relations_with [] (g ∷ given) = chosen g None ∷ relations_with [] given
relations_with (f ∷ fixed) (g ∷ given) = chosen g f ∷ relations_with fixed given

-- the relations that are there are over the classes of their nodes: that of the root over those of the core's
-- edges, in class order, and those of the ears over the classes of their edges, in any order
pub record AreOverNodesOf (plan : Removal) (relations : List (Option ClassRows)) : Type 0 where
  pub root_order : (r : ClassRows) → option_at relations 0 ≡ Some r → r.classes ≡ core_order plan
  pub ears : (i c : ℕ) (d : Ear) (r : ClassRows) → i < length plan.removed
      → option_at relations (suc i) ≡ Some r →
      Contains r.classes c ↔ Holds plan.edges (ear_at plan i d).edge c

-- the relation is over the classes of an ear's edge
abbrev pub IsOverEar : Removal → ClassRows → ℕ → Type 0
IsOverEar plan r i = (c : ℕ) (d : Ear) → Contains r.classes c ↔ Holds plan.edges (ear_at plan i d).edge c

-- the relation of a node, if it has one, is over the classes of the node
pub record IsOverNodeOf (plan : Removal) (node : ℕ) (relation : Option ClassRows) : Type 0 where
  pub root_order : (r : ClassRows) → node ≡ 0 → relation ≡ Some r → r.classes ≡ core_order plan
  pub ear : (r : ClassRows) (i : ℕ) → node ≡ suc i → relation ≡ Some r → IsOverEar plan r i

-- the relations are fixed ones of the plan's nodes
pub record AreFixed (plan : Removal) (fixed : List (Option ClassRows)) : Type 0 where
  pub core : 0 < length plan.core
  pub many : length fixed ≡ suc (length plan.removed)
  pub over : AreOverNodesOf plan fixed

-- there is a relation for just those nodes that have no fixed one
pub record AreForOthers (fixed given : List (Option ClassRows)) : Type 0 where
  pub many : length given ≡ length fixed
  pub one_each : (k : ℕ) → k < length given → is_some (option_at given k) ≡ not (is_some (option_at fixed k))

-- the relations are given for just those nodes that have no fixed one
pub record AreGiven (join : FixedJoin) (given : List (Option ClassRows)) : Type 0 where
  pub many : length given ≡ suc (length join.plan.removed)
  pub one_each : (k : ℕ) → k < length given → is_some (option_at given k) ≡ not
      (is_some (option_at join.fixed k))
  pub over : AreOverNodesOf join.plan given
