-- What a recipe makes of its fixed relations: in class order, reduced among each other, and keyed.
use Rattle.std.specs.Prelude.{◌≡◌, ◌≢◌, ◌<◌, ◌≤◌, ◌^◌, ◌↔◌, ℕ, zero, suc, List, Option, None, Some, length}
use Rattle.std.specs.Prelude.{slice_index, All, Contains}
use Rattle.pl_join.specs.Relation.{ClassRows, Assignment, AreDistinct, Holds, IsSemijoinOf}
use Rattle.pl_join.specs.Keyed.{KeyedRows}
use Rattle.pl_hyper.specs.Ears.{Removal, IsRemoval, IsWalkable}
use Rattle.pl_hyper.specs.ClassOrder.{class_order, IsClass}
use Rattle.pl_reduce.specs.PlanNodes.{AreParentNodes}
use Rattle.pl_reduce.specs.Recipes.{option_at, AreFixed}
use Rattle.pl_reduce.specs.Lent.{keyed_at, IsTurned, IsReductionBy, AreLent}
use Rattle.pl_reduce.specs.Arranged.{ordered, key_width}

-- the assignment is one of each fixed relation's
abbrev pub FixedHold : List (Option ClassRows) → Assignment → Type 0
FixedHold fixed f = (k : ℕ) (r : ClassRows) → option_at fixed k ≡ Some r → Holds r f

-- the classes of a node in class order; those of the root stand so
abbrev pub node_order : List ℕ → ℕ → List ℕ → List ℕ
node_order order zero classes = classes
node_order order (suc i) classes = ordered order classes

-- a fixed relation with its columns in class order, without some rows that are in no assignment of the fixed
-- ones
pub record IsFixedFor (order : List ℕ) (fixed : List (Option ClassRows)) (node : ℕ)
    (given made : ClassRows) : Type 0 where
  pub classes : made.classes ≡ node_order order node given.classes
  pub within : (f : Assignment) → Holds made f → Holds given f
  pub kept : (f : Assignment) → FixedHold fixed f → Holds made f
  pub fewer : length made.rows ≤ length given.rows

-- what is lent are the fixed relations, keyed by the classes that a node shares with its ear's parent
pub record AreLentOf (plan : Removal) (fixed : List (Option ClassRows))
    (lent : List (Option KeyedRows)) : Type 0 where
  pub none : (k : ℕ) → option_at fixed k ≡ None → keyed_at lent k ≡ None
  pub some : (k : ℕ) (r : ClassRows) → option_at fixed k ≡ Some r →
      (q : KeyedRows) × (keyed_at lent k ≡ Some q) × IsFixedFor (class_order plan) fixed k r q.relation
  pub widths : (k : ℕ) (q : KeyedRows) → keyed_at lent k ≡ Some q
      → q.width ≡ key_width plan k q.relation.classes

-- a relation over the same classes, without some of its rows
pub record IsPart (old new : ClassRows) : Type 0 where
  pub classes : new.classes ≡ old.classes
  pub within : (f : Assignment) → Holds new f → Holds old f
  pub fewer : length new.rows ≤ length old.rows

-- the semijoin of two relations, where both are there
abbrev pub IsPairReduction : Option ClassRows → Option ClassRows → Option ClassRows → Type 0
IsPairReduction None by kept = kept ≡ None
IsPairReduction (Some keep) None kept = kept ≡ None
IsPairReduction (Some keep) (Some by) kept = IsReductionBy keep by kept

-- one of the relations became its semijoin by another, where both are there
pub record IsFixedBy (old new : List (Option ClassRows)) (keep by : ℕ) : Type 0 where
  pub many : length new ≡ length old
  pub others : (k : ℕ) → k ≢ keep → option_at new k ≡ option_at old k
  pub none : option_at old keep ≡ None → option_at new keep ≡ None
  pub some : (a : ClassRows) → option_at old keep ≡ Some a → (s : ClassRows) × (option_at new keep ≡ Some s)
      × IsPart a s
  pub semi : (a b s : ClassRows) → option_at old keep ≡ Some a → option_at old by ≡ Some b
      → option_at new keep ≡ Some s → IsSemijoinOf a b s
  pub same : option_at old by ≡ None → option_at new keep ≡ option_at old keep

-- the relations without some rows that are in no assignment of all of them
pub record AreFixedFrom (old new : List (Option ClassRows)) : Type 0 where
  pub many : length new ≡ length old
  pub none : (k : ℕ) → option_at old k ≡ None → option_at new k ≡ None
  pub some : (k : ℕ) (r : ClassRows) → option_at old k ≡ Some r → (s : ClassRows) × (option_at new k ≡ Some s)
      × IsPart r s
  pub kept : (f : Assignment) → FixedHold old f → FixedHold new f

-- a parent is reduced by a node, and the node by the parent, where both have relations
abbrev pub IsUp : List ℕ → List (Option ClassRows) → ℕ → Type 0
IsUp parents nodes i = (a b : ClassRows) → option_at nodes (slice_index parents i) ≡ Some a
    → option_at nodes i ≡ Some b → IsSemijoinOf a b a

abbrev pub IsDown : List ℕ → List (Option ClassRows) → ℕ → Type 0
IsDown parents nodes i = (a b : ClassRows) → option_at nodes (slice_index parents i) ≡ Some a
    → option_at nodes i ≡ Some b → IsSemijoinOf b a b

pub record AreFixedPairs (parents : List ℕ) (nodes : List (Option ClassRows)) : Type 0 where
  pub up : (i : ℕ) → 0 < i → i < length parents → IsUp parents nodes i
  pub down : (i : ℕ) → 0 < i → i < length parents → IsDown parents nodes i

-- the relation of a node, keyed by the classes that it shares with its ear's parent
abbrev pub IsKeyedOf : Removal → ℕ → Option ClassRows → Option KeyedRows → Type 0
IsKeyedOf plan node None keyed = keyed ≡ None
IsKeyedOf plan node (Some relation) keyed = keyed ≡ Some
    (record { relation = relation; width = key_width plan node relation.classes })

pub record AreKeyedOf (plan : Removal) (nodes : List (Option ClassRows))
    (lent : List (Option KeyedRows)) : Type 0 where
  pub many : length lent ≡ length nodes
  pub are : (k : ℕ) → k < length nodes → IsKeyedOf plan k (option_at nodes k) (keyed_at lent k)

-- the lent relation of a parent again, for look-ups by a node
abbrev pub IsTurnedOf : Option KeyedRows → Option KeyedRows → Type 0
IsTurnedOf whole None = Unit {0}
IsTurnedOf None (Some turned) = ⊥
IsTurnedOf (Some whole) (Some turned) = IsTurned whole turned

abbrev pub AreTurnedOf : List ℕ → List (Option KeyedRows) → List (Option KeyedRows) → Type 0
AreTurnedOf parents lent turned = (i : ℕ) → i < length turned
    → IsTurnedOf (keyed_at lent (slice_index parents i)) (keyed_at turned i)

-- what is known of the plan
pub record IsPlan (plan : Removal) (classes parents : List ℕ) : Type 0 where
  pub removal : IsRemoval plan
  pub walkable : IsWalkable plan
  pub words : (e : ℕ) → slice_index plan.edges e < 2 ^ 64
  pub order : classes ≡ class_order plan
  pub once : AreDistinct (class_order plan)
  pub below : All (λ c. c < 64) (class_order plan)
  pub are_classes : (c : ℕ) → Contains (class_order plan) c ↔ IsClass plan.edges c
  pub parents_are : AreParentNodes plan parents

-- what the fields of a recipe keep
pub record IsRecipe (plan : Removal) (fixed : List (Option ClassRows)) (classes parents : List ℕ)
    (lent turned : List (Option KeyedRows)) : Type 0 where
  pub are_fixed : AreFixed plan fixed
  pub plan_is : IsPlan plan classes parents
  pub lent_are : AreLentOf plan fixed lent
  pub pairs : AreLent parents lent turned
