-- The two passes of the full reducer, over relations that are numbered as the nodes are: 0 the root, then the
-- ears by their removal.
use Rattle.std.specs.Prelude.{◌≡◌, ◌≢◌, ◌⊎◌, ◌<◌, ◌≤◌, ◌+◌, ◌*◌, ℕ, zero, suc, List, [], length, slice_index}
use Rattle.std.specs.Prelude.{sum_by, Contains}
use Rattle.pl_join.specs.Relation.{ClassRows, Assignment, Holds, HoldsAll, Agree, IsSemijoinOf}
use Rattle.pl_reduce.specs.Plan.{relation_at}

-- the nodes that are still there when a node was removed: the root, and those that are removed after it
abbrev pub Remains : ℕ → ℕ → Type 0
Remains node other = (other ≡ 0) ⊎ (node < other)

-- each node but the root has a parent that is still there when it was removed,
-- and that holds each class which the node shares with a node that is still there
pub record AreParents (parents : List ℕ) (nodes : List ClassRows) : Type 0 where
  pub many : length parents ≡ length nodes
  pub within : (i : ℕ) → 0 < i → i < length nodes → slice_index parents i < length nodes
  pub remain : (i : ℕ) → 0 < i → i < length nodes → Remains i (slice_index parents i)
  pub share : (i k c : ℕ) → 0 < i → i < length nodes → k < length nodes → Remains i k
      → Contains (relation_at nodes i).classes c → Contains (relation_at nodes k).classes c
      → Contains (relation_at nodes (slice_index parents i)).classes c

-- the relations that remain hold the assignment
abbrev pub RemainingHold : List ClassRows → ℕ → Assignment → Type 0
RemainingHold nodes i f = (k : ℕ) → k < length nodes → Remains i k → Holds (relation_at nodes k) f

-- two assignments agree on the classes of the relations that remain
abbrev pub AgreeOnRemaining : List ClassRows → ℕ → Assignment → Assignment → Type 0
AgreeOnRemaining nodes i f g = (k : ℕ) → k < length nodes → Remains i k
    → Agree (relation_at nodes k).classes f g

-- what the relations that remain hold together is a part of an assignment of the whole join
abbrev pub RemainingExtend : List ClassRows → List ClassRows → ℕ → Type 0
RemainingExtend given nodes i = (f : Assignment) → RemainingHold nodes i f → (g : Assignment)
    × HoldsAll given g × AgreeOnRemaining nodes i f g

-- what the relation holds is a part of an assignment of the whole join
abbrev pub IsExtended : List ClassRows → ClassRows → Type 0
IsExtended given relation = (f : Assignment) → Holds relation f → (g : Assignment) × HoldsAll given g
    × Agree relation.classes f g

-- the relations are those given, without some rows that are in no assignment of the join
pub record AreReduced (given nodes : List ClassRows) : Type 0 where
  pub many : length nodes ≡ length given
  pub classes : (k : ℕ) → (relation_at nodes k).classes ≡ (relation_at given k).classes
  pub kept : (f : Assignment) (k : ℕ) → k < length given → HoldsAll given f → Holds (relation_at nodes k) f
  pub within : (f : Assignment) (k : ℕ) → k < length given → Holds (relation_at nodes k) f
      → Holds (relation_at given k) f
  pub fewer : (k : ℕ) → length (relation_at nodes k).rows ≤ length (relation_at given k).rows

-- the nodes up to one are removed, each after its parent was reduced by it
pub record IsPassedUp (given nodes : List ClassRows) (last : ℕ) : Type 0 where
  pub reduced : AreReduced given nodes
  pub extend : (i : ℕ) → i ≤ last → RemainingExtend given nodes i

-- and the root and the nodes behind one are reduced by their parents
pub record IsPassedDown (given nodes : List ClassRows) (first : ℕ) : Type 0 where
  pub reduced : AreReduced given nodes
  pub extend : (i : ℕ) → i < length given → RemainingExtend given nodes i
  pub exact : (k : ℕ) → k < length given → Remains first k → IsExtended given (relation_at nodes k)

-- one relation became its semijoin by another
pub record IsReducedBy (old new : List ClassRows) (keep by : ℕ) : Type 0 where
  pub many : length new ≡ length old
  pub others : (k : ℕ) → k ≢ keep → relation_at new k ≡ relation_at old k
  pub classes : (relation_at new keep).classes ≡ (relation_at old keep).classes
  pub rows : IsSemijoinOf (relation_at old keep) (relation_at old by) (relation_at new keep)
  pub fewer : length (relation_at new keep).rows ≤ length (relation_at old keep).rows

-- the first so many relations are without their rows, and the others as they were
pub record AreEmptied (old new : List ClassRows) (count : ℕ) : Type 0 where
  pub many : length new ≡ length old
  pub classes : (k : ℕ) → (relation_at new k).classes ≡ (relation_at old k).classes
  pub rows : (k : ℕ) → k < count → (relation_at new k).rows ≡ []
  pub fewer : (k : ℕ) → length (relation_at new k).rows ≤ length (relation_at old k).rows

-- how many rows one of the relations has, and all of them together
abbrev pub rows_at : List ClassRows → ℕ → ℕ
rows_at relations i = length (relation_at relations i).rows

abbrev pub total_rows : List ClassRows → ℕ
total_rows relations = sum_by (λ relation. length relation.rows) relations

-- the most probes that the first so many nodes behind the root take when their parents are reduced by them,
-- and when they are by their parents
abbrev pub up_probes : List ClassRows → List ℕ → ℕ → ℕ
up_probes given parents zero = 0
up_probes given parents (suc j) = up_probes given parents
    j + (2 * rows_at given (slice_index parents (suc j)) + rows_at given (suc j))

abbrev pub down_probes : List ClassRows → List ℕ → ℕ → ℕ
down_probes given parents zero = 0
down_probes given parents (suc j) = down_probes given parents
    j + (2 * rows_at given (suc j) + rows_at given (slice_index parents (suc j)))
