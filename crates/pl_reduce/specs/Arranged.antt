-- The relations of a join with their columns in class order, and the nodes that are stored of them.
use Rattle.std.specs.Prelude.{◌≡◌, ◌≢◌, ◌↔◌, ◌<◌, ◌≤◌, ℕ, zero, suc, List, Option, None, Some, length, filter}
use Rattle.pl_join.specs.Relation.{ClassRows, Assignment, Holds, has_class}
use Rattle.pl_hyper.specs.Ears.{Removal, ear_at}
use Rattle.pl_reduce.specs.Plan.{edge_holds}
use Rattle.pl_reduce.specs.Recipes.{option_at}
use Rattle.pl_reduce.specs.Nodes.{Node}

-- some classes in the order of a list
abbrev pub ordered : List ℕ → List ℕ → List ℕ
ordered order classes = filter (has_class classes) order

-- a relation has its columns in order, and holds what it held
pub record IsArranged (order : List ℕ) (old new : ClassRows) : Type 0 where
  pub classes : new.classes ≡ ordered order old.classes
  pub same : (f : Assignment) → Holds new f ↔ Holds old f
  pub fewer : length new.rows ≤ length old.rows

-- a relation with its columns in order, where there is one and they didn't stand so
abbrev pub IsArrangement : List ℕ → Option ClassRows → Option ClassRows → Type 0
IsArrangement order None made = made ≡ None
IsArrangement order (Some old) None = old.classes ≡ ordered order old.classes
IsArrangement order (Some old) (Some made) = IsArranged order old made

-- the relation of one node, if it has one, has its columns in order
pub record IsArrangedAt (order : List ℕ) (old new : List (Option ClassRows)) (node : ℕ) : Type 0 where
  pub many : length new ≡ length old
  pub others : (k : ℕ) → k ≢ node → option_at new k ≡ option_at old k
  pub none : option_at old node ≡ None → option_at new node ≡ None
  pub some : (r : ClassRows) → option_at old node ≡ Some r → (s : ClassRows) × (option_at new node ≡ Some s)
      × IsArranged order r s

-- the relations below a number, but the root, have their columns in order, and the others are as they were
pub record AreArrangedBelow (order : List ℕ) (old new : List (Option ClassRows)) (limit : ℕ) : Type 0 where
  pub many : length new ≡ length old
  pub root : option_at new 0 ≡ option_at old 0
  pub rest : (k : ℕ) → limit ≤ k → option_at new k ≡ option_at old k
  pub none : (k : ℕ) → option_at old k ≡ None → option_at new k ≡ None
  pub some : (k : ℕ) (r : ClassRows) → 0 < k → k < limit → option_at old k ≡ Some r → (s : ClassRows)
      × (option_at new k ≡ Some s) × IsArranged order r s

-- how many classes a node shares with its ear's parent; the root has none
abbrev pub key_width : Removal → ℕ → List ℕ → ℕ
key_width plan zero classes = 0
key_width plan (suc i) classes =
    length (filter (edge_holds plan (ear_at plan i (record { edge = 0; parent = 0 })).parent) classes)

-- the relation of a number, as the node that is stored of it
abbrev pub node_for : Removal → ℕ → ClassRows → Node
node_for plan number relation = record { relation = relation; width = key_width plan number relation.classes }
