-- Relations that a recipe lends to a join, beside those that are the join's own.
use Rattle.std.specs.Prelude.{◌≡◌, ◌↔◌, ◌<◌, ◌≤◌, ℕ, List, Option, None, Some, length, map, slice_index}
use Rattle.std.specs.Prelude.{slice_index_or, sum_by, Contains}
use Rattle.pl_join.specs.Relation.{ClassRows, Assignment, Holds, IsSemijoinOf}
use Rattle.pl_join.specs.Keyed.{KeyedRows}
use Rattle.pl_reduce.specs.Recipes.{option_at, chosen, relations_with}

-- the relation that is lent for a node, if one is
abbrev pub keyed_at : List (Option KeyedRows) → ℕ → Option KeyedRows
keyed_at keyed node = slice_index_or keyed node None

abbrev pub lent_of : Option KeyedRows → Option ClassRows
lent_of None = None
lent_of (Some keyed) = Some keyed.relation

-- the relations of the nodes: the join's own, and for the other nodes those that are lent
abbrev pub nodes_with : List (Option KeyedRows) → List (Option ClassRows) → List ClassRows
nodes_with lent own = relations_with (map lent_of lent) own

abbrev pub node_with : List (Option KeyedRows) → List (Option ClassRows) → ℕ → ClassRows
node_with lent own node = chosen (option_at own node) (lent_of (keyed_at lent node))

-- each node has a relation, its own or a lent one
abbrev pub AreThere : List (Option KeyedRows) → List (Option ClassRows) → Type 0
AreThere lent own = (k : ℕ) → k < length own → option_at own k ≡ None → (q : KeyedRows)
    × (keyed_at lent k ≡ Some q)

-- the same relation with other columns in front
pub record IsTurned (keyed turned : KeyedRows) : Type 0 where
  pub same : (f : Assignment) → Holds turned.relation f ↔ Holds keyed.relation f
  pub classes : (c : ℕ) → Contains turned.relation.classes c ↔ Contains keyed.relation.classes c
  pub fewer : length turned.relation.rows ≤ length keyed.relation.rows

-- what is lent of a node and its parent: the parent's relation again for look-ups by the node, and two that
-- are reduced by each other
pub record IsLentPair (lent turned : List (Option KeyedRows)) (parent node : ℕ) : Type 0 where
  pub turned_is : (q t : KeyedRows) → keyed_at lent parent ≡ Some q → keyed_at turned node ≡ Some t
      → IsTurned q t
  pub turned_of : (t : KeyedRows) → keyed_at turned node ≡ Some t → (q : KeyedRows)
      × (keyed_at lent parent ≡ Some q)
  pub up : (q k : KeyedRows) → keyed_at lent parent ≡ Some q → keyed_at lent node ≡ Some k
      → IsSemijoinOf q.relation k.relation q.relation
  pub down : (q k : KeyedRows) → keyed_at lent parent ≡ Some q → keyed_at lent node ≡ Some k
      → IsSemijoinOf k.relation q.relation k.relation

abbrev pub AreLent : List ℕ → List (Option KeyedRows) → List (Option KeyedRows) → Type 0
AreLent parents lent turned = (i : ℕ) → 0 < i → i < length parents
    → IsLentPair lent turned (slice_index parents i) i

-- what is left of a relation after its semijoin by another, where it lost a row
pub record IsSmaller (keep by kept : ClassRows) : Type 0 where
  pub classes : kept.classes ≡ keep.classes
  pub rows : IsSemijoinOf keep by kept
  pub fewer : length kept.rows < length keep.rows

-- the semijoin of one relation by another: None where no row is lost
abbrev pub IsReductionBy : ClassRows → ClassRows → Option ClassRows → Type 0
IsReductionBy keep by None = IsSemijoinOf keep by keep
IsReductionBy keep by (Some kept) = IsSmaller keep by kept

-- how many rows the relations have that are there
abbrev pub option_rows : Option ClassRows → ℕ
option_rows None = 0
option_rows (Some relation) = length relation.rows

abbrev pub own_rows : List (Option ClassRows) → ℕ
own_rows own = sum_by option_rows own
