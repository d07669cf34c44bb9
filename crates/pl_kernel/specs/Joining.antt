-- What stays the same while relations are joined one after another, and which one is joined next.
use Rattle.std.specs.Prelude.{◌≡◌, ◌<◌, ◌⊎◌, ◌↔◌, ℕ, Bool, true, false, List, length, slice_index_or, All}
use Rattle.std.specs.Prelude.{Contains}
use Rattle.std.specs.List.{list_any}
use Rattle.pl_join.specs.Relation.{ClassRows, Assignment, HoldsAll, has_class}

-- one of the relations has the class
abbrev pub IsClassOf : List ClassRows → ℕ → Type 0
IsClassOf relations class = (relation : ClassRows) × Contains relations relation
    × Contains relation.classes class

-- the join of the one relations is that of the others, and so are the classes
pub record HaveSameJoin (some others : List ClassRows) : Type 0 where
  pub rows : (f : Assignment) → HoldsAll some f ↔ HoldsAll others f
  pub classes : (c : ℕ) → IsClassOf some c ↔ IsClassOf others c

-- whether the relation shares a class with these
abbrev pub share_class : List ℕ → ClassRows → Bool
share_class classes relation = list_any (has_class classes) relation.classes

-- the place of the first relation that shares a class with these, and that of the first of all where none
-- does
pub record IsNext (classes : List ℕ) (left : List ClassRows) (place : ℕ) : Type 0 where
  pub within : place < length left
  pub none_before : (k : ℕ) (d : ClassRows) → k < place
      → share_class classes (slice_index_or left k d) ≡ false
  pub shares : ((d : ClassRows) → share_class classes (slice_index_or left place d) ≡ true)
      ⊎ ((place ≡ 0) × All (λ relation. share_class classes relation ≡ false) left)
