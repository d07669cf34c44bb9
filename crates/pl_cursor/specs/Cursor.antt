-- The answers of a reduced join, and a cursor as its callers see it.
use Rattle.std.specs.Prelude.{◌≡◌, ◌↔◌, ◌∷◌, ℕ, Bool, true, false, cond, List, [], map, Contains, IsTrue}
use Rattle.std.specs.Prelude.{Option, None, Some, MatchOption}
use Rattle.std.specs.Ordering.{is_lt, is_le}
use Rattle.pl_rows.specs.Rows.{IsAscending, row_cmp}
use Rattle.pl_join.specs.Relation.{Assignment}
use Rattle.pl_reduce.specs.Nodes.{ReducedJoin}
use Rattle.pl_reduce.specs.Reduced.{JoinHolds}

-- a cursor as its callers see it: the join, the answers that are still to be given, and the answer last given
pub record CursorView : Type 0 where
  pub join : ReducedJoin
  pub left : List (List ℕ)
  pub place : Option (List ℕ)

-- an answer of the join: the values of its classes, in class order, under an assignment that the join has
abbrev pub IsAnswerOf : ReducedJoin → List ℕ → Type 0
IsAnswerOf join row = (f : Assignment) × JoinHolds join f × (row ≡ map f join.classes)

-- the values are above a tuple, or `inclusive` that tuple
abbrev pub is_past : Bool → List ℕ → List ℕ → Bool
is_past inclusive past row = cond inclusive (is_le (row_cmp past row)) (is_lt (row_cmp past row))

-- just the answers of the join that pass a test, each once, in ascending order
pub record AreAnswersPast (join : ReducedJoin) (passes : List ℕ → Bool) (left : List (List ℕ)) : Type 0 where
  pub ascending : IsAscending left
  pub members : (row : List ℕ) → Contains left row ↔ (IsAnswerOf join row × IsTrue (passes row))

-- the answer that was given is the first of those that were left, and the others are left
pub record Gives (old new : CursorView) (row : List ℕ) : Type 0 where
  pub left : old.left ≡ row ∷ new.left
  pub place : new.place ≡ Some row
  pub join : new.join ≡ old.join

-- a step of a cursor: an answer is given where one is left, and else nothing changes
abbrev pub IsStep : CursorView → Option (List ℕ) → CursorView → Type 0
IsStep old None new = (old.left ≡ []) × (new ≡ old)
IsStep old (Some row) new = Gives old new row

-- the same of a step that only says whether there is an answer
abbrev pub StepsOn : CursorView → Bool → CursorView → Type 0
StepsOn old false new = IsStep old None new
StepsOn old true new = MatchOption new.place ⊥ (λ row. Gives old new row)
