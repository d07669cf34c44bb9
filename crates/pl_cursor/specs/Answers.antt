-- The answers of a walk over a reduced join, and what is left of them on the way.
use Rattle.std.specs.Prelude.{◌≡◌, ◌↔◌, ◌+◌, ◌<◌, ◌≤◌, ◌++◌, ℕ, zero, suc, Bool, List, [], ◌∷◌, length, map}
use Rattle.std.specs.Prelude.{take, drop, filter, flat_map, All, Contains, IsTrue, Some, slice_get}
use Rattle.std.specs.Prelude.{slice_index, slice_index_or, slice_range}
use Rattle.pl_rows.specs.Rows.{begins_with, is_below, AreRows}
pub use Rattle.pl_cursor.specs.declared.position.Frame.{Frame}
pub use Rattle.pl_cursor.specs.Cursor.{is_past}

-- A stage of the walk over a reduced join: a node that brings values. `from` is how many values stand before
-- those that it brings, and `keys` are the places among them whose values its rows repeat in front
pub record Stage : Type 0 where
  pub from : ℕ
  pub keys : List ℕ
  pub rows : List (List ℕ)

-- the stage stands behind so many values, and its rows bring so many more
pub record IsStage (stage : Stage) (before brought : ℕ) : Type 0 where
  pub from : stage.from ≡ before
  pub keys : All (λ k. k < before) stage.keys
  pub rows : AreRows (length stage.keys + brought) stage.rows

-- the stages follow one another: so many values stand before the first of them, and so many behind the last
abbrev pub AreStages : List Stage → ℕ → ℕ → Type 0
AreStages [] before width = before ≡ width
AreStages (stage ∷ stages) before width =
    (brought : ℕ) × IsStage stage before brought × AreStages stages (before + brought) width

-- the values at some places
abbrev pub key_of : List ℕ → List ℕ → List ℕ
key_of keys values = map (slice_index values) keys

-- the rows of a stage that go on with values
abbrev pub matching : Stage → List ℕ → List (List ℕ)
matching stage values = filter (begins_with (key_of stage.keys values)) stage.rows

-- the values, and behind them those that a row brings
abbrev pub grown : Stage → List ℕ → List ℕ → List ℕ
grown stage values row = values ++ drop (length stage.keys) row

-- the answers that begin with these values, through the stages that are left
abbrev pub answers : List Stage → List ℕ → List (List ℕ)
answers [] values = values ∷ []
answers (stage ∷ stages) values = flat_map (λ row. answers stages (grown stage values row))
    (matching stage values)

-- the answers through some rows of a stage
abbrev pub through : List Stage → Stage → List ℕ → List (List ℕ) → List (List ℕ)
through stages stage values rows = flat_map (λ row. answers stages (grown stage values row)) rows

-- a chain of rows, one for each stage, that gives an answer
abbrev pub IsAnswer : List Stage → List ℕ → List ℕ → Type 0
IsAnswer [] values answer = answer ≡ values
IsAnswer (stage ∷ stages) values answer =
    (row : List ℕ) × Contains (matching stage values) row × IsAnswer stages (grown stage values row) answer

-- the stage at a place
abbrev pub stage_at : List Stage → ℕ → Stage
stage_at stages t = slice_index_or stages t (record { from = 0; keys = []; rows = [] })

-- the frame at a place
abbrev pub frame_at : List Frame → ℕ → Frame
frame_at frames t = slice_index_or frames t (record { at = 0; to = 0 })

-- the answers that are left in a stage, where `answer` has the values that the stages before it gave
abbrev pub rest_at : List Stage → List Frame → List ℕ → ℕ → List (List ℕ)
rest_at stages frames answer t =
    through (drop (t + 1) stages) (stage_at stages t) (take (stage_at stages t).from answer)
    (slice_range (stage_at stages t).rows (frame_at frames t).at (frame_at frames t).to)

-- the answers that are left in the first `depth` stages: those of the last of them first
abbrev pub left_in : List Stage → List Frame → List ℕ → ℕ → List (List ℕ)
left_in stages frames answer zero = []
left_in stages frames answer (suc t) = rest_at stages frames answer t ++ left_in stages frames answer t

-- of the rows from one place up to another, those that pass a test are just those before a place
abbrev pub AreFirstIn : (List ℕ → Bool) → List (List ℕ) → ℕ → ℕ → ℕ → Type 0
AreFirstIn passes rows from to place =
    (i : ℕ) (row : List ℕ) → from ≤ i → i < to → slice_get rows i ≡ Some row → IsTrue (passes row)
    ↔ (i < place)

-- where a stage is sought that is reached with the front of a tuple: the rows that go on with that front
-- stand from one place up to another, and `place` is the first of them that doesn't bring less than the tuple
-- has there
pub record IsSought (stage : Stage) (brought : ℕ) (past prefix : List ℕ) (from to place : ℕ) : Type 0 where
  pub range : slice_range stage.rows from to ≡ matching stage (take stage.from past)
  pub prefix_is : prefix ≡ key_of stage.keys (take stage.from past)
      ++ slice_range past stage.from (stage.from + brought)
  pub first : AreFirstIn (is_below prefix) stage.rows from to place
  pub low : from ≤ place
  pub high : place ≤ to
