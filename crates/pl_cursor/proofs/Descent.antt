-- The steps of a descent through the stages: a stage is opened, a row of it is taken, and it is closed where
-- no row is left.
use Rattle.std.proofs.Common.{◌≡◌, ◌+◌, ◌<◌, ◌≤◌, ℕ, zero, suc, List, [], ◌∷◌, ◌++◌, take, drop, slice_get}
use Rattle.std.proofs.Common.{slice_range, slice_set, Some, refl, sym, ap, ◌∙◌, arith}
use Rattle.std.proofs.lemmas.List.{get_or-set_other, take-take}
use Rattle.pl_cursor.proofs.Ranges.{range_first, range_none}
use Rattle.pl_cursor.specs.Answers.{Stage, Frame, answers, through, matching, grown, stage_at, frame_at}
use Rattle.pl_cursor.specs.Answers.{rest_at, left_in}

-- ---- the answers through a part of a stage's rows

-- they are those through its first row, and then those through the others
pub through-first : (stages : List Stage) (stage : Stage) (values : List ℕ) (from to : ℕ) (row : List ℕ)
    → from < to → slice_get stage.rows from ≡ Some row
    → through stages stage values (slice_range stage.rows from to) ≡ answers stages (grown stage values row)
    ++ through stages stage values (slice_range stage.rows (from + 1) to)
through-first stages stage values from to row l at = ap (through stages stage values)
    (range_first stage.rows from to row l at)

pub through-none : (stages : List Stage) (stage : Stage) (values : List ℕ) (from to : ℕ) → to ≤ from
    → through stages stage values (slice_range stage.rows from to) ≡ []
through-none stages stage values from to l = ap (through stages stage values)
    (range_none stage.rows from to l)

-- the answers that begin with values are those through the rows that go on with them
pub answers-through : (stages : List Stage) (stage : Stage) (values : List ℕ) (from to : ℕ)
    → slice_range stage.rows from to ≡ matching stage values
    → answers (stage ∷ stages) values ≡ through stages stage values (slice_range stage.rows from to)
answers-through stages stage values from to found = ap (through stages stage values) (sym found)

-- ---- what the answers that are left depend on

-- the front of a list decides each shorter front
take_shorter : {X : Type 0} (k m : ℕ) (xs ys : List X) → k ≤ m → take m xs ≡ take m ys → take k xs ≡ take k ys
take_shorter k m xs ys l e = sym (take-take k m xs l) ∙ ap (take k) e ∙ take-take k m ys l

-- on a stage's frame, and on the values before those that the stage brings
pub rest_at-same : (stages : List Stage) (frames frames' : List Frame) (answer answer' : List ℕ) (t m : ℕ)
    → frame_at frames t ≡ frame_at frames' t → (stage_at stages t).from ≤ m → take m answer ≡ take m answer'
    → rest_at stages frames answer t ≡ rest_at stages frames' answer' t
rest_at-same stages frames frames' answer answer' t m e l same =
    let front : take (stage_at stages t).from answer ≡ take (stage_at stages t).from answer' =
    take_shorter (stage_at stages t).from m answer answer' l same in
    λ i. through (drop (t + 1) stages) (stage_at stages t) (front i)
    (slice_range (stage_at stages t).rows (e i).at (e i).to)

-- so in the first stages on their frames, and on the values before those of the last of them
pub left_in-same : (stages : List Stage) (frames frames' : List Frame) (answer answer' : List ℕ) (depth m : ℕ)
    → ((t : ℕ) → t < depth → frame_at frames t ≡ frame_at frames' t)
    → ((t : ℕ) → t < depth → (stage_at stages t).from ≤ m) → take m answer ≡ take m answer'
    → left_in stages frames answer depth ≡ left_in stages frames' answer' depth
left_in-same stages frames frames' answer answer' zero m e l same = refl
left_in-same stages frames frames' answer answer' (suc t) m e l same =
    let here : rest_at stages frames answer t ≡ rest_at stages frames' answer' t =
    rest_at-same stages frames frames' answer answer' t m (e t (omega arith)) (l t (omega arith)) same in
    let below : left_in stages frames answer t ≡ left_in stages frames' answer' t =
    left_in-same stages frames frames' answer answer' t m (λ k h. e k (omega arith))
    (λ k h. l k (omega arith)) same in
    λ i. here i ++ below i

-- a frame from `depth` on changes nothing in the first `depth` stages
pub left_in-set : (stages : List Stage) (frames : List Frame) (answer : List ℕ) (depth k : ℕ) (frame : Frame)
    → depth ≤ k → left_in stages (slice_set frames k frame) answer depth ≡ left_in stages frames answer depth
left_in-set stages frames answer zero k frame l = refl
left_in-set stages frames answer (suc t) k frame l =
    let apart : t ≡ k → ⊥ = λ e. omega arith in
    let here : frame_at (slice_set frames k frame) t ≡ frame_at frames t =
    get_or-set_other frames k t frame (record { at = 0; to = 0 }) apart in
    let below : left_in stages (slice_set frames k frame) answer t ≡ left_in stages frames answer t =
    left_in-set stages frames answer t k frame (omega arith) in
    λ i. through (drop (t + 1) stages) (stage_at stages t) (take (stage_at stages t).from answer)
    (slice_range (stage_at stages t).rows (here i).at (here i).to) ++ below i
