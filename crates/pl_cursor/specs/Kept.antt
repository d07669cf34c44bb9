-- What the parts of a cursor keep, and what the functions inside the crate promise each other.
use Rattle.std.specs.Prelude.{◌≡◌, ◌+◌, ◌<◌, ◌≤◌, ◌++◌, ◌∷◌, ◌&&◌, [], ℕ, Bool, true, false, cond, List}
use Rattle.std.specs.Prelude.{length, take, drop, filter, Contains, IsTrue, Some, slice_get, slice_index}
use Rattle.std.specs.Prelude.{slice_range}
use Rattle.std.specs.List.{list_any}
use Rattle.pl_rows.specs.Rows.{begins_with, AreRowsOf}
use Rattle.pl_reduce.specs.Nodes.{ReducedJoin, node_at}
use Rattle.pl_reduce.specs.Reduced.{IsReduced}
use Rattle.pl_reduce.specs.Layout.{place_in, stop_at}
use Rattle.pl_reduce.specs.declared.layout.Stop.{Stop}
use Rattle.pl_cursor.specs.declared.layout.Layout.{Layout}
use Rattle.pl_cursor.specs.declared.position.Position.{Position}
use Rattle.pl_cursor.specs.declared.narrow.Place.{Place}
use Rattle.pl_cursor.specs.declared.narrow.Narrowed.{Narrowed}
use Rattle.pl_cursor.specs.Answers.{Stage, Frame, IsStage, AreStages, IsSought, is_past, key_of, matching}
use Rattle.pl_cursor.specs.Answers.{grown, answers, stage_at, frame_at, left_in}
use Rattle.pl_cursor.specs.Stages.{stage_of, stages_of}

-- the stop is the one of a stage
pub record IsStop (join : ReducedJoin) (stage : Stage) (stop : Stop) : Type 0 where
  pub node : stop.node < length join.nodes
  pub width : stop.width ≡ (node_at join.nodes stop.node).width
  pub is : stage ≡ stage_of join.classes stop.from (node_at join.nodes stop.node)

-- the layout is the one of a reduced join: its stages, and where its classes stand
pub record IsLayout (join : ReducedJoin) (layout : Layout) : Type 0 where
  pub reduced : IsReduced join
  pub count : length layout.stops.now ≡ length (stages_of join)
  pub few : length layout.stops.now ≤ layout.width
  pub width : layout.width ≡ length join.classes
  pub narrow : layout.width ≤ 64
  pub stops : (t : ℕ) → t < length layout.stops.now
      → IsStop join (stage_at (stages_of join) t) (stop_at layout.stops.now t)
  pub many : length layout.places.now ≡ 64
  pub places : (c : ℕ) → Contains join.classes c
      → slice_index layout.places.now c ≡ place_in join.classes c

-- each choice of rows through the stages goes on to an answer
abbrev pub NeverEnds : List Stage → List ℕ → Type 0
NeverEnds [] values = Unit {0}
NeverEnds (stage ∷ stages) values =
    IsTrue (list_any (begins_with (key_of stage.keys values)) stage.rows)
    × ((row : List ℕ) → Contains (matching stage values) row → NeverEnds stages (grown stage values row))

-- the frame has places of the stage's rows that go on with the values
pub record IsFrame (stage : Stage) (frame : Frame) (values : List ℕ) : Type 0 where
  pub within : frame.to ≤ length stage.rows
  pub matching : (place : ℕ) (row : List ℕ) → frame.at ≤ place → place < frame.to
      → slice_get stage.rows place ≡ Some row →
      take (length stage.keys) row ≡ key_of stage.keys values

-- the frame of a stage that was gone into
pub record IsEntered (stages : List Stage) (frames : List Frame) (answer : List ℕ) (t : ℕ) : Type 0 where
  pub frame : IsFrame (stage_at stages t) (frame_at frames t) (take (stage_at stages t).from answer)
  pub onward : NeverEnds (drop t stages) (take (stage_at stages t).from answer)

-- the position is one in the walk through the stages
pub record IsPosition (stages : List Stage) (position : Position) : Type 0 where
  pub depth : position.depth ≤ length stages
  pub entered : (t : ℕ) → t < position.depth → IsEntered stages position.frames position.answer t

-- the answers that are left at a position, and with `ready` before them the one that stands there
abbrev pub left_of : ReducedJoin → Position → Bool → List (List ℕ)
left_of join position ready =
    let left = left_in (stages_of join) position.frames position.answer position.depth in
    cond ready (take (length join.classes) position.answer ∷ left) left

-- values with others written over them from a place on
abbrev pub written : List ℕ → ℕ → List ℕ → List ℕ
written values from new = take from values ++ new ++ drop (from + length new) values

-- what a look-up of a stage's key found, where the answer has the values that stand before the stage
pub record IsLookedUp (stage : Stage) (answer key : List ℕ) (from to : ℕ) : Type 0 where
  pub key_is : take (length stage.keys) key ≡ key_of stage.keys (take stage.from answer)
  pub rows : AreRowsOf (key_of stage.keys (take stage.from answer)) stage.rows from to
  pub all : slice_range stage.rows from to ≡ matching stage (take stage.from answer)

-- a stage was gone into at the first row that goes on with the answer: the row's values were written, and the
-- rows behind it are left
pub record IsFirst (stage : Stage) (before after : List ℕ) (frame : Frame) : Type 0 where
  pub from : ℕ
  pub row : List ℕ
  pub next : frame.at ≡ from + 1
  pub rows : AreRowsOf (key_of stage.keys (take stage.from before)) stage.rows from frame.to
  pub all : slice_range stage.rows from frame.to ≡ matching stage (take stage.from before)
  pub taken : slice_get stage.rows from ≡ Some row
  pub wrote : after ≡ written before stage.from (drop (length stage.keys) row)

-- the first stages were gone into, and so many values are known
pub record IsDescended (stages : List Stage) (width : ℕ) (frames : List Frame) (answer : List ℕ)
    (t known : ℕ) : Type 0 where
  pub laid : AreStages (drop t stages) known width
  pub onward : NeverEnds (drop t stages) (take known answer)
  pub entered : (s : ℕ) → s < t → IsEntered stages frames answer s

-- the answers that are left, where those through the values that are known stand before the others
abbrev pub left_from : List Stage → List Frame → List ℕ → ℕ → ℕ → List (List ℕ)
left_from stages frames answer t known =
    answers (drop t stages) (take known answer) ++ left_in stages frames answer t

-- the first stages were gone into, and what is left there are these answers
pub record Descends (stages : List Stage) (width : ℕ) (left : List (List ℕ)) (frames : List Frame)
    (answer : List ℕ) (t : ℕ) : Type 0 where
  pub known : ℕ
  pub descended : IsDescended stages width frames answer t known
  pub left_is : left ≡ left_from stages frames answer t known

-- the first stages were gone into, and the walk can go on
pub record CanDescend (stages : List Stage) (width : ℕ) (frames : List Frame) (answer : List ℕ)
    (t : ℕ) : Type 0 where
  pub known : ℕ
  pub descended : IsDescended stages width frames answer t known

-- a tuple was looked for among the rows of a stage that go on with its front: where the first of them stands
-- that doesn't bring less than the tuple has there, and whether it brings just that; the rows behind it are
-- left, and itself where it brings more
pub record IsPlaced (stages : List Stage) (width t : ℕ) (answer : List ℕ) (place : Place) : Type 0 where
  pub from : ℕ
  pub at : ℕ
  pub brought : ℕ
  pub prefix : List ℕ
  pub kind : IsStage (stage_at stages t) (stage_at stages t).from brought
  pub rest : AreStages (drop (t + 1) stages) ((stage_at stages t).from + brought) width
  pub rows : AreRowsOf (key_of (stage_at stages t).keys (take (stage_at stages t).from answer))
      (stage_at stages t).rows from place.frame.to
  pub sought : IsSought (stage_at stages t) brought (take width answer) prefix from place.frame.to at
  pub yes : place.found ≡ true → (at < place.frame.to) × (slice_get (stage_at stages t).rows at ≡ Some prefix)
      × (place.frame.at ≡ at + 1)
  pub no : place.found ≡ false → (place.frame.at ≡ at)
      × ((row : List ℕ) → at < place.frame.to → slice_get (stage_at stages t).rows at ≡ Some row
      → row ≡ prefix → ⊥)

-- the first stages were gone into at the rows that bring what a tuple has there: what is past the tuple goes
-- on with its front, or is left in the frames
pub record Narrows (stages : List Stage) (width : ℕ) (frames : List Frame) (answer : List ℕ)
    (t : ℕ) : Type 0 where
  pub known : ℕ
  pub descended : IsDescended stages width frames answer t known
  pub left_is : (inclusive : Bool) → filter (is_past inclusive (take width answer)) (answers stages [])
      ≡ filter (is_past inclusive (take width answer))
      (answers (drop t stages) (take known (take width answer))) ++ left_in stages frames answer t

-- what is past a tuple is left in the frames, and where the tuple is an answer and wanted it stands before
-- that
pub record IsNarrowed (stages : List Stage) (width : ℕ) (frames : List Frame) (answer : List ℕ)
    (narrowed : Narrowed) : Type 0 where
  pub depth : narrowed.depth ≤ length stages
  pub entered : (t : ℕ) → t < narrowed.depth → IsEntered stages frames answer t
  pub left_is : (inclusive : Bool) → filter (is_past inclusive (take width answer)) (answers stages [])
      ≡ (let left = left_in stages frames answer narrowed.depth in cond (narrowed.found && inclusive)
      (take width answer ∷ left) left)
