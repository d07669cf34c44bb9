-- The steps from a position to the next: a row of a stage is taken, and the stages behind it are gone into.
use Rattle.std.proofs.Common.{◌≡◌, ◌+◌, ◌<◌, ◌≤◌, ℕ, suc, true, IsTrue, List, [], ◌∷◌, ◌++◌, length, take}
use Rattle.std.proofs.Common.{drop, slice_get, slice_range, slice_set, Some, Contains, refl, sym, ap, ◌∙◌}
use Rattle.std.proofs.Common.{subst, inl, inr, arith, append_assoc}
use Rattle.std.specs.List.{list_any}
use Rattle.std.proofs.lemmas.Bool.{cases_lt}
use Rattle.std.proofs.lemmas.List.{drop_more, drop_all, get_or-set_same, get_or-set_other, take-take, take_at}
use Rattle.std.proofs.lemmas.List.{take-append-le, length-append, length-take-le, length-drop}
use Rattle.std.proofs.lemmas.Option.{slice_get_within, get_or_from_slice_get}
use Rattle.std.proofs.lemmas.Slice.Eq.{bytes_eq-Decides}
use Rattle.pl_rows.specs.Rows.{begins_with}
use Rattle.pl_join.proofs.Members.{Contains-filter}
use Rattle.pl_cursor.specs.Answers.{Stage, Frame, AreStages, key_of, matching, grown, answers, through}
use Rattle.pl_cursor.specs.Answers.{stage_at, frame_at, left_in}
use Rattle.pl_cursor.specs.Kept.{NeverEnds, IsFrame, IsEntered, IsFirst, CanDescend, Descends, left_from}
use Rattle.pl_cursor.specs.Kept.{written}
use Rattle.pl_cursor.proofs.Descent.{through-first, answers-through, left_in-same}
use Rattle.pl_cursor.proofs.Following.{next_from, stages_at, before-width, from_rises}
use Rattle.pl_cursor.proofs.Stops.{some_found}
use Rattle.pl_cursor.proofs.Fronts.{length-key_of, length-matching}

-- ---- values that are written

-- those before the place stay
pub written-before : (values : List ℕ) (from : ℕ) (new : List ℕ) (n : ℕ) → n ≤ from → from ≤ length values
    → take n (written values from new) ≡ take n values
written-before values from new n l m =
    let long : length (take from values) ≡ from = length-take-le from values m in
    ap (take n) (append_assoc (take from values) new (drop (from + length new) values))
    ∙ take-append-le n (take from values) (new ++ drop (from + length new) values) (omega arith)
    ∙ take-take n from values l

-- and behind them stand the new ones
pub written-new : (values : List ℕ) (from : ℕ) (new : List ℕ) (n : ℕ) → from ≤ length values
    → n ≡ from + length new → take n (written values from new) ≡ take from values ++ new
written-new values from new n m e =
    let long : length (take from values) ≡ from = length-take-le from values m in
    take_at (take from values ++ new) (drop (from + length new) values) n
    (omega (arith, length-append (take from values) new))

-- ---- a row of a stage is taken

-- one of the stage's rows that go on with the values
pub row_matches : (stage : Stage) (values row : List ℕ) (place : ℕ) → slice_get stage.rows place ≡ Some row
    → take (length stage.keys) row ≡ key_of stage.keys values → Contains (matching stage values) row
row_matches stage values row place at e =
    let key : List ℕ = key_of stage.keys values in
    let held : Contains stage.rows row = (
      place,
      slice_get_within stage.rows place row at,
      get_or_from_slice_get stage.rows place row row at,
    ) in
    let begins : begins_with key row ≡ true = (bytes_eq-Decides (take (length key) row) key).1
    (ap (λ n. take n row) (length-key_of stage.keys values) ∙ e) in
    Contains-filter (begins_with key) stage.rows row held begins

-- the row that was taken goes on
pub goes_on : (stages : List Stage) (t : ℕ) (values row : List ℕ) → t < length stages
    → NeverEnds (drop t stages) values → Contains (matching (stage_at stages t) values) row
    → NeverEnds (drop (t + 1) stages) (grown (stage_at stages t) values row)
goes_on stages t values row l onward held =
    let cut : drop t stages ≡ stage_at stages t ∷ drop (t + 1) stages =
    drop_more stages t (record { from = 0; keys = []; rows = [] }) l in
    let parts : NeverEnds (stage_at stages t ∷ drop (t + 1) stages) values =
    subst (λ s. NeverEnds s values) cut onward in
    parts.1 row held

-- what was gone into before stays so
pub entered_same : (stages : List Stage) (frames frames' : List Frame) (answer answer' : List ℕ) (s : ℕ)
    → frame_at frames' s ≡ frame_at frames s → take (stage_at stages s).from answer' ≡ take
    (stage_at stages s).from answer → IsEntered stages frames answer s → IsEntered stages frames' answer' s
entered_same stages frames frames' answer answer' s e f h = record {
  frame = subst (λ frame. IsFrame (stage_at stages s) frame (take (stage_at stages s).from answer')) (sym e)
      (subst (IsFrame (stage_at stages s) (frame_at frames s)) (sym f) h.frame);
  onward = subst (NeverEnds (drop s stages)) (sym f) h.onward;
}

-- the rows behind one that was taken
next_frame : (stage : Stage) (values : List ℕ) (place to : ℕ)
    → IsFrame stage (record { at = place; to = to }) values
    → IsFrame stage (record { at = place + 1; to = to }) values
next_frame stage values place to frame = record {
  within = frame.within;
  matching = λ p row l h at. frame.matching p row (omega arith) h at;
}

-- a row is taken from a stage, and its values are written: what is left are the answers through it, and then
-- what the frames have
pub taken : (stages : List Stage) (width : ℕ) (frames : List Frame) (answer after : List ℕ) (t place to : ℕ)
    (row : List ℕ) →
    AreStages stages 0 width → t < length stages → t < length frames → width ≤ length answer →
    IsFrame (stage_at stages t) (record { at = place; to = to }) (take (stage_at stages t).from answer) →
    NeverEnds (drop t stages) (take (stage_at stages t).from answer) →
    ((s : ℕ) → s < t → IsEntered stages frames answer s) →
    place < to → slice_get (stage_at stages t).rows place ≡ Some row →
    after ≡ written answer (stage_at stages t).from (drop (length (stage_at stages t).keys) row) →
    Descends stages width
    (through (drop (t + 1) stages) (stage_at stages t) (take (stage_at stages t).from answer)
    (slice_range (stage_at stages t).rows place to) ++ left_in stages frames answer t)
    (slice_set frames t (record { at = place + 1; to = to })) after (t + 1)
taken stages width frames answer after t place to row laid l m long frame onward entered lt at wrote =
    let stage : Stage = stage_at stages t in
    let others : List Stage = drop (t + 1) stages in
    let values : List ℕ = take stage.from answer in
    let next : Frame = record { at = place + 1; to = to } in
    let set : List Frame = slice_set frames t next in
    let (brought, is, rest) = stages_at stages 0 width t laid l in
    let within : stage.from + brought ≤ width = before-width others (stage.from + brought) width rest in
    let held : Contains (matching stage values) row = row_matches stage values row place at
    (frame.matching place row (omega arith) lt at) in
    let new : List ℕ = drop (length stage.keys) row in
    let wide : length new ≡ brought =
    omega (
      arith,
      length-drop (length stage.keys) row,
      length-matching stage stage.from brought values row is held,
    ) in
    let early : (s : ℕ) → s < t → (stage_at stages s).from ≤ stage.from = λ s h.
    from_rises stages 0 width s t laid (omega arith) l in
    let same : (n : ℕ) → n ≤ stage.from → take n after ≡ take n answer = λ n h. ap (take n) wrote
    ∙ written-before answer stage.from new n h (omega arith) in
    let whole : take (stage.from + brought) after ≡ grown stage values row =
    ap (take (stage.from + brought)) wrote ∙ written-new answer stage.from new (stage.from + brought)
    (omega arith) (omega arith) in
    let here : frame_at set t ≡ next = get_or-set_same frames t next (record { at = 0; to = 0 }) m in
    let there : (s : ℕ) → s < t → frame_at set s ≡ frame_at frames s = λ s h.
    get_or-set_other frames t s next (record { at = 0; to = 0 }) (λ e. omega arith) in
    let front : take stage.from after ≡ values = same stage.from (omega arith) in
    record {
      known = stage.from + brought;
      descended = record {
        laid = rest;
        onward = subst (NeverEnds others) (sym whole) (goes_on stages t values row l onward held);
        entered = λ s h. elim (cases_lt s t) [
          | inl before ↦ entered_same stages frames set answer after s (there s before)
              (same (stage_at stages s).from (early s before)) (entered s before)
          | inr last ↦ (let e : t ≡ s = omega arith in subst (IsEntered stages set after) e (record {
            frame = subst (λ f. IsFrame stage f (take stage.from after)) (sym here)
                (subst (IsFrame stage next) (sym front) (next_frame stage values place to frame));
            onward = subst (NeverEnds (drop t stages)) (sym front) onward;
          }))
        ];
      };
      left_is = (
          let below : left_in stages frames answer t ≡ left_in stages set after t =
          left_in-same stages frames set answer after t stage.from (λ s h. sym (there s h)) early
          (sym front) in
          let now : left_in stages set after (suc t) ≡ through others stage values
          (slice_range stage.rows (place + 1) to) ++ left_in stages frames answer t =
          λ i. through others stage (front i) (slice_range stage.rows (here i).at (here i).to)
          ++ (sym below) i in
          let count : suc t ≡ t + 1 = omega arith in
          ap (λ xs. xs ++ left_in stages frames answer t)
          (through-first others stage values place to row lt at)
          ∙ append_assoc (answers others (grown stage values row))
          (through others stage values (slice_range stage.rows (place + 1) to))
          (left_in stages frames answer t)
          ∙ (λ i. answers others ((sym whole) i) ++ (sym now) i)
          ∙ ap (λ n. answers others (take (stage.from + brought) after) ++ left_in stages set after n) count);
    }

-- ---- a row of a stage that was gone into is taken

pub row_taken : (stages : List Stage) (width : ℕ) (frames : List Frame) (answer after : List ℕ)
    (t start keys : ℕ) (row : List ℕ) →
    AreStages stages 0 width → t < length stages → t < length frames → width ≤ length answer →
    ((s : ℕ) → s < t + 1 → IsEntered stages frames answer s) →
    (frame_at frames t).at < (frame_at frames t).to → slice_get (stage_at stages t).rows
    (frame_at frames t).at ≡ Some row →
    (stage_at stages t).from ≡ start → length (stage_at stages t).keys ≡ keys →
    after ≡ written answer start (drop keys row) →
    Descends stages width (left_in stages frames answer (t + 1))
    (slice_set frames t (record { at = (frame_at frames t).at + 1; to = (frame_at frames t).to })) after
    (t + 1)
row_taken stages width frames answer after t start keys row laid l m long entered lt at s k wrote =
    let stage : Stage = stage_at stages t in
    let frame : Frame = frame_at frames t in
    let here : IsEntered stages frames answer t = entered t (omega arith) in
    let count : suc t ≡ t + 1 = omega arith in
    subst (λ n. Descends stages width (left_in stages frames answer n)
    (slice_set frames t (record { at = frame.at + 1; to = frame.to })) after (t + 1)) count
    (taken stages width frames answer after t frame.at frame.to row laid l m long here.frame here.onward
    (λ r h. entered r (omega arith)) lt at
    (wrote ∙ (λ i. written answer ((sym s) i) (drop ((sym k) i) row))))

-- ---- the stages behind it are gone into

-- where the walk can go on, so many values stand before the next stage
pub known_from : (stages : List Stage) (width : ℕ) (t known : ℕ) → t < length stages
    → AreStages (drop t stages) known width → (stage_at stages t).from ≡ known
known_from stages width t known l laid =
    let cut : drop t stages ≡ stage_at stages t ∷ drop (t + 1) stages =
    drop_more stages t (record { from = 0; keys = []; rows = [] }) l in
    next_from (stage_at stages t ∷ drop (t + 1) stages) known width
    (subst (λ s. AreStages s known width) cut laid) (omega arith)

-- and a row of that stage goes on with them
pub some_row : (stages : List Stage) (width : ℕ) (frames : List Frame) (answer : List ℕ) (t : ℕ)
    → t < length stages → CanDescend stages width frames answer t →
    IsTrue (list_any (begins_with (key_of (stage_at stages t).keys (take (stage_at stages t).from answer)))
    (stage_at stages t).rows)
some_row stages width frames answer t l can =
    let cut : drop t stages ≡ stage_at stages t ∷ drop (t + 1) stages =
    drop_more stages t (record { from = 0; keys = []; rows = [] }) l in
    let from : (stage_at stages t).from ≡ can.known = known_from stages width t can.known l
    can.descended.laid in
    let onward : NeverEnds (stage_at stages t ∷ drop (t + 1) stages) (take can.known answer) =
    subst (λ s. NeverEnds s (take can.known answer)) cut can.descended.onward in
    subst (λ n. IsTrue
    (list_any (begins_with (key_of (stage_at stages t).keys (take n answer))) (stage_at stages t).rows))
    (sym from) onward.0

pub descend_more : (stages : List Stage) (width : ℕ) (left : List (List ℕ)) (frames : List Frame)
    (answer after : List ℕ) (t : ℕ) (frame : Frame) →
    AreStages stages 0 width → t < length stages → t < length frames → width ≤ length answer →
    IsFirst (stage_at stages t) answer after frame →
    Descends stages width left frames answer t → Descends stages width left (slice_set frames t frame) after
    (t + 1)
descend_more stages width left frames answer after t frame laid l m long first d =
    let stage : Stage = stage_at stages t in
    let others : List Stage = drop (t + 1) stages in
    let values : List ℕ = take stage.from answer in
    let cut : drop t stages ≡ stage ∷ others = drop_more stages t (record { from = 0; keys = []; rows = [] })
    l in
    let from : stage.from ≡ d.known = known_from stages width t d.known l d.descended.laid in
    let onward : NeverEnds (drop t stages) values = subst (λ n. NeverEnds (drop t stages) (take n answer))
    (sym from) d.descended.onward in
    let any = some_row stages width frames answer t l (record { known = d.known; descended = d.descended }) in
    let lt : first.from < frame.to = some_found (key_of stage.keys values) stage.rows first.from frame.to any
    first.all in
    let here : IsFrame stage (record { at = first.from; to = frame.to }) values = record {
      within = first.rows.within;
      matching = λ p row g h at. ap (λ n. take n row) (sym (length-key_of stage.keys values))
          ∙ (first.rows.rows_are p row at).1 (g, h);
    } in
    let next : Descends stages width (through others stage values (slice_range stage.rows first.from frame.to)
    ++ left_in stages frames answer t)
    (slice_set frames t (record { at = first.from + 1; to = frame.to })) after (t + 1) =
    taken stages width frames answer after t first.from frame.to first.row laid l m long here onward
    d.descended.entered lt first.taken first.wrote in
    let same : left ≡ through others stage values (slice_range stage.rows first.from frame.to)
    ++ left_in stages frames answer t =
    d.left_is ∙ (λ i. answers (cut i) (take ((sym from) i) answer) ++ left_in stages frames answer t)
    ∙ ap (λ xs. xs ++ left_in stages frames answer t)
    (answers-through others stage values first.from frame.to first.all) in
    let set : record { at = first.from + 1; to = frame.to } ≡ frame = λ i.
    record { at = (sym first.next) i; to = frame.to } in
    subst (λ (f : Frame). Descends stages width left (slice_set frames t f) after (t + 1)) set
    (subst (λ xs. Descends stages width xs
    (slice_set frames t (record { at = first.from + 1; to = frame.to })) after (t + 1)) (sym same) next)

pub can_descend_more : (stages : List Stage) (width : ℕ) (frames : List Frame) (answer after : List ℕ) (t : ℕ)
    (frame : Frame) →
    AreStages stages 0 width → t < length stages → t < length frames → width ≤ length answer →
    IsFirst (stage_at stages t) answer after frame →
    CanDescend stages width frames answer t → CanDescend stages width (slice_set frames t frame) after (t + 1)
can_descend_more stages width frames answer after t frame laid l m long first can =
    let next : Descends stages width (left_from stages frames answer t can.known)
    (slice_set frames t frame) after (t + 1) =
    descend_more stages width (left_from stages frames answer t can.known) frames answer after t frame laid l
    m long first (record { known = can.known; descended = can.descended; left_is = refl }) in
    record { known = next.known; descended = next.descended }

-- ---- behind the last stage an answer stands

pub whole_answer : (stages : List Stage) (width : ℕ) (left : List (List ℕ)) (frames : List Frame)
    (answer : List ℕ) (t : ℕ) → length stages ≤ t → Descends stages width left frames answer t
    → left ≡ take width answer ∷ left_in stages frames answer t
whole_answer stages width left frames answer t l d =
    let none : drop t stages ≡ [] = drop_all t stages l in
    let known : d.known ≡ width = subst (λ s. AreStages s d.known width) none d.descended.laid in
    d.left_is ∙ (λ i. answers (none i) (take (known i) answer) ++ left_in stages frames answer t)
