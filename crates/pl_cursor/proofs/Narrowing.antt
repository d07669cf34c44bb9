-- The steps of a search for the answers past a tuple: it goes down the stages as long as a row brings just
-- what the tuple has there.
use Rattle.std.proofs.Common.{◌≡◌, ◌+◌, ◌<◌, ◌≤◌, ◌&&◌, ℕ, suc, Bool, true, false, not, cond, List, [], ◌∷◌}
use Rattle.std.proofs.Common.{◌++◌, length, take, drop, filter, slice_get, slice_range, slice_set, Some}
use Rattle.std.proofs.Common.{Contains, refl, sym, ap, ◌∙◌, subst, inl, inr, arith, append_assoc}
use Rattle.std.specs.Bool.{OnTrue, OnFalse}
use Rattle.std.proofs.lemmas.Bool.{cases_Bool, cases_lt, OnTrue_at, OnFalse_at}
use Rattle.std.proofs.lemmas.List.{drop_more, drop_all, drop_at, take-take, get_or-set_same, get_or-set_other}
use Rattle.std.proofs.lemmas.List.{append-nil, length-take-le}
use Rattle.pl_rows.specs.Rows.{is_below}
use Rattle.pl_reduce.specs.Nodes.{ReducedJoin}
use Rattle.pl_reduce.specs.Reduced.{IsReduced}
use Rattle.pl_cursor.specs.declared.narrow.Place.{Place}
use Rattle.pl_cursor.specs.declared.narrow.Narrowed.{Narrowed}
use Rattle.pl_cursor.specs.Answers.{Stage, Frame, IsStage, AreStages, IsSought, AreFirstIn, key_of, matching}
use Rattle.pl_cursor.specs.Answers.{grown, answers, through, is_past, stage_at, frame_at, left_in}
use Rattle.pl_cursor.specs.Kept.{NeverEnds, IsFrame, IsEntered, CanDescend, IsPlaced, IsLookedUp, Narrows}
use Rattle.pl_cursor.specs.Kept.{IsNarrowed, left_of, written}
use Rattle.pl_cursor.specs.Stages.{stages_of}
use Rattle.pl_cursor.specs.Cursor.{AreAnswersPast}
use Rattle.pl_cursor.proofs.Links.{IsFilled}
use Rattle.pl_cursor.proofs.Starting.{answers_past}
use Rattle.pl_cursor.proofs.Descent.{left_in-set}
use Rattle.pl_cursor.proofs.Following.{before-width}
use Rattle.pl_cursor.proofs.Fronts.{length-key_of}
use Rattle.pl_cursor.proofs.Positions.{written-new, row_matches, goes_on, entered_same, known_from}
use Rattle.pl_cursor.proofs.Seeking.{front-part, length-part, grown-same, sought-same, sought-after}
use Rattle.pl_cursor.proofs.Seeking.{sought-end, sought-end_none}

-- before the first stage
pub narrows_none : (stages : List Stage) (width : ℕ) (frames : List Frame) (answer : List ℕ)
    → AreStages stages 0 width → NeverEnds stages [] → Narrows stages width frames answer 0
narrows_none stages width frames answer laid onward = record {
  known = 0;
  descended = record { laid = laid; onward = onward; entered = λ s l. absurd (omega arith) };
  left_is = λ inclusive.
      sym (append-nil (filter (is_past inclusive (take width answer)) (answers stages [])));
}

-- so the walk can go on
pub can_narrow : (stages : List Stage) (width : ℕ) (frames : List Frame) (answer : List ℕ) (t : ℕ)
    → Narrows stages width frames answer t → CanDescend stages width frames answer t
can_narrow stages width frames answer t n = record { known = n.known; descended = n.descended }

-- the frame of one stage more
left_more : (stages : List Stage) (frames : List Frame) (answer : List ℕ) (t : ℕ) (frame : Frame)
    → t < length frames →
    left_in stages (slice_set frames t frame) answer (t + 1) ≡ through (drop (t + 1) stages)
    (stage_at stages t) (take (stage_at stages t).from answer)
    (slice_range (stage_at stages t).rows frame.at frame.to) ++ left_in stages frames answer t
left_more stages frames answer t frame m =
    let here : frame_at (slice_set frames t frame) t ≡ frame =
    get_or-set_same frames t frame (record { at = 0; to = 0 }) m in
    let below : left_in stages (slice_set frames t frame) answer t ≡ left_in stages frames answer t =
    left_in-set stages frames answer t t frame (omega arith) in
    let count : t + 1 ≡ suc t = omega arith in
    ap (left_in stages (slice_set frames t frame) answer) count
    ∙ (λ i. through (drop (t + 1) stages) (stage_at stages t) (take (stage_at stages t).from answer)
    (slice_range (stage_at stages t).rows (here i).at (here i).to) ++ below i)

-- the front of the tuple is that of the answer
front_same : (width n : ℕ) (answer : List ℕ) → n ≤ width → take n (take width answer) ≡ take n answer
front_same width n answer l = take-take n width answer l

-- the frame that a search leaves
placed_frame : (stages : List Stage) (width t : ℕ) (answer : List ℕ) (place : Place)
    → IsPlaced stages width t answer place → IsFrame (stage_at stages t) place.frame
    (take (stage_at stages t).from answer)
placed_frame stages width t answer place placed = record {
  within = placed.rows.within;
  matching = λ p row l h at. ap (λ n. take n row)
      (sym (length-key_of (stage_at stages t).keys (take (stage_at stages t).from answer)))
      ∙ (placed.rows.rows_are p row at).1 (omega (arith, l, low), h);
}
  where
    low : placed.from ≤ place.frame.at
    low = elim (cases_Bool place.found) [
      | inl y ↦ (let (lt, at, next) = placed.yes y in omega (arith, next, placed.sought.low))
      | inr n ↦ (let (same, apart) = placed.no n in omega (arith, same, placed.sought.low))
    ]

-- the stages are gone into up to that one
placed_entered : (stages : List Stage) (width : ℕ) (frames : List Frame) (answer : List ℕ) (t : ℕ)
    (place : Place) → t < length stages → t < length frames → Narrows stages width frames answer t
    → IsPlaced stages width t answer place →
    (s : ℕ) → s < t + 1 → IsEntered stages (slice_set frames t place.frame) answer s
placed_entered stages width frames answer t place l m narrows placed s h = elim (cases_lt s t) [
  | inl before ↦ entered_same stages frames (slice_set frames t place.frame) answer answer s
      (get_or-set_other frames t s place.frame (record { at = 0; to = 0 }) (λ e. omega arith)) refl
      (narrows.descended.entered s before)
  | inr last ↦ (let e : t ≡ s = omega arith in subst
      (IsEntered stages (slice_set frames t place.frame) answer) e (record {
        frame = subst (λ f. IsFrame (stage_at stages t) f (take (stage_at stages t).from answer))
            (sym (get_or-set_same frames t place.frame (record { at = 0; to = 0 }) m))
            (placed_frame stages width t answer place placed);
        onward = onward_at stages width frames answer t l narrows;
      }))
]
  where
    onward_at : (stages : List Stage) (width : ℕ) (frames : List Frame) (answer : List ℕ) (t : ℕ)
        → t < length stages → Narrows stages width frames answer t
        → NeverEnds (drop t stages) (take (stage_at stages t).from answer)
    onward_at stages width frames answer t l narrows =
        subst (λ n. NeverEnds (drop t stages) (take n answer))
        (sym (known_from stages width t narrows.known l narrows.descended.laid)) narrows.descended.onward

-- what is past the tuple, from that stage on
from_stage : (stages : List Stage) (width : ℕ) (frames : List Frame) (answer : List ℕ) (t : ℕ)
    (inclusive : Bool) → t < length stages → Narrows stages width frames answer t →
    filter (is_past inclusive (take width answer)) (answers stages [])
    ≡ filter (is_past inclusive (take width answer))
    (answers (stage_at stages t ∷ drop (t + 1) stages)
    (take (stage_at stages t).from (take width answer))) ++ left_in stages frames answer t
from_stage stages width frames answer t inclusive l narrows =
    let cut : drop t stages ≡ stage_at stages t ∷ drop (t + 1) stages =
    drop_more stages t (record { from = 0; keys = []; rows = [] }) l in
    let from : narrows.known ≡ (stage_at stages t).from =
    sym (known_from stages width t narrows.known l narrows.descended.laid) in
    narrows.left_is inclusive
    ∙ (λ i. filter (is_past inclusive (take width answer))
    (answers (cut i) (take (from i) (take width answer))) ++ left_in stages frames answer t)

-- a row brings just what the tuple has there: the search goes on behind it
pub narrow_more : (stages : List Stage) (width : ℕ) (frames : List Frame) (answer : List ℕ) (t : ℕ)
    (place : Place) → t < length stages → t < length frames → width ≤ length answer
    → Narrows stages width frames answer t → IsPlaced stages width t answer place → place.found ≡ true →
    Narrows stages width (slice_set frames t place.frame) answer (t + 1)
narrow_more stages width frames answer t place l m long narrows placed y =
    let stage : Stage = stage_at stages t in
    let others : List Stage = drop (t + 1) stages in
    let past : List ℕ = take width answer in
    let end : ℕ = stage.from + placed.brought in
    let within : end ≤ width = before-width others end width placed.rest in
    let wide : length past ≡ width = length-take-le width answer long in
    let (lt, at, next) = placed.yes y in
    let front : take stage.from past ≡ take stage.from answer =
    front_same width stage.from answer (omega arith) in
    let key : take (length stage.keys) placed.prefix ≡ key_of stage.keys (take stage.from answer) =
    ap (λ n. take n placed.prefix) (sym (length-key_of stage.keys (take stage.from answer)))
    ∙ (placed.rows.rows_are placed.at placed.prefix at).1 (placed.sought.low, lt) in
    let held : Contains (matching stage (take stage.from answer)) placed.prefix =
    row_matches stage (take stage.from answer) placed.prefix placed.at at key in
    let brings : grown stage (take stage.from answer) placed.prefix ≡ take end answer =
    ap (λ v. grown stage v placed.prefix) (sym front)
    ∙ grown-same stage (take stage.from past) (slice_range past stage.from end) placed.prefix
    placed.sought.prefix_is
    ∙ sym (front-part past stage.from placed.brought) ∙ front_same width end answer within in
    let from : stage.from ≡ narrows.known = known_from stages width t narrows.known l
    narrows.descended.laid in
    let onward : NeverEnds (drop t stages) (take stage.from answer) =
    subst (λ n. NeverEnds (drop t stages) (take n answer)) (sym from) narrows.descended.onward in
    record {
      known = end;
      descended = record {
        laid = placed.rest;
        onward = subst (NeverEnds others) brings
            (goes_on stages t (take stage.from answer) placed.prefix l onward held);
        entered = placed_entered stages width frames answer t place l m narrows placed;
      };
      left_is = λ inclusive. (
          let here : filter (is_past inclusive past) (answers (stage ∷ others) (take stage.from past))
          ≡ filter (is_past inclusive past) (answers others (take end past))
          ++ through others stage (take stage.from past)
          (slice_range stage.rows (placed.at + 1) place.frame.to) =
          sought-same inclusive others stage placed.brought past placed.prefix placed.from place.frame.to
          placed.at placed.prefix placed.kind (omega arith) placed.sought lt at refl in
          let frame : through others stage (take stage.from past)
          (slice_range stage.rows (placed.at + 1) place.frame.to) ≡ through others stage
          (take stage.from answer) (slice_range stage.rows place.frame.at place.frame.to) =
          λ i. through others stage (front i) (slice_range stage.rows ((sym next) i) place.frame.to) in
          from_stage stages width frames answer t inclusive l narrows
          ∙ ap (λ xs. xs ++ left_in stages frames answer t)
          (here ∙ ap (λ xs. filter (is_past inclusive past) (answers others (take end past)) ++ xs) frame)
          ∙ append_assoc (filter (is_past inclusive past) (answers others (take end past)))
          (through others stage (take stage.from answer)
          (slice_range stage.rows place.frame.at place.frame.to)) (left_in stages frames answer t)
          ∙ ap (λ xs. filter (is_past inclusive past) (answers others (take end past)) ++ xs)
          (sym (left_more stages frames answer t place.frame m)));
    }

-- no row does: what is past the tuple is left in the frames
pub narrow_stop : (stages : List Stage) (width : ℕ) (frames : List Frame) (answer : List ℕ) (t : ℕ)
    (place : Place) → t < length stages → t < length frames → width ≤ length answer
    → Narrows stages width frames answer t → IsPlaced stages width t answer place → place.found ≡ false →
    IsNarrowed stages width (slice_set frames t place.frame) answer (record { depth = t + 1; found = false })
narrow_stop stages width frames answer t place l m long narrows placed n =
    let stage : Stage = stage_at stages t in
    let others : List Stage = drop (t + 1) stages in
    let past : List ℕ = take width answer in
    let end : ℕ = stage.from + placed.brought in
    let within : end ≤ width = before-width others end width placed.rest in
    let wide : length past ≡ width = length-take-le width answer long in
    let front : take stage.from past ≡ take stage.from answer =
    front_same width stage.from answer (omega arith) in
    let (same, apart) = placed.no n in
    record {
      depth = omega arith;
      entered = placed_entered stages width frames answer t place l m narrows placed;
      left_is = λ inclusive. (
          let here : filter (is_past inclusive past) (answers (stage ∷ others) (take stage.from past))
          ≡ through others stage (take stage.from past) (slice_range stage.rows placed.at place.frame.to)
          =
          sought-after inclusive others stage placed.brought past placed.prefix placed.from place.frame.to
          placed.at placed.kind (omega arith) placed.sought apart in
          let frame : through others stage (take stage.from past)
          (slice_range stage.rows placed.at place.frame.to) ≡ through others stage
          (take stage.from answer) (slice_range stage.rows place.frame.at place.frame.to) =
          λ i. through others stage (front i) (slice_range stage.rows ((sym same) i) place.frame.to) in
          from_stage stages width frames answer t inclusive l narrows
          ∙ ap (λ xs. xs ++ left_in stages frames answer t) (here ∙ frame)
          ∙ sym (left_more stages frames answer t place.frame m));
    }

-- behind the last stage the tuple is an answer
pub narrow_all : (stages : List Stage) (width : ℕ) (frames : List Frame) (answer : List ℕ) (t : ℕ)
    → t ≡ length stages → Narrows stages width frames answer t
    → IsNarrowed stages width frames answer (record { depth = t; found = true })
narrow_all stages width frames answer t e narrows =
    let none : drop t stages ≡ [] = drop_all t stages (omega arith) in
    let known : narrows.known ≡ width = subst (λ s. AreStages s narrows.known width) none
    narrows.descended.laid in
    let past : List ℕ = take width answer in
    let whole : take width past ≡ past = take-take width width answer (omega arith) in
    record {
      depth = omega arith;
      entered = narrows.descended.entered;
      left_is = λ inclusive.
          narrows.left_is inclusive
          ∙ (λ i. filter (is_past inclusive past) (answers (none i) (take (known i) past))
          ++ left_in stages frames answer t)
          ∙ ap (λ v. filter (is_past inclusive past) (answers [] v) ++ left_in stages frames answer t) whole
          ∙ end inclusive past (left_in stages frames answer t);
    }
  where
    end : (inclusive : Bool) (past : List ℕ) (left : List (List ℕ))
        → filter (is_past inclusive past) (answers [] past)
        ++ left ≡ cond (true && inclusive) (past ∷ left) left
    end true past left = ap (λ xs. xs ++ left) (sought-end past)
    end false past left = ap (λ xs. xs ++ left) (sought-end_none past)

-- ---- the place of a tuple in a stage

-- a part of the tuple is that part of the answer
part_same : (width n m : ℕ) (answer : List ℕ) → n + m ≤ width → width ≤ length answer
    → slice_range (take width answer) n (n + m) ≡ slice_range answer n (n + m)
part_same width n m answer l long =
    let past : List ℕ = take width answer in
    let wide : length (take n past) ≡ n = length-take-le n past
    (omega (arith, length-take-le width answer long)) in
    let deep : length (take n answer) ≡ n = length-take-le n answer (omega arith) in
    let whole : take n past ++ slice_range past n (n + m) ≡ take n answer ++ slice_range answer n (n + m) =
    sym (front-part past n m) ∙ front_same width (n + m) answer l ∙ front-part answer n m in
    sym (drop_at (take n past) (slice_range past n (n + m)) n wide) ∙ ap (drop n) whole
    ∙ drop_at (take n answer) (slice_range answer n (n + m)) n deep

pub sought_of : (stage : Stage) (width brought w start arity : ℕ) (answer key tuple : List ℕ)
    (rows : List (List ℕ)) (from to at : ℕ) →
    IsLookedUp stage answer key from to → length stage.keys ≡ w → stage.from ≡ start → stage.rows ≡ rows
    → w ≤ length key → arity ≡ w + brought →
    start + brought ≤ width → width ≤ length answer → tuple ≡ written key w
    (slice_range answer start (start + brought)) →
    from ≤ at → at ≤ to → AreFirstIn (is_below (take arity tuple)) rows from to at →
    IsSought stage brought (take width answer) (take arity tuple) from to at
sought_of stage width brought w start arity answer key tuple rows from to at up k s r room a within long wrote
    low high first =
    let past : List ℕ = take width answer in
    let new : List ℕ = slice_range answer start (start + brought) in
    let front : take stage.from past ≡ take stage.from answer =
    front_same width stage.from answer (omega arith) in
    let count : length new ≡ brought = length-part answer start brought (omega arith) in
    let parts : take arity tuple ≡ take w key ++ new = ap (take arity) wrote
    ∙ written-new key w new arity room (omega arith) in
    let key_is : take w key ≡ key_of stage.keys (take stage.from past) = ap (λ n. take n key) (sym k)
    ∙ up.key_is ∙ ap (key_of stage.keys) (sym front) in
    let new_is : new ≡ slice_range past stage.from (stage.from + brought) =
    sym (part_same width start brought answer within long)
    ∙ ap (λ n. slice_range past n (n + brought)) (sym s) in
    record {
      range = up.all ∙ ap (matching stage) (sym front);
      prefix_is = parts ∙ (λ i. key_is i ++ new_is i);
      first = subst (λ rs. AreFirstIn (is_below (take arity tuple)) rs from to at) (sym r) first;
      low = low;
      high = high;
    }

-- what is past the place: the rows behind it, without its own where that is the tuple's
pub placed : (stages : List Stage) (width t brought : ℕ) (answer prefix key : List ℕ)
    (rows : List (List ℕ)) (from to at : ℕ) (found : Bool) (place : Place) →
    IsStage (stage_at stages t) (stage_at stages t).from brought
    → AreStages (drop (t + 1) stages) ((stage_at stages t).from + brought) width →
    IsLookedUp (stage_at stages t) answer key from to
    → IsSought (stage_at stages t) brought (take width answer) prefix from to at
    → (stage_at stages t).rows ≡ rows → OnTrue found ((at < to) × (slice_get rows at ≡ Some prefix))
    → OnFalse found ((row : List ℕ) → at < to → slice_get rows at ≡ Some row → row ≡ prefix → ⊥)
    → place ≡ record { frame = record { at = cond found (at + 1) at; to = to }; found = found }
    → IsPlaced stages width t answer place
placed stages width t brought answer prefix key rows from to at found place kind rest up sought r there apart
    e =
    subst (IsPlaced stages width t answer) (sym e) (record {
      from = from;
      at = at;
      brought = brought;
      prefix = prefix;
      kind = kind;
      rest = rest;
      rows = up.rows;
      sought = sought;
      yes = λ y. (let (l, h) = OnTrue_at y there in
          (l, ap (λ rs. slice_get rs at) r ∙ h, ap (λ b. cond b (at + 1) at) y));
      no = λ n. (
        ap (λ b. cond b (at + 1) at) n,
        λ row l h. OnFalse_at n apart row l (ap (λ rs. slice_get rs at) (sym r) ∙ h),
      );
    })

-- ---- what is left past a tuple

pub narrowed_past : (join : ReducedJoin) (before answer past : List ℕ) (frames : List Frame)
    (narrowed : Narrowed) (inclusive ready : Bool) → IsReduced join → IsFilled join →
    length past ≡ length join.classes → answer ≡ written before 0 past
    → IsNarrowed (stages_of join) (length join.classes) frames answer narrowed
    → ready ≡ (narrowed.found && inclusive) →
    AreAnswersPast join (is_past inclusive past)
    (left_of join (record { frames = frames; answer = answer; depth = narrowed.depth }) ready)
narrowed_past join before answer past frames narrowed inclusive ready is filled long wrote found e =
    let left : List (List ℕ) = left_in (stages_of join) frames answer narrowed.depth in
    let whole : take (length join.classes) answer ≡ past = ap (take (length join.classes)) wrote
    ∙ written-new before 0 past (length join.classes) (omega arith) (omega arith) in
    let given : filter (is_past inclusive past) (answers (stages_of join) []) ≡ cond ready
    (take (length join.classes) answer ∷ left) left =
    ap (λ v. filter (is_past inclusive v) (answers (stages_of join) [])) (sym whole) ∙ found.left_is inclusive
    ∙ ap (λ b. cond b (take (length join.classes) answer ∷ left) left) (sym e) in
    subst (AreAnswersPast join (is_past inclusive past)) given
    (answers_past join (is_past inclusive past) is filled)

-- ---- tests that were turned

pub not_true : (b : Bool) → not b ≡ true → b ≡ false
not_true true h = sym h
not_true false h = refl

pub not_false : (b : Bool) → not b ≡ false → b ≡ true
not_false true h = refl
not_false false h = sym h
