-- The answers that are left before the first one.
use Rattle.std.proofs.Common.{◌≡◌, ◌-◌, ◌<◌, ℕ, Bool, true, List, [], ◌∷◌, ◌++◌, length, take, filter}
use Rattle.std.proofs.Common.{slice_range, slice_set, All, refl, sym, ap, ◌∙◌, subst, arith}
use Rattle.std.proofs.lemmas.List.{take_all, get_or-set_same, append-nil}
use Rattle.std.proofs.lemmas.List.Elements.{All-head}
use Rattle.std.proofs.lemmas.List.Kept.{IsStrictlySortedBy-filter}
use Rattle.pl_rows.specs.Rows.{begins_with, row_cmp}
use Rattle.pl_rows.proofs.Canonical.{Contains-nil, ascending-none}
use Rattle.pl_join.specs.Relation.{Assignment}
use Rattle.pl_join.proofs.Members.{Contains-filter, Contains-from_filter}
use Rattle.pl_reduce.specs.Nodes.{ReducedJoin}
use Rattle.pl_reduce.specs.Reduced.{IsReduced, JoinHolds}
use Rattle.pl_cursor.specs.Answers.{Stage, Frame, AreStages, key_of, matching, answers, through, stage_at}
use Rattle.pl_cursor.specs.Answers.{frame_at, rest_at}
use Rattle.pl_cursor.specs.Stages.{stages_of}
use Rattle.pl_cursor.specs.Cursor.{AreAnswersPast}
use Rattle.pl_cursor.specs.Kept.{NeverEnds, IsFrame, IsEntered, IsPosition}
use Rattle.pl_cursor.proofs.Ascent.{ascending}
use Rattle.pl_reduce.proofs.Filters.{filter_whole}
use Rattle.pl_cursor.proofs.Links.{IsFilled, stages_laid, never_ends, answers_of}

-- ---- the answers past something

-- an empty join has none
pub none_past : (join : ReducedJoin) (passes : List ℕ → Bool) → ((f : Assignment) → JoinHolds join f → ⊥)
    → AreAnswersPast join passes []
none_past join passes empty = record {
  ascending = ascending-none;
  members = λ row. (λ h. absurd (Contains-nil row h), λ ((f, h, e), p). absurd (empty f h));
}

-- those of the stages that pass
pub answers_past : (join : ReducedJoin) (passes : List ℕ → Bool) → IsReduced join → IsFilled join
    → AreAnswersPast join passes (filter passes (answers (stages_of join) []))
answers_past join passes is filled =
    let all : List (List ℕ) = answers (stages_of join) [] in
    record {
      ascending = IsStrictlySortedBy-filter row_cmp passes all
          (ascending (stages_of join) 0 (length join.classes) [] (stages_laid join is) refl);
      members = λ row. (
        λ h. (let (held, p) = Contains-from_filter passes all row h in
            ((answers_of join is filled row).0 held, p)),
        λ (h, p). Contains-filter passes all row ((answers_of join is filled row).1 h) p,
      );
    }

pub all_past : (join : ReducedJoin) → IsReduced join → IsFilled join
    → AreAnswersPast join (λ _. true) (answers (stages_of join) [])
all_past join is filled =
    subst (AreAnswersPast join (λ _. true))
    (filter_whole (λ _. true) (answers (stages_of join) []) (λ x h. refl))
    (answers_past join (λ _. true) is filled)

-- ---- no stage

-- where there is none, the join has no class
pub no_stage : (join : ReducedJoin) (answer : List ℕ) → IsReduced join → IsFilled join
    → length (stages_of join) ≡ 0 → AreAnswersPast join (λ _. true) (take (length join.classes) answer ∷ [])
no_stage join answer is filled none =
    subst (AreAnswersPast join (λ _. true))
    (empty (stages_of join) (length join.classes) none (stages_laid join is)) (all_past join is filled)
  where
    empty : (stages : List Stage) (width : ℕ) → length stages ≡ 0 → AreStages stages 0 width
        → answers stages [] ≡ take width answer ∷ []
    empty [] width e laid = ap (λ n. take n answer ∷ []) laid
    empty (stage ∷ stages) width e laid = absurd (omega arith)

-- ---- the first stage

no_keys : (keys : List ℕ) → All (λ k. k < 0) keys → keys ≡ []
no_keys [] h = refl
no_keys (k ∷ keys) h = let low = All-head (λ k. k < 0) k keys h in absurd (omega (arith, low))

-- all its rows go on with no values
pub whole_first : (stages : List Stage) (width : ℕ) (frames : List Frame) (answer : List ℕ) (to : ℕ)
    → AreStages stages 0 width → 0 < length stages → 0 < length frames
    → to ≡ length (stage_at stages 0).rows →
    rest_at stages (slice_set frames 0 (record { at = 0; to = to })) answer 0 ≡ answers stages []
whole_first [] width frames answer to laid l m e = absurd (omega arith)
whole_first (stage ∷ stages) width frames answer to (brought, is, rest) l m e =
    let keys : stage.keys ≡ [] = no_keys stage.keys is.keys in
    let all : matching stage [] ≡ stage.rows = ap (λ ks. filter (begins_with (key_of ks [])) stage.rows) keys
    ∙ filter_whole (begins_with []) stage.rows (λ row h. refl) in
    let here : frame_at (slice_set frames 0 (record { at = 0; to = to })) 0 ≡ record { at = 0; to = to } =
    get_or-set_same frames 0 (record { at = 0; to = to }) (record { at = 0; to = 0 }) m in
    let rows : slice_range stage.rows 0 to ≡ stage.rows = take_all (to - 0) stage.rows (omega arith) in
    (λ i. through stages stage (take (is.from i) answer) (slice_range stage.rows (here i).at (here i).to))
    ∙ ap (through stages stage []) (rows ∙ sym all)

pub first_entered : (stages : List Stage) (width : ℕ) (frames : List Frame) (answer : List ℕ) (to : ℕ)
    → AreStages stages 0 width → NeverEnds stages [] → 0 < length stages → 0 < length frames
    → to ≡ length (stage_at stages 0).rows →
    IsEntered stages (slice_set frames 0 (record { at = 0; to = to })) answer 0
first_entered [] width frames answer to laid onward l m e = absurd (omega arith)
first_entered (stage ∷ stages) width frames answer to (brought, is, rest) onward l m e =
    let keys : stage.keys ≡ [] = no_keys stage.keys is.keys in
    let here : frame_at (slice_set frames 0 (record { at = 0; to = to })) 0 ≡ record { at = 0; to = to } =
    get_or-set_same frames 0 (record { at = 0; to = to }) (record { at = 0; to = 0 }) m in
    let frame : IsFrame stage (record { at = 0; to = to }) (take stage.from answer) = record {
      within = omega arith;
      matching = λ place row g h at. subst (λ ks. take (length ks) row ≡ key_of ks (take stage.from answer))
          (sym keys) refl;
    } in
    record {
      frame = subst (λ f. IsFrame stage f (take stage.from answer)) (sym here) frame;
      onward = subst (λ n. NeverEnds (stage ∷ stages) (take n answer)) (sym is.from) onward;
    }

-- a join that has stages and is not empty starts with all rows of the first stage
pub at_first : (join : ReducedJoin) (frames : List Frame) (answer : List ℕ) (to : ℕ) → IsReduced join
    → IsFilled join → 0 < length (stages_of join) → 0 < length frames
    → to ≡ length (stage_at (stages_of join) 0).rows →
    IsPosition (stages_of join)
    (record { frames = slice_set frames 0 (record { at = 0; to = to }); answer = answer; depth = 1 })
at_first join frames answer to is filled l m e = record {
  depth = omega arith;
  entered = λ t h. (let zero_is : 0 ≡ t = omega arith in
      subst (IsEntered (stages_of join) (slice_set frames 0 (record { at = 0; to = to })) answer) zero_is
      (first_entered (stages_of join) (length join.classes) frames answer to (stages_laid join is)
      (never_ends join is filled) l m e));
}

pub from_first : (join : ReducedJoin) (frames : List Frame) (answer : List ℕ) (to : ℕ) → IsReduced join
    → IsFilled join → 0 < length (stages_of join) → 0 < length frames
    → to ≡ length (stage_at (stages_of join) 0).rows →
    AreAnswersPast join (λ _. true)
    (rest_at (stages_of join) (slice_set frames 0 (record { at = 0; to = to })) answer 0 ++ [])
from_first join frames answer to is filled l m e =
    subst (AreAnswersPast join (λ _. true))
    (sym (append-nil (rest_at (stages_of join) (slice_set frames 0 (record { at = 0; to = to })) answer 0)
    ∙ whole_first (stages_of join) (length join.classes) frames answer to (stages_laid join is) l m e))
    (all_past join is filled)
