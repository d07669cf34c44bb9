-- Stages that follow one another: where each of them stands.
use Rattle.std.proofs.Common.{◌≡◌, ◌+◌, ◌<◌, ◌≤◌, ℕ, zero, suc, List, [], ◌∷◌, length, drop, sym, subst}
use Rattle.std.proofs.Common.{arith}
use Rattle.std.proofs.lemmas.List.{drop_more}
use Rattle.pl_cursor.specs.Answers.{Stage, IsStage, AreStages, stage_at}

-- what stands before the first stage is no more than the end
pub before-width : (stages : List Stage) (before width : ℕ) → AreStages stages before width → before ≤ width
before-width [] before width e = omega arith
before-width (stage ∷ stages) before width (brought, is, rest) =
    let more : before + brought ≤ width = before-width stages (before + brought) width rest in omega arith

-- a stage and those behind it
pub stages_at : (stages : List Stage) (before width t : ℕ) → AreStages stages before width
    → t < length stages →
    (brought : ℕ) × IsStage (stage_at stages t) (stage_at stages t).from brought
    × AreStages (drop (t + 1) stages) ((stage_at stages t).from + brought) width
stages_at [] before width t are l = absurd (omega arith)
stages_at (stage ∷ stages) before width zero (brought, is, rest) l = (
  brought,
  subst (λ n. IsStage stage n brought) (sym is.from) is,
  subst (λ n. AreStages stages (n + brought) width) (sym is.from) rest,
)
stages_at (stage ∷ stages) before width (suc t) (brought, is, rest) l =
    let count : suc t + 1 ≡ suc (t + 1) = omega arith in
    rw count (stages_at stages (before + brought) width t rest (omega arith))

-- the stages from one on
pub stages_from : (stages : List Stage) (before width t : ℕ) → AreStages stages before width
    → t < length stages → AreStages (drop t stages) (stage_at stages t).from width
stages_from stages before width t are l =
    let (brought, is, rest) = stages_at stages before width t are l in
    rw (drop_more stages t (record { from = 0; keys = []; rows = [] }) l) (brought, is, rest)

-- the stages behind a stage: the next of them stands behind what that stage brings
pub next_from : (stages : List Stage) (before width : ℕ) → AreStages stages before width → 0 < length stages
    → (stage_at stages 0).from ≡ before
next_from [] before width are l = absurd (omega arith)
next_from (stage ∷ stages) before width (brought, is, rest) l = is.from

-- no stage stands before the first
pub from_lowest : (stages : List Stage) (before width t : ℕ) → AreStages stages before width
    → t < length stages → before ≤ (stage_at stages t).from
from_lowest [] before width t are l = absurd (omega arith)
from_lowest (stage ∷ stages) before width zero (brought, is, rest) l = omega (arith, is.from)
from_lowest (stage ∷ stages) before width (suc t) (brought, is, rest) l =
    let more : before + brought ≤ (stage_at stages t).from =
    from_lowest stages (before + brought) width t rest (omega arith) in
    omega arith

-- and none behind a later one
pub from_rises : (stages : List Stage) (before width s t : ℕ) → AreStages stages before width → s ≤ t
    → t < length stages → (stage_at stages s).from ≤ (stage_at stages t).from
from_rises [] before width s t are l h = absurd (omega arith)
from_rises (stage ∷ stages) before width zero t are l h =
    let first : stage.from ≡ before = next_from (stage ∷ stages) before width are (omega arith) in
    let low : before ≤ (stage_at (stage ∷ stages) t).from = from_lowest
    (stage ∷ stages) before width t are h in
    omega arith
from_rises (stage ∷ stages) before width (suc s) zero are l h = absurd (omega arith)
from_rises (stage ∷ stages) before width (suc s) (suc t) (brought, is, rest) l h =
    from_rises stages (before + brought) width s t rest (omega arith) (omega arith)
