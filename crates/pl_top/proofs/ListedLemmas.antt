-- The outcome of `successors` for the bytes of its files and the text of a step: it is one, and there is one.
use Rattle.std.proofs.Common.{◌≡◌, ℕ, ◌≤◌, nat_le, Bool, true, false, List, [], ◌∷◌, length, Option, None}
use Rattle.std.proofs.Common.{Some, ◌⊎◌, inl, inr, refl, sym, ◌∙◌, ap, subst}
use Rattle.std.specs.Prelude.{⊤}
use Rattle.std.proofs.lemmas.Bool.{leb-true, le-leb}
use Rattle.pl_io.specs.Outside.{most_file_bytes}
use Rattle.pl_task.specs.declared.plan.PlanLine.{PlanLine}
use Rattle.pl_task.specs.declared.plan.PlanLine.TheVariants as line
use Rattle.pl_task.specs.declared.task.Task.{Task}
use Rattle.pl_task.specs.Instance.{Instance}
use Rattle.pl_check.specs.Laws.{FirstFaultIsOne, TaskIsOne, FaultOrTask}
use Rattle.pl_check.specs.Laws.{FaultExcludesTask, LinesAreOne, PlanFaultIsOne, HasPlanFault, HasLines}
use Rattle.pl_check.specs.Laws.{FaultOrLines, FaultExcludesLines}
use Rattle.pl_check.specs.PlanLines.{AreLines, IsStepText}
use Rattle.pl_print.specs.declared.fault.Fault.TheVariants as fault
use Rattle.pl_top.specs.Answer.{Outcome, IsFaultOfAny, AreLinesOfAny, IsNoStep, IsStepOfText, IsPastStep}
use Rattle.pl_top.specs.Answer.{IsListOfLines, IsTaskListed, IsWorked, IsListed, faulty, refusal}
use Rattle.pl_top.proofs.StatedLemmas.{input_one, input_there}
use Rattle.pl_top.proofs.WorkedLemmas.{worked_one, worked_there}

-- ---- one at most

-- a text that is no step is no step
not_both : (task : Task) (text : Option (List ℕ)) (past : Option Instance) (outcome : Outcome) →
    IsNoStep task text outcome → IsStepOfText task text past → ⊥
not_both task None past outcome none step = none
not_both task (Some text) None outcome none step = step
not_both task (Some text) (Some past) outcome none step = none.0 past step

-- a text that is no step has one outcome
no_step_one : (task : Task) (text : Option (List ℕ)) (outcome other : Outcome) → IsNoStep task text outcome →
    IsNoStep task text other → outcome ≡ other
no_step_one task None outcome other h k = absurd h
no_step_one task (Some text) outcome other h k = h.1 ∙ sym k.1

module _ (lines_one : LinesAreOne) where
  -- a text is one step at most
  step_one : (text : List ℕ) (task : Task) (step other : Instance) → IsStepText text task step →
      IsStepText text task other → step ≡ other
  step_one text task step other h k =
      let same : line.Step step ∷ [] ≡ line.Step other ∷ [] =
      lines_one text task (line.Step step ∷ []) (line.Step other ∷ []) h.line k.line
      in cc

  past_one : (task : Task) (text : Option (List ℕ)) (past other : Option Instance) →
      IsStepOfText task text past → IsStepOfText task text other → past ≡ other
  past_one task None None None h k = refl
  past_one task None None (Some other) h k = absurd k
  past_one task None (Some past) other h k = absurd h
  past_one task (Some text) None other h k = absurd h
  past_one task (Some text) (Some past) None h k = absurd k
  past_one task (Some text) (Some past) (Some other) h k = ap Some (step_one text task past other h k)

  -- the lines of a plan file, or of none, are one
  any_lines_one : (plan : Option (List ℕ)) (task : Task) (lines others : List PlanLine) →
      AreLinesOfAny plan task lines → AreLinesOfAny plan task others → lines ≡ others
  any_lines_one None task lines others h k = h ∙ sym k
  any_lines_one (Some plan) task lines others h k = lines_one plan task lines others h k

  -- with these lines a text has one outcome
  text_one : (task : Task) (lines : List PlanLine) (text : Option (List ℕ)) (count : Option ℕ)
      (outcome other : Outcome) → IsNoStep task text outcome ⊎ IsPastStep task lines text count outcome →
      IsNoStep task text other ⊎ IsPastStep task lines text count other → outcome ≡ other
  text_one task lines text count outcome other (inl h) (inl k) = no_step_one task text outcome other h k
  text_one task lines text count outcome other (inl h) (inr k) =
      absurd (not_both task text k.past outcome h k.is)
  text_one task lines text count outcome other (inr h) (inl k) =
      absurd (not_both task text h.past other k h.is)
  text_one task lines text count outcome other (inr h) (inr k) =
      let same : h.past ≡ k.past = past_one task text h.past k.past h.is k.is in
      worked_one task lines k.past count outcome other
      (subst (λ (p : Option Instance). IsWorked task lines p count outcome) same h.worked) k.worked

  -- a plan file with lines has one outcome
  lines_listed : (task : Task) (plan text : Option (List ℕ)) (count : Option ℕ) (outcome other : Outcome) →
      IsListOfLines task plan text count outcome → IsListOfLines task plan text count other → outcome ≡ other
  lines_listed task plan text count outcome other h k =
      let same : h.lines ≡ k.lines = any_lines_one plan task h.lines k.lines h.are k.are in
      text_one task k.lines text count outcome other
      (subst (λ (ls : List PlanLine). IsNoStep task text outcome ⊎ IsPastStep task ls text count outcome) same
      h.comes) k.comes

module _ (first_one : FirstFaultIsOne) (task_one : TaskIsOne) (excludes_task : FaultExcludesTask)
    (plan_one : PlanFaultIsOne) (lines_one : LinesAreOne) (excludes_lines : FaultExcludesLines) where
  -- a plan file has one fault, and none has none
  fault_one : (plan : Option (List ℕ)) (outcome other : Outcome) → IsFaultOfAny plan outcome →
      IsFaultOfAny plan other → outcome ≡ other
  fault_one None outcome other h k = absurd h
  fault_one (Some plan) outcome other h k =
      h.comes ∙ ap (faulty plan) (plan_one plan h.found k.found h.is_first k.is_first) ∙ sym k.comes

  -- a plan file with a fault has no lines
  fault_apart : (plan : Option (List ℕ)) (task : Task) (lines : List PlanLine) (outcome : Outcome) →
      IsFaultOfAny plan outcome → AreLinesOfAny plan task lines → ⊥
  fault_apart None task lines outcome h are = h
  fault_apart (Some plan) task lines outcome h are = excludes_lines plan task h.found lines h.is_first are

  plan_listed : (task : Task) (plan text : Option (List ℕ)) (count : Option ℕ) (outcome other : Outcome) →
      IsFaultOfAny plan outcome ⊎ IsListOfLines task plan text count outcome →
      IsFaultOfAny plan other ⊎ IsListOfLines task plan text count other → outcome ≡ other
  plan_listed task plan text count outcome other (inl h) (inl k) = fault_one plan outcome other h k
  plan_listed task plan text count outcome other (inl h) (inr k) =
      absurd (fault_apart plan task k.lines outcome h k.are)
  plan_listed task plan text count outcome other (inr h) (inl k) =
      absurd (fault_apart plan task h.lines other k h.are)
  plan_listed task plan text count outcome other (inr h) (inr k) =
      lines_listed lines_one task plan text count outcome other h k

  -- the bytes of the files, the text and the number have one outcome
  pub listed_one : (domain problem : List ℕ) (plan text : Option (List ℕ)) (count : Option ℕ)
      (outcome other : Outcome) → IsListed domain problem plan text count outcome →
      IsListed domain problem plan text count other → outcome ≡ other
  listed_one domain problem plan text count outcome other =
      input_one first_one task_one excludes_task domain problem outcome other
      (IsTaskListed domain problem plan text count)
      (λ o task. IsFaultOfAny plan o ⊎ IsListOfLines task plan text count o)
      (λ o h. (h.task, h.stated, h.listed)) (λ task. plan_listed task plan text count outcome other)

-- ---- there is one

-- a plan file, where there is one, is within the limit
abbrev pub IsShort : Option (List ℕ) → Type 0
IsShort None = ⊤
IsShort (Some bytes) = length bytes ≤ most_file_bytes

-- a text is no step of the task, or one, or none is given
abbrev pub IsStepOrNone : Task → Option (List ℕ) → Type 0
IsStepOrNone task text =
    IsNoStep task text (refusal 2 fault.NotAStep) ⊎ ((past : Option Instance) × IsStepOfText task text past)

module _ (fault_or_lines : FaultOrLines) (excludes_lines : FaultExcludesLines) (lines_one : LinesAreOne) where
  -- lines other than that of one step
  other_lines : (task : Task) (text : List ℕ) (lines : List PlanLine) → AreLines text task lines →
      ((step : Instance) → lines ≡ line.Step step ∷ [] → ⊥) → IsStepOrNone task (Some text)
  other_lines task text lines are others =
      inl (λ step h. others step (lines_one text task lines (line.Step step ∷ []) are h.line), refl)

  -- the lines of a text decide whether it is a step
  step_by_lines : (task : Task) (text : List ℕ) → length text ≤ 16777216 → (lines : List PlanLine) →
      AreLines text task lines → IsStepOrNone task (Some text)
  step_by_lines task text short (line.Step step ∷ []) are =
      inr (Some step, record { short = short; line = are })
  step_by_lines task text short [] are = other_lines task text [] are (λ step same. cc)
  step_by_lines task text short (line.Step step ∷ next ∷ rest) are =
      other_lines task text (line.Step step ∷ next ∷ rest) are (λ step same. cc)
  step_by_lines task text short (line.UnknownAction ∷ rest) are =
      other_lines task text (line.UnknownAction ∷ rest) are (λ step same. cc)
  step_by_lines task text short (line.Arguments ∷ rest) are =
      other_lines task text (line.Arguments ∷ rest) are (λ step same. cc)
  step_by_lines task text short (line.UnknownObject ∷ rest) are =
      other_lines task text (line.UnknownObject ∷ rest) are (λ step same. cc)

  -- whether a text is a step is decided
  step_decided : (task : Task) (text : Option (List ℕ)) → IsStepOrNone task text
  step_decided task None = inr (None, tt)
  step_decided task (Some text) = by_length (nat_le (length text) 16777216) refl
    where
      by_file : length text ≤ 16777216 → HasPlanFault text ⊎ HasLines text task →
          IsStepOrNone task (Some text)
      by_file short (inl faulted) =
          inl (λ step h. excludes_lines text task faulted.0 (line.Step step ∷ []) faulted.1 h.line, refl)
      by_file short (inr lined) = step_by_lines task text short lined.0 lined.1

      by_length : (short : Bool) → nat_le (length text) 16777216 ≡ short → IsStepOrNone task (Some text)
      by_length true test =
          (let short = leb-true (length text) 16777216 test in by_file short (fault_or_lines text task short))
      by_length false test =
          inl (λ step h. (let is_short = le-leb (length text) 16777216 h.short in cc), refl)

  -- with these lines a text gives an outcome
  text_there : (task : Task) (lines : List PlanLine) (text : Option (List ℕ)) (count : Option ℕ) →
      (outcome : Outcome) × (IsNoStep task text outcome ⊎ IsPastStep task lines text count outcome)
  text_there task lines text count = by_text (step_decided task text)
    where
      by_text : IsStepOrNone task text →
          (outcome : Outcome) × (IsNoStep task text outcome ⊎ IsPastStep task lines text count outcome)
      by_text (inl none) = (refusal 2 fault.NotAStep, inl none)
      by_text (inr (past, is)) =
          (let found = worked_there task lines past count in
          (found.0, inr (record { past = past; is = is; worked = found.1 })))

  -- a plan file, or none, gives an outcome
  plan_there : (task : Task) (plan text : Option (List ℕ)) (count : Option ℕ) → IsShort plan →
      (outcome : Outcome) × (IsFaultOfAny plan outcome ⊎ IsListOfLines task plan text count outcome)
  plan_there task None text count short =
      let found = text_there task [] text count in
      (found.0, inr (record { lines = []; are = refl; comes = found.1 }))
  plan_there task (Some plan) text count short = by_plan (fault_or_lines plan task short)
    where
      by_plan : HasPlanFault plan ⊎ HasLines plan task → (outcome : Outcome) ×
          (IsFaultOfAny (Some plan) outcome ⊎ IsListOfLines task (Some plan) text count outcome)
      by_plan (inl faulted) =
          (faulty plan faulted.0, inl (record { found = faulted.0; is_first = faulted.1; comes = refl }))
      by_plan (inr lined) =
          (let found = text_there task lined.0 text count in
          (found.0, inr (record { lines = lined.0; are = lined.1; comes = found.1 })))

  -- files that are read whole give an outcome
  pub listed_there : FaultOrTask → (domain problem : List ℕ) (plan text : Option (List ℕ))
      (count : Option ℕ) → length domain ≤ most_file_bytes → length problem ≤ most_file_bytes → IsShort plan →
      (outcome : Outcome) × IsListed domain problem plan text count outcome
  listed_there fault_or_task domain problem plan text count dle ple lle =
      input_there fault_or_task domain problem (IsTaskListed domain problem plan text count) dle ple
      (λ task stated. (let found = plan_there task plan text count lle in
      (found.0, record { task = task; stated = stated; listed = found.1 })))
