-- The verdict on a list of lines, as a function of the lines: it is one, and there is no other.
use Rattle.std.proofs.Common.{◌≡◌, ℕ, ◌+◌, Bool, true, false, cond, List, [], ◌∷◌, ◌++◌, map, length, refl}
use Rattle.std.proofs.Common.{sym, ◌∙◌, ap, arith, IsTrue, ◌↔◌}
use Rattle.std.proofs.lemmas.Bool.{not-true}
use Rattle.std.proofs.lemmas.List.{append-nil, append_assoc, length-append, length-map, map-append}
use Rattle.pl_task.specs.declared.plan.PlanLine.{PlanLine}
use Rattle.pl_task.specs.declared.plan.PlanLine.TheVariants as line
use Rattle.pl_task.specs.declared.task.Task.{Task}
use Rattle.pl_task.specs.Instance.{Instance}
use Rattle.pl_task.specs.States.{State, IsApplicable, is_applicable, result_of, initial}
use Rattle.pl_task.specs.Goal.{is_goal}
use Rattle.pl_task.specs.Plans.{Executes}
use Rattle.pl_task.proofs.StateLemmas.{executes_joined}
use Rattle.pl_task.proofs.TypeLemmas.{is_applicable-decides}
use Rattle.pl_valid.specs.declared.verdict.Reason.{Reason}
use Rattle.pl_valid.specs.declared.verdict.Reason.TheVariants as reason
use Rattle.pl_valid.specs.declared.verdict.Verdict.{Verdict}
use Rattle.pl_valid.specs.declared.verdict.Verdict.TheVariants as verdict
use Rattle.pl_valid.specs.Verdict.{IsRefused, IsFirstRefused, IsVerdict}

-- the verdict on the lines that are left, in this state, after so many lines
abbrev pub verdict_from : Task → State → ℕ → List PlanLine → Verdict
verdict_from task s done [] = cond (is_goal task s) (verdict.Valid done) verdict.GoalMissed
verdict_from task s done (line.Step step ∷ rest) =
    cond (is_applicable task s step) (verdict_from task (result_of task s step) (done + 1) rest)
    (verdict.Invalid (done + 1) reason.Inapplicable)
verdict_from task s done (line.UnknownAction ∷ rest) = verdict.Invalid (done + 1) reason.UnknownAction
verdict_from task s done (line.Arguments ∷ rest) = verdict.Invalid (done + 1) reason.Arguments
verdict_from task s done (line.UnknownObject ∷ rest) = verdict.Invalid (done + 1) reason.UnknownObject

-- ---- there is no other

-- steps that are executed are passed over
passed : (task : Task) (s last : State) (done after : ℕ) (steps : List Instance) (rest : List PlanLine) →
    Executes task s steps last → after ≡ length steps + done →
    verdict_from task s done (map line.Step steps ++ rest) ≡ verdict_from task last after rest
passed task s last done after [] rest executed is =
    let same : done ≡ after = omega (arith, is) in
    ap (λ t. verdict_from task t done rest) executed ∙ ap (λ n. verdict_from task last n rest) same
passed task s last done after (step ∷ steps) rest executed is =
    let applicable : is_applicable task s step ≡ true = (is_applicable-decides task s step).1 executed.0 in
    rw applicable
    (passed task (result_of task s step) last (done + 1) after steps rest executed.1 (omega (arith, is)))

-- a test is false where what it decides isn't so
decided_false : (b : Bool) (P : Type 0) → IsTrue b ↔ P → (P → ⊥) → b ≡ false
decided_false true P decides never = absurd (never (decides.0 refl))
decided_false false P decides never = refl

-- a line that is refused decides
stopped : (task : Task) (s : State) (done : ℕ) (at : PlanLine) (rest : List PlanLine) (why : Reason) →
    IsRefused task s at why → verdict_from task s done (at ∷ rest) ≡ verdict.Invalid (done + 1) why
stopped task s done (line.Step step) rest why refused =
    let not_applicable : is_applicable task s step ≡ false =
    decided_false (is_applicable task s step) (IsApplicable task s step)
    (is_applicable-decides task s step) refused.1
    in
    rw not_applicable (ap (verdict.Invalid (done + 1)) (sym refused.0))
stopped task s done line.UnknownAction rest why refused = ap (verdict.Invalid (done + 1)) (sym refused)
stopped task s done line.Arguments rest why refused = ap (verdict.Invalid (done + 1)) (sym refused)
stopped task s done line.UnknownObject rest why refused = ap (verdict.Invalid (done + 1)) (sym refused)

-- all lines are steps that are executed
ended : (task : Task) (lines : List PlanLine) (steps : List Instance) (last : State)
    → lines ≡ map line.Step steps →
    Executes task (initial task) steps last →
    verdict_from task (initial task) 0 lines ≡ verdict_from task last (length steps) []
ended task lines steps last are executed =
    ap (verdict_from task (initial task) 0) (are ∙ sym (append-nil (map line.Step steps))) ∙
    passed task (initial task) last 0 (length steps) steps [] executed (omega arith)

pub verdict_only : (task : Task) (lines : List PlanLine) (v : Verdict) → IsVerdict task lines v →
    verdict_from task (initial task) 0 lines ≡ v
verdict_only task lines (verdict.Valid n) (count, (steps, are, (last, executed, met))) =
    let many : length steps ≡ n = sym (count ∙ ap length are ∙ length-map steps line.Step) in
    ended task lines steps last are executed ∙ (rw met (ap verdict.Valid many))
verdict_only task lines (verdict.Invalid number why) h =
    ap (verdict_from task (initial task) 0) h.lines_are ∙
    passed task (initial task) h.state 0 (length h.before) h.before (h.at ∷ h.after) h.executed
    (omega arith) ∙
    stopped task h.state (length h.before) h.at h.after why h.refused ∙
    ap (λ n. verdict.Invalid n why) (sym h.counted)
verdict_only task lines verdict.GoalMissed h =
    let missed : is_goal task h.state ≡ false = not-true (is_goal task h.state) h.missed in
    ended task lines h.steps h.state h.lines_are h.executed ∙ (rw missed refl)

-- ---- it is one

module _ (task : Task) (lines : List PlanLine) where
  -- a line that is refused after steps that are executed
  refused_here : (done : List Instance) (s : State) (at : PlanLine) (rest : List PlanLine) (number : ℕ)
      (why : Reason) →
      Executes task (initial task) done s → lines ≡ map line.Step done ++ at ∷ rest
      → number ≡ length done + 1 →
      IsRefused task s at why → IsFirstRefused task lines number why
  refused_here done s at rest number why executed are counted refused = record {
    before = done;
    at = at;
    after = rest;
    state = s;
    lines_are = are;
    counted = counted;
    executed = executed;
    refused = refused;
  }

  -- no line is left
  all_done : (done : List Instance) (s : State) (count : ℕ) → Executes task (initial task) done s →
      lines ≡ map line.Step done → count ≡ length done → (met : Bool) → is_goal task s ≡ met →
      IsVerdict task lines (cond met (verdict.Valid count) verdict.GoalMissed)
  all_done done s count executed are counted true is =
      (counted ∙ sym (ap length are ∙ length-map done line.Step), (done, are, (s, executed, is)))
  all_done done s count executed are counted false is =
      record { steps = done; state = s; lines_are = are; executed = executed; missed = rw is refl }

  -- the verdict on the lines that are left is that on all, where those before them are steps that are
  -- executed
  pub verdict_holds : (rest : List PlanLine) (done : List Instance) (s : State) (count : ℕ) →
      Executes task (initial task) done s → lines ≡ map line.Step done ++ rest → count ≡ length done →
      IsVerdict task lines (verdict_from task s count rest)
  verdict_holds [] done s count executed are counted =
      all_done done s count executed (are ∙ append-nil (map line.Step done)) counted (is_goal task s) refl
  verdict_holds (line.Step step ∷ rest) done s count executed are counted =
      by_test (is_applicable task s step) refl
      (λ applicable. verdict_holds rest (done ++ step ∷ []) (result_of task s step) (count + 1)
      (executes_joined task (initial task) s (result_of task s step) done (step ∷ []) executed
      ((is_applicable-decides task s step).0 applicable, refl))
      (are ∙ sym (append_assoc (map line.Step done) (line.Step step ∷ []) rest) ∙
      ap (λ ls. ls ++ rest) (sym (map-append line.Step done (step ∷ []))))
      (omega (arith, counted, length-append done (step ∷ []))))
    where
      by_test : (b : Bool) → is_applicable task s step ≡ b →
          (is_applicable task s step ≡ true →
          IsVerdict task lines (verdict_from task (result_of task s step) (count + 1) rest)) →
          IsVerdict task lines (cond b (verdict_from task (result_of task s step) (count + 1) rest)
          (verdict.Invalid (count + 1) reason.Inapplicable))
      by_test true is further = further is
      by_test false is further =
          refused_here done s (line.Step step) rest (count + 1) reason.Inapplicable executed are
          (omega (arith, counted)) (
            refl,
            λ applicable.
                (let yes_it_is = sym is ∙ (is_applicable-decides task s step).1 applicable in cc),
          )
  verdict_holds (line.UnknownAction ∷ rest) done s count executed are counted =
      refused_here done s line.UnknownAction rest (count + 1) reason.UnknownAction executed are
      (omega (arith, counted)) refl
  verdict_holds (line.Arguments ∷ rest) done s count executed are counted =
      refused_here done s line.Arguments rest (count + 1) reason.Arguments executed are
      (omega (arith, counted)) refl
  verdict_holds (line.UnknownObject ∷ rest) done s count executed are counted =
      refused_here done s line.UnknownObject rest (count + 1) reason.UnknownObject executed are
      (omega (arith, counted)) refl
