-- What the lines of a plan come to where steps are listed after it: a refusal or a list, and one outcome.
use Rattle.std.proofs.Common.{◌≡◌, ℕ, Bool, true, false, cond, List, [], ◌∷◌, map, length, Option, inl, inr}
use Rattle.std.proofs.Common.{refl, sym, ◌∙◌, ap, subst}
use Rattle.pl_task.specs.declared.plan.PlanLine.{PlanLine}
use Rattle.pl_task.specs.declared.plan.PlanLine.TheVariants as line
use Rattle.pl_task.specs.declared.task.Task.{Task}
use Rattle.pl_task.specs.Instance.{Instance}
use Rattle.pl_task.specs.States.{State, initial}
use Rattle.pl_task.specs.Goal.{is_goal}
use Rattle.pl_task.specs.Plans.{Executes}
use Rattle.pl_task.proofs.StateLemmas.{one_end}
use Rattle.pl_valid.specs.declared.verdict.Reason.{Reason}
use Rattle.pl_valid.specs.declared.verdict.Verdict.{Verdict}
use Rattle.pl_valid.specs.declared.verdict.Verdict.TheVariants.{Valid, Invalid, GoalMissed}
use Rattle.pl_valid.specs.Verdict.{IsFirstRefused, IsVerdict}
use Rattle.pl_top.specs.Answer.{Outcome, IsWorked, list_outcome, verdict_outcome}
use Rattle.pl_top.proofs.VerdictLemmas.{verdict_from, verdict_only, verdict_holds}

-- steps that make the same lines are the same
same_steps : (steps others : List Instance) → map line.Step steps ≡ map line.Step others → steps ≡ others
same_steps [] [] are = refl
same_steps [] (other ∷ others) are = cc
same_steps (step ∷ steps) [] are = cc
same_steps (step ∷ steps) (other ∷ others) are =
    let first : step ≡ other = cc in
    let tails : map line.Step steps ≡ map line.Step others = cc in
    let rest : steps ≡ others = same_steps steps others tails in cc

module _ (task : Task) (lines : List PlanLine) where
  -- the verdict on lines that are executed: by the goal, and never a refusal
  verdict_of_steps : (steps : List Instance) (last : State) → lines ≡ map line.Step steps →
      Executes task (initial task) steps last → (met : Bool) → is_goal task last ≡ met →
      IsVerdict task lines (cond met (Valid (length lines)) GoalMissed)
  verdict_of_steps steps last are executed true is = (refl, (steps, are, (last, executed, is)))
  verdict_of_steps steps last are executed false is =
      record { steps = steps; state = last; lines_are = are; executed = executed; missed = rw is refl }

  -- of lines that are executed none is refused
  not_refused : (number : ℕ) (why : Reason) → IsFirstRefused task lines number why → (steps : List Instance)
      (last : State) → lines ≡ map line.Step steps → Executes task (initial task) steps last → ⊥
  not_refused number why h steps last are executed =
      apart (is_goal task last)
      (sym (verdict_only task lines (cond (is_goal task last) (Valid (length lines)) GoalMissed)
      (verdict_of_steps steps last are executed (is_goal task last) refl)) ∙
      verdict_only task lines (Invalid number why) h)
    where
      apart : (met : Bool) → cond met (Valid (length lines)) GoalMissed ≡ Invalid number why → ⊥
      apart true same = cc
      apart false same = cc

  -- lines that are executed lead to one state
  one_state : (steps others : List Instance) (state other : State) → lines ≡ map line.Step steps →
      lines ≡ map line.Step others → Executes task (initial task) steps state →
      Executes task (initial task) others other → state ≡ other
  one_state steps others state other are are' executed executed' =
      let same : steps ≡ others = same_steps steps others (sym are ∙ are') in
      one_end task (initial task) state other others
      (subst (λ (ss : List Instance). Executes task (initial task) ss state) same executed) executed'

  -- lines come to one outcome
  pub worked_one : (past : Option Instance) (count : Option ℕ) (outcome other : Outcome) →
      IsWorked task lines past count outcome → IsWorked task lines past count other → outcome ≡ other
  worked_one past count outcome other (inl h) (inl k) =
      h.comes ∙
      ap verdict_outcome
      (sym (verdict_only task lines (Invalid h.number h.why) h.first) ∙
      verdict_only task lines (Invalid k.number k.why) k.first) ∙
      sym k.comes
  worked_one past count outcome other (inl h) (inr k) =
      absurd (not_refused h.number h.why h.first k.steps k.state k.lines_are k.executed)
  worked_one past count outcome other (inr h) (inl k) =
      absurd (not_refused k.number k.why k.first h.steps h.state h.lines_are h.executed)
  worked_one past count outcome other (inr h) (inr k) =
      let same : h.state ≡ k.state =
      one_state h.steps k.steps h.state k.state h.lines_are k.lines_are h.executed k.executed
      in
      h.comes ∙ ap (λ (s : State). list_outcome task s past count) same ∙ sym k.comes

  -- lines come to an outcome
  pub worked_there : (past : Option Instance) (count : Option ℕ) →
      (outcome : Outcome) × IsWorked task lines past count outcome
  worked_there past count =
      by_verdict (verdict_from task (initial task) 0 lines)
      (verdict_holds task lines lines [] (initial task) 0 refl refl refl)
    where
      list_there : (steps : List Instance) (state : State) → lines ≡ map line.Step steps →
          Executes task (initial task) steps state →
          (outcome : Outcome) × IsWorked task lines past count outcome
      list_there steps state are executed = (
        list_outcome task state past count,
        inr (record { steps = steps; state = state; lines_are = are; executed = executed; comes = refl }),
      )

      by_verdict : (v : Verdict) → IsVerdict task lines v →
          (outcome : Outcome) × IsWorked task lines past count outcome
      by_verdict (Valid n) (many, (steps, are, (last, executed, met))) = list_there steps last are executed
      by_verdict (Invalid number why) h = (
        verdict_outcome (Invalid number why),
        inl (record { number = number; why = why; first = h; comes = refl }),
      )
      by_verdict GoalMissed h = list_there h.steps h.state h.lines_are h.executed
