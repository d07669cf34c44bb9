-- What a listing starts from, or why it doesn't.
use Rattle.std.proofs.Common.{◌≡◌, ℕ, List, Option, Some, inl, inr, refl, sym, subst}
use denote.Ref.{Bor}
use Rattle.pl_task.specs.declared.plan.PlanLine.{PlanLine}
use Rattle.pl_task.specs.declared.task.Task.{Task}
use Rattle.pl_task.specs.Instance.{Instance}
use Rattle.pl_check.specs.PlanLines.{IsStepText}
use Rattle.pl_check.specs.Stated.{AreStated}
use Rattle.pl_print.specs.declared.fault.Fault.TheVariants as fault
use Rattle.pl_top.specs.declared.refusal.Refusal.{Refusal}
use Rattle.pl_top.specs.declared.refusal.Refusal.TheVariants as refused
use Rattle.pl_top.specs.Answer.{Outcome, refusal, AreLinesOfAny, IsFaultOfAny, IsNoStep, IsStepOfText}
use Rattle.pl_top.specs.Answer.{IsWorked, IsListed}
use Rattle.pl_top.specs.Asked.{bytes_in}
use Rattle.pl_top.specs.Refusal.{IsUnanswered}

-- a text that is no step is the outcome
pub no_step : (task : Task) (past : Option (Bor (List ℕ))) (text : Bor (List ℕ)) (bytes : List ℕ)
    → past ≡ Some text
    → bytes ≡ text.now → ((step : Instance) → IsStepText bytes task step → ⊥)
    → IsNoStep task (bytes_in past) (refusal 2 fault.NotAStep)
no_step task past text bytes is same refused =
    subst (λ (p : Option (Bor (List ℕ))). IsNoStep task (bytes_in p) (refusal 2 fault.NotAStep)) (sym is)
    ((λ step h. refused step (subst (λ (b : List ℕ). IsStepText b task step) (sym same) h)), refl)

-- what leads to an outcome leads to a further one
pub unanswered_weaker : (P Q : Outcome → Type 0) (r : Refusal) → ((outcome : Outcome) → P outcome → Q outcome)
    → IsUnanswered P r → IsUnanswered Q r
unanswered_weaker P Q (refused.CannotRead role) weaker h = absurd h
unanswered_weaker P Q (refused.TooLong role) weaker h = absurd h
unanswered_weaker P Q (refused.Input file line column kind) weaker h = weaker _ h
unanswered_weaker P Q refused.NotAStep weaker h = weaker _ h
unanswered_weaker P Q (refused.Memory error) weaker h = tt

module _ (domain problem : List ℕ) (plan text : Option (List ℕ)) (count : Option ℕ) (task : Task) where
  -- the task, the lines and the step are those of the files and the text
  pub is_start : (lines : List PlanLine) (past : Option Instance) → AreStated domain problem task
      → AreLinesOfAny plan task lines → IsStepOfText task text past → (outcome : Outcome)
      → IsWorked task lines past count outcome → IsListed domain problem plan text count outcome
  is_start lines past stated are step outcome worked = inr (record {
    task = task;
    stated = stated;
    listed = inr (record {
      lines = lines;
      are = are;
      comes = inr (record { past = past; is = step; worked = worked });
    });
  })

  -- the plan file is refused
  pub plan_refused : (r : Refusal) → AreStated domain problem task → IsUnanswered (IsFaultOfAny plan) r
      → IsUnanswered (IsListed domain problem plan text count) r
  plan_refused r stated = unanswered_weaker (IsFaultOfAny plan) (IsListed domain problem plan text count) r
      (λ outcome h. inr (record { task = task; stated = stated; listed = inl h }))

  -- the text is refused
  pub step_refused : (lines : List PlanLine) (r : Refusal) → AreStated domain problem task
      → AreLinesOfAny plan task lines → IsUnanswered (IsNoStep task text) r
      → IsUnanswered (IsListed domain problem plan text count) r
  step_refused lines r stated are = unanswered_weaker (IsNoStep task text)
      (IsListed domain problem plan text count) r
      (λ outcome h. inr (record {
        task = task;
        stated = stated;
        listed = inr (record { lines = lines; are = are; comes = inl h });
      }))
