-- What a verdict says of the lines of a plan.
use Rattle.std.specs.Prelude.{◌≡◌, ℕ, ◌+◌, not, IsTrue, List, ◌∷◌, ◌++◌, map, length}
use Rattle.pl_task.specs.declared.plan.PlanLine.{PlanLine}
use Rattle.pl_task.specs.declared.plan.PlanLine.TheVariants as line
use Rattle.pl_task.specs.declared.task.Task.{Task}
use Rattle.pl_task.specs.Instance.{Instance}
use Rattle.pl_task.specs.States.{State, IsStep, IsApplicable, initial}
use Rattle.pl_task.specs.Goal.{is_goal}
use Rattle.pl_task.specs.Plans.{Executes, IsPlan}
use Rattle.pl_valid.specs.declared.verdict.Reason.{Reason}
use Rattle.pl_valid.specs.declared.verdict.Reason.TheVariants as reason
use Rattle.pl_valid.specs.declared.verdict.Verdict.{Verdict}
use Rattle.pl_valid.specs.declared.verdict.Verdict.TheVariants as verdict

-- a line that names a step names one of the task
abbrev pub IsLineOf : Task → PlanLine → Type 0
IsLineOf task l = (step : Instance) → l ≡ line.Step step → IsStep task step

-- the line is no step, or it is one that is not applicable in the state, and the reason says which
abbrev pub IsRefused : Task → State → PlanLine → Reason → Type 0
IsRefused task s (line.Step step) why = (why ≡ reason.Inapplicable) × (IsApplicable task s step → ⊥)
IsRefused task s line.UnknownAction why = why ≡ reason.UnknownAction
IsRefused task s line.Arguments why = why ≡ reason.Arguments
IsRefused task s line.UnknownObject why = why ≡ reason.UnknownObject

-- the lines are steps that are executed from the initial state, then a line that is refused in the state that
-- they lead to, whose number from 1 is given, then any others
pub record IsFirstRefused (task : Task) (lines : List PlanLine) (number : ℕ) (why : Reason) : Type 0 where
  pub before : List Instance
  pub at : PlanLine
  pub after : List PlanLine
  pub state : State
  pub lines_are : lines ≡ map line.Step before ++ at ∷ after
  pub counted : number ≡ length before + 1
  pub executed : Executes task (initial task) before state
  pub refused : IsRefused task state at why

-- the lines are steps that are executed from the initial state and lead to a state that is no goal state
pub record IsMissed (task : Task) (lines : List PlanLine) : Type 0 where
  pub steps : List Instance
  pub state : State
  pub lines_are : lines ≡ map line.Step steps
  pub executed : Executes task (initial task) steps state
  pub missed : IsTrue (not (is_goal task state))

-- valid: the lines are the steps of a plan, and so many
abbrev pub IsVerdict : Task → List PlanLine → Verdict → Type 0
IsVerdict task lines (verdict.Valid n) = (n ≡ length lines) ×
    ((steps : List Instance) × (lines ≡ map line.Step steps) × IsPlan task steps)
IsVerdict task lines (verdict.Invalid number why) = IsFirstRefused task lines number why
IsVerdict task lines verdict.GoalMissed = IsMissed task lines
