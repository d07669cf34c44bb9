-- The state that the lines of a plan lead to.
use Rattle.std.specs.Prelude.{◌≡◌, ℕ, List, [], ◌∷◌, map, Option, Some, None}
use Rattle.pl_task.specs.declared.plan.PlanLine.{PlanLine}
use Rattle.pl_task.specs.declared.plan.PlanLine.TheVariants as line
use Rattle.pl_task.specs.declared.task.Task.{Task}
use Rattle.pl_task.specs.Instance.{Instance}
use Rattle.pl_task.specs.States.{State, initial, result_of}
use Rattle.pl_task.specs.Plans.{Executes}
use Rattle.pl_valid.specs.declared.verdict.Reason.{Reason}
use Rattle.pl_valid.specs.declared.verdict.Verdict.{Verdict}
use Rattle.pl_valid.specs.declared.verdict.Verdict.TheVariants.{Invalid}
use Rattle.pl_valid.specs.Verdict.{IsFirstRefused}
use Rattle.pl_state.specs.StateOf.{state_in, IsStateOf}
use Rattle.pl_top.specs.declared.reaching.Destination.{Destination}
use Rattle.pl_top.specs.declared.reaching.Destination.TheVariants as destination

-- the state after a line, where a line that is no step changes nothing
abbrev pub after_line : Task → State → PlanLine → State
after_line task s (line.Step step) = result_of task s step
after_line task s line.UnknownAction = s
after_line task s line.Arguments = s
after_line task s line.UnknownObject = s

-- the state after the lines
abbrev pub after_lines : Task → State → List PlanLine → State
after_lines task s [] = s
after_lines task s (l ∷ lines) = after_lines task (after_line task s l) lines

-- the lines are steps that are executed from the initial state, and lead to the state
pub record AreExecuted (task : Task) (lines : List PlanLine) (state : State) : Type 0 where
  pub steps : List Instance
  pub lines_are : lines ≡ map line.Step steps
  pub executed : Executes task (initial task) steps state

-- a line is refused, which is the verdict
pub record IsRefusedBy (task : Task) (lines : List PlanLine) (verdict : Verdict) : Type 0 where
  pub number : ℕ
  pub why : Reason
  pub is : verdict ≡ Invalid number why
  pub first : IsFirstRefused task lines number why

-- the verdict that refuses a line, and none where the lines are executed
abbrev pub IsRefusalOf : Task → List PlanLine → Option Verdict → Type 0
IsRefusalOf task lines None = AreExecuted task lines (after_lines task (initial task) lines)
IsRefusalOf task lines (Some verdict) = IsRefusedBy task lines verdict

-- what the lines lead to: a verdict that refuses one, or a state
abbrev pub IsReached : Task → List PlanLine → Destination → Type 0
IsReached task lines (destination.Refused verdict) = IsRefusedBy task lines verdict
IsReached task lines (destination.State words) = IsStateOf task words
    × AreExecuted task lines (state_in task words)
