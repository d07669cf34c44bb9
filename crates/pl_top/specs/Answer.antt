-- What the answer to a request is: a relation between the files and the outcome.
use Rattle.std.specs.Prelude.{◌≡◌, ℕ, ◌+◌, ◌≤◌, cond, nat_le, ◌⊎◌, List, [], length, map, Option, Some, None}
use Rattle.std.specs.Prelude.{⊤}
use Rattle.pl_io.specs.Outside.{NamedBytes, content_of, most_file_bytes}
use Rattle.pl_text.specs.Lines.{line_of, column_of}
use Rattle.pl_task.specs.declared.plan.PlanLine.{PlanLine}
use Rattle.pl_task.specs.declared.plan.PlanLine.TheVariants as line
use Rattle.pl_task.specs.declared.task.Task.{Task}
use Rattle.pl_task.specs.Instance.{Instance}
use Rattle.pl_task.specs.States.{State, initial}
use Rattle.pl_task.specs.Plans.{Executes}
use Rattle.pl_check.specs.FirstFault.{IsFirstFault}
use Rattle.pl_check.specs.PlanLines.{AreLines, IsPlanFault, IsStepText}
use Rattle.pl_check.specs.Stated.{AreStated}
use Rattle.pl_check.specs.declared.fault.InputFault.{InputFault}
use Rattle.pl_check.specs.declared.role.FileRole.{FileRole}
use Rattle.pl_check.specs.declared.role.FileRole.TheVariants.{Domain, Problem, Plan}
use Rattle.pl_valid.specs.declared.verdict.Reason.{Reason}
use Rattle.pl_valid.specs.declared.verdict.Verdict.{Verdict}
use Rattle.pl_valid.specs.declared.verdict.Verdict.TheVariants.{Valid, Invalid, GoalMissed}
use Rattle.pl_valid.specs.Verdict.{IsVerdict, IsFirstRefused}
use Rattle.pl_print.specs.Texts.{verdict_text, fault_text}
use Rattle.pl_print.specs.declared.fault.Fault.{Fault}
use Rattle.pl_print.specs.declared.fault.Fault.TheVariants as fault
use Rattle.pl_top.specs.Listing.{successors_text}
use Rattle.pl_registry.specs.declared.ended.Stats.{Stats}
use Rattle.pl_registry.specs.Ending.{Ending}
use Rattle.pl_registry.specs.Ending.Ending.{Found, Unsolvable, Exhausted, Limit}
use Rattle.pl_make.specs.declared.kind.Kind.{Kind}
use Rattle.pl_make.specs.Texts.{domain_text, problem_text}
use Rattle.pl_top.specs.Request.{Request, PlanOptions, Validate, Successors, FindPlan, Make, no_plan_options}
use Rattle.pl_top.specs.Searching.{IsSearched, ending_status, search_text}
use Rattle.pl_top.specs.Summary.{summary_text}

-- what a run comes to: a status, a text for `out`, and a line for `err`
pub record Outcome : Type 0 where
  pub status : ℕ
  pub text : List ℕ
  pub line : List ℕ

-- a status with the line of a fault, and nothing for `out`
abbrev pub refusal : ℕ → Fault → Outcome
refusal status why = record { status = status; text = []; line = fault_text why }

abbrev pub cannot_read : FileRole → Outcome
cannot_read role = refusal 4 (fault.Read role)

abbrev pub too_long : FileRole → Outcome
too_long role = refusal 3 (fault.TooLong role)

-- the first fault of a file with these bytes, shown by its line and its column
abbrev pub shown_fault : List ℕ → InputFault → Fault
shown_fault bytes found = fault.Input found.file (line_of bytes found.at)
    (column_of bytes found.at) found.kind

abbrev pub faulty : List ℕ → InputFault → Outcome
faulty bytes found = refusal 3 (shown_fault bytes found)

-- status 0 for a valid plan, and 1 for any other verdict
abbrev pub verdict_status : Verdict → ℕ
verdict_status (Valid steps) = 0
verdict_status (Invalid line reason) = 1
verdict_status GoalMissed = 1

abbrev pub verdict_outcome : Verdict → Outcome
verdict_outcome verdict = record { status = verdict_status verdict; text = verdict_text verdict; line = [] }

-- what a file comes to when it is read
pub data Reading : Type 0 where
  Absent : Reading
  Overlong : Reading
  Whole : List ℕ → Reading

-- the reading of a file that is told: it is absent, or has more bytes than are read, or is read whole
abbrev pub reading_of : Option (List ℕ) → Reading
reading_of None = Absent
reading_of (Some bytes) = cond (nat_le (length bytes) most_file_bytes) (Whole bytes) Overlong

-- Told files decide the reading of a name. Of untold ones it is known that none is absent, that one of which
-- the shelf gave a byte past the limit is overlong, and that one that is read whole is within the limit.
-- `place` is how many bytes the shelf has given of the file that was read last, which is the overlong one
-- where there is one.
abbrev pub IsReadingOf : Option (List NamedBytes) → ℕ → List ℕ → Reading → Type 0
IsReadingOf (Some files) place name reading = reading ≡ reading_of (content_of files name)
IsReadingOf None place name Absent = ⊥
IsReadingOf None place name Overlong = place ≡ most_file_bytes + 1
IsReadingOf None place name (Whole bytes) = length bytes ≤ most_file_bytes

-- a reading that isn't whole decides the outcome; the bytes of one that is are looked at further
abbrev pub GoesOn : FileRole → Outcome → (List ℕ → Type 0) → Reading → Type 0
GoesOn role outcome Further Absent = outcome ≡ cannot_read role
GoesOn role outcome Further Overlong = outcome ≡ too_long role
GoesOn role outcome Further (Whole bytes) = Further bytes

-- the file of that name is read, and then what it says is looked at
pub record IsRead (files : Option (List NamedBytes)) (place : ℕ) (name : List ℕ) (role : FileRole)
    (outcome : Outcome)
    (Further : List ℕ → Type 0) : Type 0 where
  pub reading : Reading
  pub of_file : IsReadingOf files place name reading
  pub goes_on : GoesOn role outcome Further reading

-- the bytes of a domain or of a problem, by the file that a fault names
abbrev pub bytes_of : List ℕ → List ℕ → FileRole → List ℕ
bytes_of domain problem Domain = domain
bytes_of domain problem Problem = problem
bytes_of domain problem Plan = []

-- domain and problem have a first fault, which is the outcome
pub record IsInputFault (domain problem : List ℕ) (outcome : Outcome) : Type 0 where
  pub found : InputFault
  pub is_first : IsFirstFault domain problem found
  pub comes : outcome ≡ faulty (bytes_of domain problem found.file) found

-- the plan file has a first fault, which is the outcome
pub record IsFaultOfPlan (plan : List ℕ) (outcome : Outcome) : Type 0 where
  pub found : InputFault
  pub is_first : IsPlanFault plan found
  pub comes : outcome ≡ faulty plan found

-- the plan file has lines, and the verdict on them is the outcome
pub record IsVerdictOn (task : Task) (plan : List ℕ) (outcome : Outcome) : Type 0 where
  pub lines : List PlanLine
  pub are : AreLines plan task lines
  pub verdict : Verdict
  pub is_verdict : IsVerdict task lines verdict
  pub comes : outcome ≡ verdict_outcome verdict

-- domain and problem state a task, on which the plan is judged
pub record IsPlanJudged (domain problem plan : List ℕ) (outcome : Outcome) : Type 0 where
  pub task : Task
  pub stated : AreStated domain problem task
  pub judged : IsFaultOfPlan plan outcome ⊎ IsVerdictOn task plan outcome

-- the outcome for the bytes of a domain, a problem and a plan
abbrev pub IsJudged : List ℕ → List ℕ → List ℕ → Outcome → Type 0
IsJudged domain problem plan outcome = IsInputFault domain problem outcome
    ⊎ IsPlanJudged domain problem plan outcome

-- the plan file, where one is given, has a first fault, which is the outcome
abbrev pub IsFaultOfAny : Option (List ℕ) → Outcome → Type 0
IsFaultOfAny None outcome = ⊥
IsFaultOfAny (Some plan) outcome = IsFaultOfPlan plan outcome

-- the lines of the plan file, and no line where none is given
abbrev pub AreLinesOfAny : Option (List ℕ) → Task → List PlanLine → Type 0
AreLinesOfAny None task lines = lines ≡ []
AreLinesOfAny (Some plan) task lines = AreLines plan task lines

-- a text is given that is no step of the task, which is the outcome
abbrev pub IsNoStep : Task → Option (List ℕ) → Outcome → Type 0
IsNoStep task None outcome = ⊥
IsNoStep task (Some text) outcome = ((step : Instance) → IsStepText text task step → ⊥)
    × (outcome ≡ refusal 2 fault.NotAStep)

-- the text is this step of the task, or neither is given
abbrev pub IsStepOfText : Task → Option (List ℕ) → Option Instance → Type 0
IsStepOfText task None None = ⊤
IsStepOfText task None (Some step) = ⊥
IsStepOfText task (Some text) None = ⊥
IsStepOfText task (Some text) (Some step) = IsStepText text task step

-- a line of the plan is refused, and the verdict that says so is the outcome
pub record IsInvalidPlan (task : Task) (lines : List PlanLine) (outcome : Outcome) : Type 0 where
  pub number : ℕ
  pub why : Reason
  pub first : IsFirstRefused task lines number why
  pub comes : outcome ≡ verdict_outcome (Invalid number why)

-- status 0, with the steps that are applicable in the state
abbrev pub list_outcome : Task → State → Option Instance → Option ℕ → Outcome
list_outcome task s past count = record { status = 0; text = successors_text task s past count; line = [] }

-- the lines are steps that are executed from the initial state, and the list for the state that they lead to
-- is the outcome
pub record IsListAfter (task : Task) (lines : List PlanLine) (past : Option Instance) (count : Option ℕ)
    (outcome : Outcome) : Type 0 where
  pub steps : List Instance
  pub state : State
  pub lines_are : lines ≡ map line.Step steps
  pub executed : Executes task (initial task) steps state
  pub comes : outcome ≡ list_outcome task state past count

-- the outcome of the lines of a plan, of a step past which steps are listed, and of their number
abbrev pub IsWorked : Task → List PlanLine → Option Instance → Option ℕ → Outcome → Type 0
IsWorked task lines past count outcome = IsInvalidPlan task lines outcome
    ⊎ IsListAfter task lines past count outcome

-- the text is a step, with which the outcome comes
pub record IsPastStep (task : Task) (lines : List PlanLine) (text : Option (List ℕ)) (count : Option ℕ)
    (outcome : Outcome) : Type 0 where
  pub past : Option Instance
  pub is : IsStepOfText task text past
  pub worked : IsWorked task lines past count outcome

-- the plan file has lines, with which the outcome comes: first it is seen whether the text is a step
pub record IsListOfLines (task : Task) (plan : Option (List ℕ)) (text : Option (List ℕ)) (count : Option ℕ)
    (outcome : Outcome) : Type 0 where
  pub lines : List PlanLine
  pub are : AreLinesOfAny plan task lines
  pub comes : IsNoStep task text outcome ⊎ IsPastStep task lines text count outcome

-- domain and problem state a task, whose steps are listed
pub record IsTaskListed (domain problem : List ℕ) (plan text : Option (List ℕ)) (count : Option ℕ)
    (outcome : Outcome) : Type 0 where
  pub task : Task
  pub stated : AreStated domain problem task
  pub listed : IsFaultOfAny plan outcome ⊎ IsListOfLines task plan text count outcome

-- the outcome for the bytes of a domain, a problem and maybe a plan, for the text of a step, and for a number
-- of steps
abbrev pub IsListed : List ℕ → List ℕ → Option (List ℕ) → Option (List ℕ) → Option ℕ → Outcome → Type 0
IsListed domain problem plan text count outcome =
    IsInputFault domain problem outcome ⊎ IsTaskListed domain problem plan text count outcome

-- the status and the text of an ending
abbrev pub search_outcome : Task → PlanOptions → Ending → Stats → Outcome
search_outcome task options ending stats =
    record { status = ending_status ending; text = search_text task options ending stats; line = [] }

-- how the search of the task ends is the outcome
pub record IsSearchOutcome (task : Task) (options : PlanOptions) (outcome : Outcome) : Type 0 where
  pub ending : Ending
  pub stats : Stats
  pub searched : IsSearched task options ending stats
  pub comes : outcome ≡ search_outcome task options ending stats

-- domain and problem state a task, for which a plan is looked for
pub record IsTaskPlanned (domain problem : List ℕ) (options : PlanOptions) (outcome : Outcome) : Type 0 where
  pub task : Task
  pub stated : AreStated domain problem task
  pub planned : IsSearchOutcome task options outcome

-- the outcome for the bytes of a domain and a problem, and for how a plan is looked for
abbrev pub IsPlanned : List ℕ → List ℕ → PlanOptions → Outcome → Type 0
IsPlanned domain problem options outcome =
    IsInputFault domain problem outcome ⊎ IsTaskPlanned domain problem options outcome

-- status 0, with the summary of a plan that was found
abbrev pub summary_outcome : Task → List Instance → Stats → Verdict → Outcome
summary_outcome task plan stats verdict =
    record { status = 0; text = summary_text task plan stats verdict; line = [] }

-- a plan that was found is judged, and the summary with the verdict is the outcome
pub record IsSummed (task : Task) (plan : List Instance) (stats : Stats) (outcome : Outcome) : Type 0 where
  pub verdict : Verdict
  pub is_verdict : IsVerdict task (map line.Step plan) verdict
  pub comes : outcome ≡ summary_outcome task plan stats verdict

-- the outcome of an ending: a summary of a plan, and without a plan what `plan` comes to
abbrev pub IsMadeEnd : Task → Ending → Stats → Outcome → Type 0
IsMadeEnd task (Found plan) stats outcome = IsSummed task plan stats outcome
IsMadeEnd task Unsolvable stats outcome = outcome ≡ search_outcome task no_plan_options Unsolvable stats
IsMadeEnd task Exhausted stats outcome = outcome ≡ search_outcome task no_plan_options Exhausted stats
IsMadeEnd task Limit stats outcome = outcome ≡ search_outcome task no_plan_options Limit stats

-- how the search of a made task ends, by the search and the limit of `plan` without options, decides the
-- outcome
pub record IsMadeOutcome (task : Task) (outcome : Outcome) : Type 0 where
  pub ending : Ending
  pub stats : Stats
  pub searched : IsSearched task no_plan_options ending stats
  pub comes : IsMadeEnd task ending stats outcome

-- the texts of domain and problem state a task, of which a plan is looked for
pub record IsTaskMade (domain problem : List ℕ) (outcome : Outcome) : Type 0 where
  pub task : Task
  pub stated : AreStated domain problem task
  pub made : IsMadeOutcome task outcome

-- the outcome for the texts of a domain and a problem that were made
abbrev pub IsMadeOf : List ℕ → List ℕ → Outcome → Type 0
IsMadeOf domain problem outcome = IsInputFault domain problem outcome ⊎ IsTaskMade domain problem outcome

-- the outcome for a kind, a size and a start
abbrev pub IsMade : Kind → ℕ → ℕ → Outcome → Type 0
IsMade kind n start outcome = IsMadeOf (domain_text kind) (problem_text kind n start) outcome

-- the plan file is read where one is named, and then what it says is looked at
abbrev pub IsPlanRead : Option (List NamedBytes) → ℕ → Option (List ℕ) → Outcome → (Option (List ℕ) → Type 0)
    → Type 0
IsPlanRead files place None outcome Further = Further None
IsPlanRead files place (Some name) outcome Further = IsRead files place name Plan outcome
    (λ bytes. Further (Some bytes))

-- the answer to a request: its files are read in this order, and the first that isn't read whole decides; a
-- task that is made needs no file
abbrev pub IsAnswer : Request → Option (List NamedBytes) → ℕ → Outcome → Type 0
IsAnswer (Validate domain problem plan) files place outcome =
    IsRead files place domain Domain outcome (λ d.
    IsRead files place problem Problem outcome (λ p.
    IsRead files place plan Plan outcome (λ l.
    IsJudged d p l outcome)))
IsAnswer (Successors domain problem options) files place outcome =
    IsRead files place domain Domain outcome (λ d.
    IsRead files place problem Problem outcome (λ p.
    IsPlanRead files place options.after outcome (λ l.
    IsListed d p l options.past options.count outcome)))
IsAnswer (FindPlan domain problem options) files place outcome =
    IsRead files place domain Domain outcome (λ d.
    IsRead files place problem Problem outcome (λ p.
    IsPlanned d p options outcome))
IsAnswer (Make kind n start) files place outcome = IsMade kind n start outcome
