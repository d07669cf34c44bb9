-- What a listing starts from: what the files and the text of a step say.
use Rattle.std.specs.Prelude.{◌≡◌, ℕ, ◌≤◌, ◌^◌, List, length, All, IfSome, Option}
use Rattle.pl_task.specs.States.{IsStep}
use Rattle.pl_valid.specs.Verdict.{IsLineOf}
use Rattle.pl_top.specs.declared.starting.Start.{Start}
use Rattle.pl_io.specs.Outside.{ShelfSeen}
use Rattle.pl_check.specs.Stated.{AreStated}
use Rattle.pl_top.specs.Answer.{Outcome, IsWorked, IsListed, AreLinesOfAny, IsStepOfText}
use Rattle.pl_top.specs.Work.{IsTaskRead, AreLinesRead}

-- the lines and the step are of the task, and the lines are few enough to be judged
pub record IsReady (start : Start) : Type 0 where
  pub few : length start.lines ≤ 2 ^ 24
  pub lines : All (IsLineOf start.task) start.lines
  pub past : IfSome start.past (IsStep start.task)

-- the outcome of a start
abbrev pub IsWorkedAt : Start → Outcome → Type 0
IsWorkedAt start outcome = IsWorked start.task start.lines start.past start.count outcome

-- the outcome of the start is that of the bytes of a domain, a problem and maybe a plan, and of the text of a
-- step
abbrev pub IsStartOf : List ℕ → List ℕ → Option (List ℕ) → Option (List ℕ) → Option ℕ → Start → Type 0
IsStartOf domain problem plan text count start =
    (outcome : Outcome) → IsWorkedAt start outcome → IsListed domain problem plan text count outcome

-- the bytes of a domain and a problem state the task, and those of a plan, where they are given, have the
-- lines
pub record IsStartStated (domain problem : List ℕ) (plan : Option (List ℕ)) (start : Start) : Type 0 where
  pub stated : AreStated domain problem start.task
  pub are : AreLinesOfAny plan start.task start.lines

-- the same of the files that were read
pub record IsStartRead (domain problem : List ℕ) (after : Option (List ℕ)) (shelf shelf' : ShelfSeen)
    (start : Start) : Type 0 where
  pub read : IsTaskRead domain problem shelf shelf' start.task
  pub are : AreLinesRead after shelf start.task start.lines

-- the step past which a start lists steps is that of the text, and their number is the one that is asked for
pub record IsPageOf (text : Option (List ℕ)) (count : Option ℕ) (start : Start) : Type 0 where
  pub step : IsStepOfText start.task text start.past
  pub same_count : start.count ≡ count
