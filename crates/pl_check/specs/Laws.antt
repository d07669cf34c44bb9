-- Laws of faults and tasks: which of the faults of two files comes first, by file, by place, then by kind;
-- and that files have one first fault or one task, and plan files one first fault or one list of lines.
use Rattle.std.specs.Prelude.{◌≡◌, ◌⊎◌, ◌<◌, ◌≤◌, ℕ, List, length, Option, Some, All, Contains}
use Rattle.pl_text.specs.Limits.{most_bytes}
use Rattle.pl_text.specs.Trees.{Trees, AreTreesOf}
use Rattle.pl_check.specs.declared.role.FileRole.{FileRole}
use Rattle.pl_check.specs.declared.role.FileRole.TheVariants.{Domain, Problem, Plan}
use Rattle.pl_check.specs.declared.fault.FaultKind.{FaultKind}
use Rattle.pl_check.specs.declared.fault.FaultKind.TheVariants as kind
use Rattle.pl_check.specs.declared.fault.InputFault.{InputFault}
use Rattle.pl_check.specs.FirstFault.{faults_of, first_of, IsFirstFault}
use Rattle.pl_check.specs.PlanLines.{AreLines, IsPlanFault}
use Rattle.pl_check.specs.Stated.{AreStated}
use Rattle.pl_task.specs.declared.plan.PlanLine.{PlanLine}
use Rattle.pl_task.specs.declared.task.Task.{Task}

-- the files in their order
abbrev pub file_number : FileRole → ℕ
file_number Domain = 0
file_number Problem = 1
file_number Plan = 2

-- the kinds in their order
abbrev pub kind_number : FaultKind → ℕ
kind_number kind.BadByte = 0
kind_number kind.StrayClose = 1
kind_number kind.TooDeep = 2
kind_number kind.Unclosed = 3
kind_number kind.NotOneForm = 4
kind_number kind.BadForm = 5
kind_number kind.Unsupported = 6
kind_number kind.Duplicate = 7
kind_number kind.UnknownType = 8
kind_number kind.UnknownPredicate = 9
kind_number kind.UnknownName = 10
kind_number kind.WrongArity = 11
kind_number kind.TooMany = 12

-- The first fault comes no later than the second: its file stands before, or in the same file its place is
-- less, or at the same place its kind stands no later.
abbrev pub NoLater : InputFault → InputFault → Type 0
NoLater fault other =
    (file_number fault.file < file_number other.file) ⊎
    ((fault.file ≡ other.file) ×
    ((fault.at < other.at) ⊎ ((fault.at ≡ other.at) × (kind_number fault.kind ≤ kind_number other.kind))))

-- one of the faults, and none of them comes before it
pub record IsLeast (fault : InputFault) (faults : List InputFault) : Type 0 where
  pub among : Contains faults fault
  pub least : All (NoLater fault) faults

-- The first of the faults of the forms of two files is the least of them.
abbrev pub FirstFaultIsLeast : Type 0
FirstFaultIsLeast =
    (domain problem : List ℕ) (domain_trees problem_trees : Trees) (fault : InputFault) →
    AreTreesOf domain domain_trees → AreTreesOf problem problem_trees →
    first_of (faults_of domain domain_trees problem problem_trees) ≡ Some fault →
    IsLeast fault (faults_of domain domain_trees problem problem_trees)

-- Two files have one first fault at most.
abbrev pub FirstFaultIsOne : Type 0
FirstFaultIsOne =
    (domain problem : List ℕ) (fault other : InputFault) → IsFirstFault domain problem fault →
    IsFirstFault domain problem other → fault ≡ other

-- Two files state one task at most.
abbrev pub TaskIsOne : Type 0
TaskIsOne =
    (domain problem : List ℕ) (task other : Task) → AreStated domain problem task →
    AreStated domain problem other → task ≡ other

-- Two files have a first fault.
abbrev pub HaveFirstFault : List ℕ → List ℕ → Type 0
HaveFirstFault domain problem = (fault : InputFault) × IsFirstFault domain problem fault

-- Two files state a task.
abbrev pub HaveTask : List ℕ → List ℕ → Type 0
HaveTask domain problem = (task : Task) × AreStated domain problem task

-- Two files that may be read have a first fault or state a task.
abbrev pub FaultOrTask : Type 0
FaultOrTask =
    (domain problem : List ℕ) → length domain ≤ most_bytes → length problem ≤ most_bytes →
    HaveFirstFault domain problem ⊎ HaveTask domain problem

-- Two files with a first fault state no task.
abbrev pub FaultExcludesTask : Type 0
FaultExcludesTask =
    (domain problem : List ℕ) (fault : InputFault) (task : Task) → IsFirstFault domain problem fault →
    AreStated domain problem task → ⊥

-- A plan file has one list of lines at most.
abbrev pub LinesAreOne : Type 0
LinesAreOne =
    (bytes : List ℕ) (task : Task) (lines others : List PlanLine) → AreLines bytes task lines →
    AreLines bytes task others → lines ≡ others

-- A plan file has one first fault at most.
abbrev pub PlanFaultIsOne : Type 0
PlanFaultIsOne =
    (bytes : List ℕ) (fault other : InputFault) → IsPlanFault bytes fault → IsPlanFault bytes other →
    fault ≡ other

-- A plan file has a first fault.
abbrev pub HasPlanFault : List ℕ → Type 0
HasPlanFault bytes = (fault : InputFault) × IsPlanFault bytes fault

-- A plan file has lines, which name actions and objects of the task.
abbrev pub HasLines : List ℕ → Task → Type 0
HasLines bytes task = (lines : List PlanLine) × AreLines bytes task lines

-- A plan file that may be read has a first fault or lines, whatever the task is.
abbrev pub FaultOrLines : Type 0
FaultOrLines = (bytes : List ℕ) (task : Task) → length bytes ≤ most_bytes →
    HasPlanFault bytes ⊎ HasLines bytes task

-- A plan file with a first fault has no lines.
abbrev pub FaultExcludesLines : Type 0
FaultExcludesLines =
    (bytes : List ℕ) (task : Task) (fault : InputFault) (lines : List PlanLine) → IsPlanFault bytes fault →
    AreLines bytes task lines → ⊥
