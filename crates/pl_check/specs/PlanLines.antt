-- Plan files: one step a line, each a list of the name of an action and the names of objects.
use Rattle.std.specs.Prelude.{◌≡◌, ◌≤◌, ℕ, Bool, true, not, cond, ◌&&◌, ◌==◌, ◌⊎◌, List, [], ◌∷◌, map, length}
use Rattle.std.specs.Prelude.{drop, is_some, Option, Some, None, slice_get}
use Rattle.std.specs.List.{list_all, flat_map, filter_map}
use Rattle.pl_names.specs.Names.{number_among}
use Rattle.pl_task.specs.declared.data.ObjectDef.{ObjectDef}
use Rattle.pl_task.specs.declared.data.Schema.{Schema}
use Rattle.pl_task.specs.declared.plan.PlanLine.{PlanLine}
use Rattle.pl_task.specs.declared.plan.PlanLine.TheVariants as line
use Rattle.pl_task.specs.declared.task.Task.{Task}
use Rattle.pl_task.specs.Instance.{Instance}
use Rattle.pl_text.specs.Trees.{Tree, Trees, members}
use Rattle.pl_text.specs.Words.{folded}
use Rattle.pl_check.specs.declared.role.FileRole.TheVariants.{Plan}
use Rattle.pl_check.specs.declared.fault.FaultKind.TheVariants as kind
use Rattle.pl_check.specs.declared.fault.InputFault.{InputFault}
use Rattle.pl_check.specs.declared.fault.CheckEnd.{CheckEnd}
use Rattle.pl_check.specs.declared.fault.CheckEnd.TheVariants as check_end
use Rattle.pl_check.specs.declared.reading.Fault.{Fault}
use Rattle.pl_check.specs.Elements.{place, is_list, word_of, elements, head_word}
use Rattle.pl_check.specs.FaultLists.{fault_if, first}
use Rattle.pl_check.specs.FirstFault.{AreRead, IsTextFaultOf, in_file}

-- a list of words, not empty
unfoldable pub is_line : Tree → Bool
is_line tree = is_list tree && not (length (elements tree) == 0) && list_all
    (λ element. not (is_list element)) (elements tree)

-- the faults of a form of a plan
unfoldable pub line_faults : Tree → List Fault
line_faults tree = fault_if (not (is_line tree)) (place tree) kind.BadForm

-- the faults of a plan's forms
abbrev pub plan_faults : List Tree → List Fault
plan_faults trees = flat_map line_faults trees

-- the numbers of those of these words that are among the names
abbrev pub numbers_named : List ℕ → List (List ℕ) → List Tree → List ℕ
numbers_named text names words = filter_map (number_among names) (map (word_of text) words)

-- the numbers of the objects that are named among these words
abbrev pub objects_named : List ℕ → Task → List Tree → List ℕ
objects_named text task words = numbers_named text (map (λ (o : ObjectDef). o.name) task.objects) words

-- what a line of an action names, by its further words: the first test that it fails decides
unfoldable pub line_by : List ℕ → Task → List Tree → ℕ → Option Schema → PlanLine
line_by text task words number None = line.UnknownAction
line_by text task words number (Some schema) =
    cond (length words == length schema.parameters)
    (cond (length (objects_named text task words) == length words)
    (line.Step (record { schema = number; args = objects_named text task words })) line.UnknownObject)
    line.Arguments

-- what a line names, by the number of the action of its first word
abbrev pub line_at : List ℕ → Task → List Tree → Option ℕ → PlanLine
line_at text task words None = line.UnknownAction
line_at text task words (Some number) = line_by text task words number (slice_get task.schemas number)

-- what a line of these words names
abbrev pub line_naming : List ℕ → Task → List Tree → PlanLine
line_naming text task words =
    line_at text task (drop 1 words) (number_among (map (λ (s : Schema). s.name) task.schemas)
    (head_word text words))

-- what a line of a plan names
abbrev pub line_of : List ℕ → Task → Tree → PlanLine
line_of text task tree = line_naming text task (elements tree)

-- the lines of a plan file without a fault
pub record AreLines (bytes : List ℕ) (task : Task) (lines : List PlanLine) : Type 0 where
  pub trees : Trees
  pub read : AreRead bytes trees
  pub no_fault : plan_faults (members trees) ≡ []
  pub each : lines ≡ map (line_of (folded bytes) task) (members trees)

-- the first fault of the forms of a plan file without a text fault
pub record IsLineFault (bytes : List ℕ) (fault : InputFault) : Type 0 where
  pub trees : Trees
  pub read : AreRead bytes trees
  pub found : Fault
  pub is_first : first (plan_faults (members trees)) ≡ Some found
  pub is : fault ≡ in_file Plan found

-- the first fault of a plan file
abbrev pub IsPlanFault : List ℕ → InputFault → Type 0
IsPlanFault bytes fault = IsTextFaultOf Plan bytes fault ⊎ IsLineFault bytes fault

-- how a reading of a plan file may end that gives no lines: by its first fault, or out of memory
abbrev pub EndsPlanBy : List ℕ → CheckEnd → Type 0
EndsPlanBy bytes (check_end.Fault fault) = IsPlanFault bytes fault
EndsPlanBy bytes (check_end.Memory error) = Unit {0}

-- The text is this step of the task: a plan file of one line, which is the step.
pub record IsStepText (bytes : List ℕ) (task : Task) (step : Instance) : Type 0 where
  pub short : length bytes ≤ 16777216
  pub line : AreLines bytes task (line.Step step ∷ [])
