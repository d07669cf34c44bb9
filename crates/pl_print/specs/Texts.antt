-- The texts that are printed. Each line ends with byte 10, and numbers are decimal without leading zeros.
use Rattle.std.specs.Prelude.{ℕ, List, [], ◌∷◌, ◌++◌, Option, Some, None, length, slice_get, flat_map, codes}
use Rattle.std.specs.Prelude.{decimal}
use Rattle.pl_task.specs.declared.data.ObjectDef.{ObjectDef}
use Rattle.pl_task.specs.declared.data.Schema.{Schema}
use Rattle.pl_task.specs.declared.task.Task.{Task}
use Rattle.pl_task.specs.Instance.{Instance}
use Rattle.pl_check.specs.declared.fault.FaultKind.{FaultKind}
use Rattle.pl_check.specs.declared.fault.FaultKind.TheVariants as kind
use Rattle.pl_check.specs.declared.role.FileRole.{FileRole}
use Rattle.pl_check.specs.declared.role.FileRole.TheVariants.{Domain, Problem, Plan}
use Rattle.pl_registry.specs.declared.ended.Stats.{Stats}
use Rattle.pl_valid.specs.declared.verdict.Reason.{Reason}
use Rattle.pl_valid.specs.declared.verdict.Reason.TheVariants.{UnknownAction, Arguments, UnknownObject}
use Rattle.pl_valid.specs.declared.verdict.Reason.TheVariants.{Inapplicable}
use Rattle.pl_valid.specs.declared.verdict.Verdict.{Verdict}
use Rattle.pl_valid.specs.declared.verdict.Verdict.TheVariants.{Valid, Invalid, GoalMissed}
use Rattle.pl_print.specs.declared.fault.Fault.{Fault}
use Rattle.pl_print.specs.declared.fault.Fault.TheVariants as fault

-- these texts, one after the other
abbrev pub in_turn : List (List ℕ) → List ℕ
in_turn [] = []
in_turn (text ∷ texts) = text ++ in_turn texts

-- the name of an action, where there is one
abbrev pub action_name : Option Schema → List ℕ
action_name None = []
action_name (Some schema) = schema.name

-- the name of an object, where there is one
abbrev pub object_name : Option ObjectDef → List ℕ
object_name None = []
object_name (Some object) = object.name

-- a blank, and the name of the object of that number
abbrev pub argument_text : List ObjectDef → ℕ → List ℕ
argument_text objects number = codes " " ++ object_name (slice_get objects number)

-- `(ACTION OBJECT OBJECT ..)`, with an object for each argument
abbrev pub step_text : Task → Instance → List ℕ
step_text task step =
    codes "(" ++ action_name (slice_get task.schemas step.schema)
    ++ flat_map (argument_text task.objects) step.args ++
    codes ")\n"

-- a line for each step, and then `; length N` with their number
abbrev pub plan_text : Task → List Instance → List ℕ
plan_text task steps =
    flat_map (step_text task) steps ++ (codes "; length " ++ decimal (length steps) ++ codes "\n")

-- what a search has counted, each count on a line
abbrev pub stats_text : Stats → List ℕ
stats_text stats =
    in_turn (codes "; states " ∷ decimal stats.states ∷ codes "\n; expanded " ∷ decimal stats.expanded ∷
    codes "\n; generated " ∷ decimal stats.generated ∷ codes "\n" ∷ [])

-- how a file is called
abbrev pub role_text : FileRole → List ℕ
role_text Domain = codes "domain"
role_text Problem = codes "problem"
role_text Plan = codes "plan"

-- why a line of a plan is refused
abbrev pub reason_text : Reason → List ℕ
reason_text UnknownAction = codes "unknown-action"
reason_text Arguments = codes "arguments"
reason_text UnknownObject = codes "unknown-object"
reason_text Inapplicable = codes "inapplicable"

-- `valid N`, `invalid K REASON` or `goal missed`
abbrev pub verdict_text : Verdict → List ℕ
verdict_text (Valid steps) = codes "valid " ++ decimal steps ++ codes "\n"
verdict_text (Invalid line reason) = codes "invalid " ++ decimal line ++ codes " " ++ reason_text reason
    ++ codes "\n"
verdict_text GoalMissed = codes "goal missed\n"

-- what is wrong at a place of a file
abbrev pub kind_text : FaultKind → List ℕ
kind_text kind.BadByte = codes "bad byte"
kind_text kind.StrayClose = codes "stray bracket"
kind_text kind.TooDeep = codes "too deep"
kind_text kind.Unclosed = codes "unclosed bracket"
kind_text kind.NotOneForm = codes "not one form"
kind_text kind.BadForm = codes "bad form"
kind_text kind.Unsupported = codes "unsupported"
kind_text kind.Duplicate = codes "duplicate"
kind_text kind.UnknownType = codes "unknown type"
kind_text kind.UnknownPredicate = codes "unknown predicate"
kind_text kind.UnknownName = codes "unknown name"
kind_text kind.WrongArity = codes "wrong arity"
kind_text kind.TooMany = codes "too many"

-- the line of a fault
abbrev pub fault_text : Fault → List ℕ
fault_text fault.Words = codes "powerlift: bad words\n"
fault_text fault.NotAStep = codes "powerlift: not a step\n"
fault_text (fault.Input file line column kind) =
    in_turn (codes "powerlift: " ∷ role_text file ∷ codes ":" ∷ decimal line ∷ codes ":" ∷ decimal
    column ∷ codes ": " ∷
    kind_text kind ∷ codes "\n" ∷ [])
fault_text (fault.TooLong file) = codes "powerlift: " ++ role_text file ++ codes ": too long\n"
fault_text (fault.Read file) = codes "powerlift: cannot read " ++ role_text file ++ codes "\n"
fault_text fault.Write = codes "powerlift: cannot write\n"
fault_text fault.Memory = codes "powerlift: out of memory\n"
