-- Execution, plans and reachable states.
use Rattle.std.specs.Prelude.{◌≡◌, IsTrue, List, [], ◌∷◌}
use Rattle.pl_task.specs.declared.task.Task.{Task}
use Rattle.pl_task.specs.Instance.{Instance}
use Rattle.pl_task.specs.States.{State, IsApplicable, result_of, initial}
use Rattle.pl_task.specs.Goal.{is_goal}

-- the steps are applicable in turn from s, and lead to `after`
abbrev pub Executes : Task → State → List Instance → State → Type 0
Executes task s [] after = s ≡ after
Executes task s (step ∷ steps) after = IsApplicable task s step ×
    Executes task (result_of task s step) steps after

-- the steps lead from the initial state to a goal state
abbrev pub IsPlan : Task → List Instance → Type 0
IsPlan task steps = (last : State) × Executes task (initial task) steps last × IsTrue (is_goal task last)

-- some steps lead to the state from the initial one
abbrev pub IsReachable : Task → State → Type 0
IsReachable task s = (steps : List Instance) × Executes task (initial task) steps s
