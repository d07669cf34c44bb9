-- States that a search may leave out because no goal can be reached from them.
use Rattle.std.specs.Prelude.{Bool, IsTrue, IsFalse, List}
use Rattle.pl_task.specs.declared.task.Task.{Task}
use Rattle.pl_task.specs.Instance.{Instance}
use Rattle.pl_task.specs.Plans.{Executes}
use Rattle.pl_task.specs.Goal.{is_goal}
use Rattle.pl_task.specs.States.{State}
use Rattle.pl_registry.specs.StateSpace.{StateSpace, LeadsTo}

-- no steps lead from the state to a goal state
abbrev pub IsDeadEnd : StateSpace → State → Type 0
IsDeadEnd space s = (steps : List Instance) (last : State) → LeadsTo space s steps last
    → IsTrue (space.is_goal last) → ⊥

-- a state is cut where the test says so, and kept where it does not
abbrev pub IsCut : (State → Bool) → State → Type 0
IsCut cut s = IsTrue (cut s)

abbrev pub IsKept : (State → Bool) → State → Type 0
IsKept cut s = IsFalse (cut s)

-- no applicable steps lead from the state to a goal state of the task
abbrev pub ReachesNoGoal : Task → State → Type 0
ReachesNoGoal task s = (steps : List Instance) (last : State) → Executes task s steps last
    → IsTrue (is_goal task last) → ⊥
