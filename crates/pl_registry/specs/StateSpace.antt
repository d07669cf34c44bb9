-- A state space as a search walks it.
use Rattle.std.specs.Prelude.{◌≡◌, Bool, List, [], ◌∷◌, Contains}
use Rattle.pl_task.specs.declared.task.Task.{Task}
use Rattle.pl_task.specs.Instance.{Instance}
use Rattle.pl_task.specs.States.{State, initial, result_of}
use Rattle.pl_task.specs.Goal.{is_goal}
use Rattle.pl_normal.specs.Steps.{applicable_steps}

-- the initial state, the steps of a state in the order in which they are tried, the state that a step leads
-- to, and the goal states
pub record StateSpace : Type 0 where
  pub initial : State
  pub steps : State → List Instance
  pub result : State → Instance → State
  pub is_goal : State → Bool

-- the steps are steps of the states in turn, from s on, and lead to `after`
abbrev pub LeadsTo : StateSpace → State → List Instance → State → Type 0
LeadsTo space s [] after = s ≡ after
LeadsTo space s (step ∷ steps) after = Contains (space.steps s) step
    × LeadsTo space (space.result s step) steps after

-- the state space of a task, with the applicable steps of a state in step order
abbrev pub space_of : Task → StateSpace
space_of task =
    record {
      initial = initial task;
      steps = applicable_steps task;
      result = result_of task;
      is_goal =
          is_goal task;
    }
