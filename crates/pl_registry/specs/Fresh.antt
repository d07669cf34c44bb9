-- A registry before a search.
use Rattle.std.specs.Prelude.{◌≡◌, ℕ, List, [], ◌∷◌}
use Rattle.pl_task.specs.declared.task.Task.{Task}
use Rattle.pl_task.specs.States.{initial}
use Rattle.pl_state.specs.StateOf.{state_in, IsStateOf}
use Rattle.pl_registry.specs.Registered.{Register, initially}

-- the registry holds the initial state of the task, and no other
pub record IsFresh (task : Task) (registry : Register) : Type 0 where
  pub words : List ℕ
  pub state : IsStateOf task words
  pub initially_is : state_in task words ≡ initial task
  pub entries_are : registry.entries ≡ initially words ∷ []
