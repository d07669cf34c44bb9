-- What the closure of a pruner and that of a ranker keep, for the states of a task.
use Rattle.std.specs.Prelude.{◌≡◌, ◌↔◌, ℕ, Bool, true, false, IsTrue, List}
use Rattle.std.specs.Borrow.{Bor}
use Rattle.std.specs.Fn.{FnReturnsAt}
use denote.Param.Members.{Shared}
use Rattle.pl_task.specs.declared.task.Task.{Task}
use Rattle.pl_task.specs.Goal.{unmet, IsHopeless}
use Rattle.pl_state.specs.StateOf.{state_in, IsStateOf}
use Rattle.pl_registry.specs.Cut.{ReachesNoGoal}

-- the closure may be called on every state of the task, says yes only where no goal state is reachable, and
-- gives no two answers on one state
pub record IsSoundCut {F : Type 0} (calls : Shared F (Bor (List ℕ) × Unit {0}) Bool) (task : Task)
    (cut : F) : Type 0 where
  pub callable : (s : Bor (List ℕ)) → IsStateOf task s.now → calls.pre cut (s, tt)
  pub sound : (s : List ℕ) → IsStateOf task s → FnReturnsAt calls cut s true
      → ReachesNoGoal task (state_in task s)
  pub one_answer : (s : List ℕ) → IsStateOf task s → FnReturnsAt calls cut s true
      → FnReturnsAt calls cut s false → ⊥

-- the closure may be called on every state of the task, and counts its unmet goal literals
pub record IsUnmetCount {F : Type 0} (calls : Shared F (Bor (List ℕ) × Unit {0}) ℕ) (task : Task)
    (rank : F) : Type 0 where
  pub callable : (s : Bor (List ℕ)) → IsStateOf task s.now → calls.pre rank (s, tt)
  pub counts : (s : List ℕ) (n : ℕ) → IsStateOf task s → FnReturnsAt calls rank s n
      → n ≡ unmet task (state_in task s)

-- the closure may be called on every state of the task, and says whether it is hopeless
pub record IsHopelessCut {F : Type 0} (calls : Shared F (Bor (List ℕ) × Unit {0}) Bool) (task : Task)
    (cut : F) : Type 0 where
  pub callable : (s : Bor (List ℕ)) → IsStateOf task s.now → calls.pre cut (s, tt)
  pub answers : (s : List ℕ) (b : Bool) → IsStateOf task s → FnReturnsAt calls cut s b → IsTrue b
      ↔ IsHopeless task (state_in task s)
