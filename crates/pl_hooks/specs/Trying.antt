-- What trying one step of an expanded state answers, and what it leaves of the registry.
use Rattle.std.specs.Prelude.{◌≡◌, ◌⊎◌, ℕ, Bool, IsTrue, IsFalse, List, [], ◌∷◌, ◌++◌, length, Option, Some}
use Rattle.std.specs.Prelude.{None, Result, Ok, Err}
use Rattle.std.specs.Borrow.{Bor}
use denote.Param.Members.{Shared}
use Rattle.pl_task.specs.declared.task.Task.{Task}
use Rattle.pl_task.specs.Instance.{Instance}
use Rattle.pl_task.specs.States.{State, result_of}
use Rattle.pl_task.specs.Goal.{is_goal}
use Rattle.pl_state.specs.StateOf.{state_in, IsStateOf}
use Rattle.pl_registry.specs.declared.ended.Outcome.{Outcome}
use Rattle.pl_registry.specs.declared.ended.Outcome.TheVariants as outcome
use Rattle.pl_registry.specs.Registered.{Register, registered_at, registered_path, with_entry, IsHeld}
use Rattle.pl_registry.specs.Registered.{IsHeldAs}
use Rattle.pl_hooks.specs.Asked.{MayDrop, MayKeep}

-- the state that a step of entry n leads to
abbrev pub target_of : Task → Register → ℕ → Instance → State
target_of task r n step = result_of task (state_in task (registered_at r.entries n).words) step

-- the target is a goal state, and the plan the path of the entry and then the step
pub record IsReached (task : Task) (old new : Register) (n : ℕ) (step : Instance)
    (plan : List Instance) : Type 0 where
  pub goal : IsTrue (is_goal task (target_of task old n step))
  pub plan_is : plan ≡ registered_path old.entries n ++ step ∷ []
  pub same : new ≡ old

-- P says which states may be left out, or which may be registered
module _ (P : State → Type 0) (task : Task) (old new : Register) (n : ℕ) (step : Instance) where
  -- the target is no goal state, and may be left out or is held
  pub record IsLeftOut : Type 0 where
    pub words : List ℕ
    pub state : IsStateOf task words
    pub target : state_in task words ≡ target_of task old n step
    pub no_goal : IsFalse (is_goal task (target_of task old n step))
    pub why : P (target_of task old n step) ⊎ ((k : ℕ) × IsHeldAs old words k)
    pub same : new ≡ old

  -- the target is no goal state, may be registered, was not held, and is registered
  pub record IsTakenIn : Type 0 where
    pub words : List ℕ
    pub state : IsStateOf task words
    pub target : state_in task words ≡ target_of task old n step
    pub no_goal : IsFalse (is_goal task (target_of task old n step))
    pub kept : P (target_of task old n step)
    pub unheld : IsHeld old words → ⊥
    pub more : new ≡ with_entry old words n step

  -- the same, but as many states as the limit are registered
  pub record IsTurnedAway : Type 0 where
    pub words : List ℕ
    pub state : IsStateOf task words
    pub target : state_in task words ≡ target_of task old n step
    pub no_goal : IsFalse (is_goal task (target_of task old n step))
    pub kept : P (target_of task old n step)
    pub unheld : IsHeld old words → ⊥
    pub full : length old.entries ≡ old.limit
    pub same : new ≡ old

module _ {F : Type 0} (calls : Shared F (Bor (List ℕ) × Unit {0}) Bool) (task : Task) (cut : F)
    (old new : Register) (n : ℕ) (step : Instance) where
  -- the search goes on, or ends here; where memory is wanting nothing changes
  abbrev pub Tries : {E : Type 0} → Result (Option Outcome) E → Type 0
  Tries (Ok None) = IsLeftOut (MayDrop calls task cut) task old new n step
      ⊎ IsTakenIn (MayKeep calls task cut) task old new n step
  Tries (Ok (Some (outcome.Found plan))) = IsReached task old new n step plan
  Tries (Ok (Some outcome.Limit)) = IsTurnedAway (MayKeep calls task cut) task old new n step
  Tries (Ok (Some outcome.Unsolvable)) = ⊥
  Tries (Err e) = new ≡ old
