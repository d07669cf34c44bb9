-- Goal literals whose atoms no effect could change, and what of them is decided once a task.
use Rattle.std.specs.Prelude.{◌≡◌, ◌↔◌, ℕ, Bool, true, false, cond, IsTrue, List, Some, slice_get, Contains}
use Rattle.std.specs.Prelude.{All}
use Rattle.pl_task.specs.declared.data.GoalLiteral.{GoalLiteral}
use Rattle.pl_task.specs.declared.data.Schema.{Schema}
use Rattle.pl_task.specs.declared.data.Term.{Term}
use Rattle.pl_task.specs.declared.data.Term.TheVariants as term
use Rattle.pl_task.specs.declared.task.Task.{Task}
use Rattle.pl_task.specs.States.{initial}
use Rattle.pl_task.specs.Goal.{CouldGive, is_goal_met}
use Rattle.pl_state.specs.StateOf.{is_fluent_in}

-- the constant at the place is the object there, and places with its parameter have one object
pub record FitsAt (terms : List Term) (objects : List ℕ) (i : ℕ) : Type 0 where
  pub constant : (n : ℕ) → slice_get terms i ≡ Some (term.Object n) → slice_get objects i ≡ Some n
  pub same : (j n : ℕ) → slice_get terms i ≡ Some (term.Parameter n)
      → slice_get terms j ≡ Some (term.Parameter n) →
      slice_get objects i ≡ slice_get objects j

-- at each place with the parameter there is this object
abbrev pub HasObject : List Term → List ℕ → ℕ → ℕ → Type 0
HasObject terms objects n object =
    (j : ℕ) → slice_get terms j ≡ Some (term.Parameter n) → slice_get objects j ≡ Some object

-- no effect could change the literal's atom: no add where it is wanted, no delete where it is unwanted
abbrev pub IsFixed : Task → GoalLiteral → Type 0
IsFixed task g =
    All (λ (schema : Schema). All (λ effect. CouldGive effect g.atom → ⊥)
    (cond g.wanted schema.add schema.delete)) task.schemas

-- what a test of states knows of the goal: whether a literal is lost, and the numbers of the held ones
pub record FixedGoal : Type 0 where
  pub lost : Bool
  pub fixed : List ℕ

-- the literal is fixed and over a static predicate, and not met: no state meets it
pub record IsLost (task : Task) (g : GoalLiteral) : Type 0 where
  pub closed : is_fluent_in task g.atom.predicate ≡ false
  pub missed : is_goal_met (initial task) g ≡ false
  pub none : IsFixed task g

-- the literal is fixed and over a fluent predicate: where it is not met, it is stuck
pub record IsHeld (task : Task) (g : GoalLiteral) : Type 0 where
  pub opens : is_fluent_in task g.atom.predicate ≡ true
  pub none : IsFixed task g

-- some literal is lost
abbrev pub HasLost : Task → Type 0
HasLost task = (n : ℕ) × (g : GoalLiteral) × (slice_get task.goal n ≡ Some g) × IsLost task g

-- the literal with the number is held
abbrev pub IsHeldAt : Task → ℕ → Type 0
IsHeldAt task n = (g : GoalLiteral) × (slice_get task.goal n ≡ Some g) × IsHeld task g

pub record IsFixedGoal (task : Task) (goal : FixedGoal) : Type 0 where
  pub lost_is : IsTrue goal.lost ↔ HasLost task
  pub fixed_are : (n : ℕ) → Contains goal.fixed n ↔ IsHeldAt task n
