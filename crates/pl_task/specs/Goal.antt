-- Goals, and states from which an unmet literal can never be met.
use Rattle.std.specs.Prelude.{◌≡◌, ℕ, Bool, not, cond, IsTrue, length, Some, slice_get, All, Any, count_by}
use Rattle.std.specs.List.{list_all}
use Rattle.pl_task.specs.declared.data.Atom.{Atom}
use Rattle.pl_task.specs.declared.data.GoalLiteral.{GoalLiteral}
use Rattle.pl_task.specs.declared.data.Lifted.{Lifted}
use Rattle.pl_task.specs.declared.data.Schema.{Schema}
use Rattle.pl_task.specs.declared.data.Term.TheVariants as term
use Rattle.pl_task.specs.declared.task.Task.{Task}
use Rattle.pl_task.specs.States.{State}

-- a wanted atom is true, an unwanted one is false
abbrev pub is_goal_met : State → GoalLiteral → Bool
is_goal_met s g = cond g.wanted (s g.atom) (not (s g.atom))

-- a goal state: each literal of the goal is met
abbrev pub is_goal : Task → State → Bool
is_goal task s = list_all (is_goal_met s) task.goal

-- the number of goal literals, repeats counted, that are not met
abbrev pub unmet : Task → State → ℕ
unmet task s = count_by (λ g. not (is_goal_met s g)) task.goal

-- the atom has the effect's predicate, its constants at their places, and equal objects at places with one
-- parameter
pub record CouldGive (effect : Lifted) (atom : Atom) : Type 0 where
  pub predicate : effect.predicate ≡ atom.predicate
  pub many : length effect.terms ≡ length atom.objects
  pub constants : (i n : ℕ) → slice_get effect.terms i ≡ Some (term.Object n) →
      slice_get atom.objects i ≡ Some n
  pub same : (i j n : ℕ) → slice_get effect.terms i ≡ Some (term.Parameter n) →
      slice_get effect.terms j ≡ Some (term.Parameter n) →
      slice_get atom.objects i ≡ slice_get atom.objects j

-- the literal is not met, and no effect could change its atom: no add where it is wanted, no delete where it
-- is unwanted
pub record IsStuck (task : Task) (s : State) (g : GoalLiteral) : Type 0 where
  pub missed : IsTrue (not (is_goal_met s g))
  pub none : All (λ (schema : Schema). All (λ effect. CouldGive effect g.atom →
      ⊥) (cond g.wanted schema.add schema.delete)) task.schemas

-- some literal of the goal is stuck
abbrev pub IsHopeless : Task → State → Type 0
IsHopeless task s = Any (IsStuck task s) task.goal
