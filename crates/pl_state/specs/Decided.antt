-- The goal of a task with its literals over static predicates decided.
use Rattle.std.specs.Prelude.{◌≡◌, ℕ, Bool, not, ◌&&◌, List, count_by, filter}
use Rattle.pl_task.specs.declared.data.GoalLiteral.{GoalLiteral}
use Rattle.pl_task.specs.declared.task.Task.{Task}
use Rattle.pl_task.specs.States.{initial}
use Rattle.pl_task.specs.Goal.{is_goal_met}
use Rattle.pl_state.specs.StateOf.{is_fluent_in}

-- how many literals no state meets, and those that a state decides
pub record DecidedGoal : Type 0 where
  pub missed : ℕ
  pub literals : List GoalLiteral

-- whether a state decides the literal
abbrev pub is_open : Task → GoalLiteral → Bool
is_open task g = is_fluent_in task g.atom.predicate

-- whether no state meets the literal
abbrev pub is_missed : Task → GoalLiteral → Bool
is_missed task g = not (is_open task g) && not (is_goal_met (initial task) g)

pub record IsDecidedGoal (task : Task) (goal : DecidedGoal) : Type 0 where
  pub missed_are : goal.missed ≡ count_by (is_missed task) task.goal
  pub literals_are : goal.literals ≡ filter (is_open task) task.goal
