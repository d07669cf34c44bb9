-- Plans in the order of their steps, and the least of all plans of a task.
use Rattle.std.specs.Prelude.{◌≡◌, ◌≢◌, ◌≤◌, List, length}
use Rattle.std.specs.Cmp.Lexicographic.{slice_cmp}
use Rattle.std.specs.declared.cmp.Ordering.{Ordering}
use Rattle.std.specs.declared.cmp.Ordering.TheVariants.{Less}
use Rattle.pl_task.specs.declared.task.Task.{Task}
use Rattle.pl_task.specs.Instance.{Instance}
use Rattle.pl_task.specs.Plans.{IsPlan}
use Rattle.pl_normal.specs.StepOrder.{step_cmp}

-- lists of steps are compared step by step, in the order of steps: the first difference decides
abbrev pub plan_cmp : Task → List Instance → List Instance → Ordering
plan_cmp task = slice_cmp (step_cmp task)

-- no plan has fewer steps, and each other plan of as many steps comes after this one
pub record IsLeastPlan (task : Task) (plan : List Instance) : Type 0 where
  pub is_plan : IsPlan task plan
  pub shortest : (steps : List Instance) → IsPlan task steps → length plan ≤ length steps
  pub first : (steps : List Instance) → IsPlan task steps → length steps ≡ length plan → steps ≢ plan →
      plan_cmp task plan steps ≡ Less
