use Rattle.std.proofs.Common.{◌≡◌, true, take}
use Rattle.std.specs.List.{list_all}
use Rattle.pl_task.specs.States.{state_of}
use Rattle.pl_task.specs.Goal.{is_goal_met}
use Rattle.pl_valid.proofs.condition.meets_goal.Given as goal

abbrev pub invariant-loop-literal : goal.invariant-loop-literal
invariant-loop-literal l = list_all (is_goal_met (state_of l.atoms.keys)) (take l.literal-index l.task.goal) ≡
    true
