use Rattle.std.proofs.Common.{◌≡◌, take, true}
use Rattle.std.specs.List.{list_all}
use Rattle.pl_task.specs.Goal.{is_goal_met}
use Rattle.pl_state.specs.StateOf.{state_in}
use Rattle.pl_state.proofs.goal_test.GoalTest.holds.Given as goal

abbrev pub invariant-loop-literal : goal.invariant-loop-literal
invariant-loop-literal l =
    list_all (is_goal_met (state_in l.task l.state)) (take l.literal-index l.self.literals) ≡ true
