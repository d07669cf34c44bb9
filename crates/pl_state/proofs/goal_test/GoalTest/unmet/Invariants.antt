use Rattle.std.proofs.Common.{◌≡◌, ◌+◌, take, not, count_by}
use Rattle.pl_task.specs.Goal.{is_goal_met}
use Rattle.pl_state.specs.StateOf.{state_in}
use Rattle.pl_state.proofs.goal_test.GoalTest.unmet.Given as goal

abbrev pub invariant-loop-literal : goal.invariant-loop-literal
invariant-loop-literal l =
    l.count ≡ l.self.missed + count_by (λ g. not (is_goal_met (state_in l.task l.state) g))
    (take l.literal-index l.self.literals)
