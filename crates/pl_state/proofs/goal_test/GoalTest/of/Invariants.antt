use Rattle.pl_state.proofs.Decidings.{IsDecidedUpTo}
use Rattle.pl_state.proofs.goal_test.GoalTest.of.Given as goal

abbrev pub invariant-loop-literal : goal.invariant-loop-literal
invariant-loop-literal l = IsDecidedUpTo l.task l.literal-items l.literal-index l.missed l.literals.items
