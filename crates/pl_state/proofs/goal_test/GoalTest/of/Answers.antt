use Rattle.pl_state.proofs.Decidings.{decided_none, decided_open, decided_met, decided_missed}
use Rattle.pl_state.proofs.goal_test.GoalTest.of.Goals as goal

pub loop-literal-init : goal.loop-literal-init
loop-literal-init c =
    decided_none c.args.task.now c.as_slice-literal-items.result.now c.new-literals.result.items
    c.new-literals.ensures.items

pub loop-literal-preserved-then-is_fluent : goal.loop-literal-preserved-then-is_fluent
loop-literal-preserved-then-is_fluent c =
    decided_open c.args.task.now c.as_slice-literal-items.result.now c.loop-literal.literal-index
    c.loop-literal.missed c.loop-literal.literals.items c.push.new.self.items c.literal-item.result
    c.in_ok-copied.field-0
    c.loop-literal-test.true c.literal-item.is c.in_ok-copied.ensures c.if-is_fluent.ensures
    c.in_ok-push.ensures.items c.loop-literal.invariant

pub loop-literal-preserved-then-is_met_initially : goal.loop-literal-preserved-then-is_met_initially
loop-literal-preserved-then-is_met_initially c =
    decided_met c.args.task.now c.as_slice-literal-items.result.now c.loop-literal.literal-index
    c.loop-literal.missed c.loop-literal.literals.items c.literal-item.result
    c.loop-literal-test.true c.literal-item.is c.if-is_fluent.ensures c.if-is_met_initially.ensures
    c.loop-literal.invariant

pub loop-literal-preserved : goal.loop-literal-preserved
loop-literal-preserved c =
    decided_missed c.args.task.now c.as_slice-literal-items.result.now c.loop-literal.literal-index
    c.loop-literal.missed c.loop-literal.literals.items c.literal-item.result
    c.loop-literal-test.true c.literal-item.is c.if-is_fluent.ensures c.if-is_met_initially.ensures
    c.loop-literal.invariant
