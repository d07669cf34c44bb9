use Rattle.std.proofs.Common.{refl}
use Rattle.pl_hooks.specs.Fixed.{IsHeld, IsLost}
use Rattle.pl_hooks.proofs.StuckLemmas.{fixed_held, fixed_lost, fixed_neither, fixed_all, says_no}
use Rattle.pl_hooks.proofs.hopeless_test.HopelessTest.of.Goals as goal

pub loop-number-preserved-then-is_held : goal.loop-number-preserved-then-is_held
loop-number-preserved-then-is_held c =
    fixed_held c.args.task.now c.as_slice-goal.result.now c.loop-number.number c.index-goal-number.result
    c.loop-number.lost c.loop-number.fixed.items c.push.new.self.items c.loop-number-test.true
    c.index-goal-number.is
    (c.is_held.ensures.0 c.if-is_held.true) c.in_ok-push.ensures.items c.loop-number.invariant

pub loop-number-preserved-then-not-is_lost : goal.loop-number-preserved-then-not-is_lost
loop-number-preserved-then-not-is_lost c =
    fixed_neither c.args.task.now c.as_slice-goal.result.now c.loop-number.number c.index-goal-number.result
    c.loop-number.lost c.loop-number.fixed.items c.loop-number-test.true c.index-goal-number.is
    (says_no c.is_held.result (IsHeld c.args.task.now c.index-goal-number.result) c.is_held.ensures
    c.if-is_held.false)
    (says_no c.is_lost.result (IsLost c.args.task.now c.index-goal-number.result) c.is_lost.ensures
    c.if-not-is_lost.true) c.loop-number.invariant

pub loop-number-preserved : goal.loop-number-preserved
loop-number-preserved c =
    fixed_lost c.args.task.now c.as_slice-goal.result.now c.loop-number.number c.index-goal-number.result
    c.loop-number.lost c.loop-number.fixed.items c.loop-number-test.true c.index-goal-number.is
    (says_no c.is_held.result (IsHeld c.args.task.now c.index-goal-number.result) c.is_held.ensures
    c.if-is_held.false) (c.is_lost.ensures.0 c.if-not-is_lost.false) c.loop-number.invariant

pub returns : goal.returns
returns c =
    fixed_all c.args.task.now c.as_slice-goal.result.now c.loop-number.number c.loop-number.lost
    c.loop-number.fixed.items (record { lost = c.loop-number.lost; fixed = c.loop-number.fixed.items })
    c.as_slice-goal.ensures c.loop-number-test.false refl refl c.loop-number.invariant
