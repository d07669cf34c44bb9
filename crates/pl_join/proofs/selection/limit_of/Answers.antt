use Rattle.std.proofs.Common.{All, take, subst, arith}
use Rattle.std.proofs.lemmas.List.{take_all}
use Rattle.std.proofs.lemmas.List.Elements.{All-more, All-weaker}
use Rattle.pl_join.specs.Relation.{IsSlotBelow}
use Rattle.pl_join.proofs.selection.limit_of.Goals as goal

pub loop-slot-preserved : goal.loop-slot-preserved
loop-slot-preserved c = record {
  below = All-more (IsSlotBelow c.limit_with-limit.result) c.args.slots.now c.loop-slot.slot-index _
      c.loop-slot-test.true
      (All-weaker (IsSlotBelow c.loop-slot.limit) (IsSlotBelow c.limit_with-limit.result)
      (λ slot h k e. (let below = h k e in omega (arith, below, c.limit_with-limit.ensures.more)))
      (take c.loop-slot.slot-index c.args.slots.now) c.loop-slot.invariant.below)
      c.limit_with-limit.ensures.below;
  most = c.limit_with-limit.ensures.most;
}

pub returns-clause-below : goal.returns-clause-below
returns-clause-below c = subst (All (IsSlotBelow c.loop-slot.limit))
    (take_all c.loop-slot.slot-index c.args.slots.now c.loop-slot-test.false) c.loop-slot.invariant.below
