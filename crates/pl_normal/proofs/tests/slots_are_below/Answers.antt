use Rattle.std.proofs.Common.{sym, take_all}
use Rattle.std.proofs.lemmas.List.Elements.{All-more, All-same}
use Rattle.pl_join.specs.declared.slot.Slot.TheVariants.{Fixed}
use Rattle.pl_join.specs.Relation.{IsSlotBelow}
use Rattle.pl_normal.proofs.tests.slots_are_below.Goals as goal

pub loop-slot-preserved : goal.loop-slot-preserved
loop-slot-preserved c = All-more (IsSlotBelow 64) c.args.slots.now c.loop-slot.slot-index
    (Fixed 0) c.loop-slot-test.true c.loop-slot.invariant
    (c.slot_is_below.ensures c.if-not-slot_is_below.false)

pub returns : goal.returns
returns c = λ _. All-same (IsSlotBelow 64) c.args.slots.now _
    (sym (take_all c.loop-slot.slot-index c.args.slots.now c.loop-slot-test.false)) c.loop-slot.invariant
