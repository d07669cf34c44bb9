use Rattle.std.proofs.Common.{subst, sym}
use Rattle.std.proofs.lemmas.List.{take_all, take_more}
use Rattle.pl_join.specs.Source.{IsGathered}
use Rattle.pl_join.proofs.Gathering.{gathered_none}
use Rattle.pl_join.proofs.selection.classes_in.Goals as goal

pub loop-class-init : goal.loop-class-init
loop-class-init c = rw (c.new-classes.ensures.items, c.new-columns.ensures.items)
    (gathered_none c.args.slots.now)

pub loop-class-preserved : goal.loop-class-preserved
loop-class-preserved c =
    subst (λ done. IsGathered c.args.slots.now done c.gather.new.classes.items c.gather.new.columns.items)
    (sym (take_more c.args.order.now c.loop-class.class-index 0 c.loop-class-test.true))
    (c.in_ok-gather.ensures _ c.loop-class.invariant)

pub returns : goal.returns
returns c =
    subst (λ done. IsGathered c.args.slots.now done c.loop-class.classes.items c.loop-class.columns.items)
    (take_all c.loop-class.class-index c.args.order.now c.loop-class-test.false) c.loop-class.invariant
