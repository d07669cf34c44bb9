use Rattle.std.proofs.Common.{arith, subst}
use Rattle.std.proofs.lemmas.List.{take_all}
use Rattle.pl_join.specs.Source.{AreRisingClasses}
use Rattle.pl_join.proofs.Copying.{rising_more}
use Rattle.pl_join.proofs.selection.are_rising.Goals as goal

pub loop-slot-preserved : goal.loop-slot-preserved
loop-slot-preserved c =
    let (here, above) = c.in-Some.ensures in
    let low = c.requires c.loop-slot.slot-index _ c.loop-slot-test.true c.in-Some.class here in
    record {
      are = rising_more c.args.slots.now c.loop-slot.slot-index c.loop-slot.limit c.in-Some.class _
          c.loop-slot-test.true c.loop-slot.invariant.are here above;
      most = omega (arith, low);
    }

pub returns : goal.returns
returns c = λ rising. subst AreRisingClasses
    (take_all c.loop-slot.slot-index c.args.slots.now c.loop-slot-test.false) c.loop-slot.invariant.are.are
