use Rattle.std.proofs.Common.{◌≡◌, arith, length, subst, sym, take}
use Rattle.std.proofs.lemmas.Bool.Decides.{Decides-eqb}
use Rattle.std.proofs.lemmas.List.{take_all, take_more}
use Rattle.pl_join.specs.Source.{StandInOrder}
use Rattle.pl_join.proofs.Copying.{next_fresh}
use Rattle.pl_join.proofs.selection.stand_in_order.Goals as goal

pub loop-class-preserved : goal.loop-class-preserved
loop-class-preserved c = record {
  within = c.place_past-place.ensures.within;
  past = subst (λ done. StandInOrder done (take c.place_past-place.result c.args.slots.now))
      (sym (take_more c.args.order.now c.loop-class.class-index 0 c.loop-class-test.true))
      (c.place_past-place.ensures.past _
      (next_fresh c.args.order.now c.loop-class.class-index 0 c.loop-class-test.true c.requires)
      c.loop-class.invariant.past);
}

pub returns : goal.returns
returns c = λ all.
    let end : c.loop-class.place ≡ length c.args.slots.now = (Decides-eqb _ _).0 all in
    subst (StandInOrder c.args.order.now)
    (take_all c.loop-class.place c.args.slots.now (omega (arith, end)))
    (subst (λ done. StandInOrder done (take c.loop-class.place c.args.slots.now))
    (take_all c.loop-class.class-index c.args.order.now c.loop-class-test.false)
    c.loop-class.invariant.past)
