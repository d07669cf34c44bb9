use Rattle.std.proofs.Common.{◌∙◌, sym, arith, eqb-true, eq-eqb}
use Rattle.std.proofs.lemmas.Bool.{false≢true}
use Rattle.pl_reduce.proofs.Ordering.{no_room, another, all_met}
use Rattle.pl_reduce.proofs.arranging.is_in_order.Goals as goal

pub returns-then-met-classes : goal.returns-then-met-classes
returns-then-met-classes c = (
  λ h. absurd (false≢true h),
  λ is. absurd (no_room c.args.order.now c.args.classes.now c.loop-class.class-index 0 c.loop-class.met
      c.loop-class-test.true (sym c.contains.ensures.value ∙ c.if-contains.true)
      c.loop-class.invariant.within c.if-met-classes.true c.loop-class.invariant.met_are is),
)

pub returns-then-classes-met : goal.returns-then-classes-met
returns-then-classes-met c = (
  λ h. absurd (false≢true h),
  λ is. absurd (another c.args.order.now c.args.classes.now c.loop-class.class-index 0 0 c.loop-class.met
      c.loop-class-test.true (sym c.contains.ensures.value ∙ c.if-contains.true)
      (omega (arith, c.if-met-classes.false)) c.if-classes-met.true c.loop-class.invariant.met_are is),
)

pub returns : goal.returns
returns c =
    let both = all_met c.args.order.now c.args.classes.now c.loop-class.class-index c.loop-class.met
    c.loop-class-test.false c.loop-class.invariant.within c.loop-class.invariant.met_are in
    (λ h. both.0 (eqb-true _ _ h), λ is. eq-eqb _ _ (both.1 is))
