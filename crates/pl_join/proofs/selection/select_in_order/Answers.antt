use Rattle.std.proofs.Common.{◌≡◌, ◌<◌, All, ap, map, sym, subst, ◌∙◌}
use Rattle.std.proofs.lemmas.Result.{IfOk-weaker}
use Rattle.pl_join.specs.declared.slot.Slot.TheVariants.{Class}
use Rattle.pl_join.specs.Relation.{ClassRows, AreDistinct, IsSlotOver, classes_in}
use Rattle.pl_join.specs.Source.{number_in}
use Rattle.pl_join.proofs.Copying.{numbers_in_order}
use Rattle.pl_join.proofs.Gathering.{in_order_distinct, in_order_below, in_order_over}
use Rattle.pl_join.proofs.selection.select_in_order.Goals as goal

pub copied_relation-requires-clause-just : goal.copied_relation-requires-clause-just
copied_relation-requires-clause-just g c =
    let stand = c.stand_in_order.ensures c.if-stand_in_order.true in
    stand ∙ ap (map Class) (sym (numbers_in_order c.args.order.now c.args.slots.now stand))

pub copied_relation-requires-clause-distinct : goal.copied_relation-requires-clause-distinct
copied_relation-requires-clause-distinct g c =
    subst AreDistinct
    (sym (numbers_in_order c.args.order.now c.args.slots.now
    (c.stand_in_order.ensures c.if-stand_in_order.true)))
    (in_order_distinct c.args.order.now c.args.slots.now c.requires.distinct)

pub returns-then-stand_in_order-clause-classes : goal.returns-then-stand_in_order-clause-classes
returns-then-stand_in_order-clause-classes g c =
    IfOk-weaker c.copied_relation.result
    (λ (r : ClassRows). r.classes ≡ map number_in c.args.slots.now)
    (λ (r : ClassRows). r.classes ≡ classes_in c.args.order.now c.args.slots.now)
    (λ r is. is ∙ numbers_in_order c.args.order.now c.args.slots.now
    (c.stand_in_order.ensures c.if-stand_in_order.true))
    c.copied_relation.ensures.classes

pub fitting_relation-requires-clause-distinct : goal.fitting_relation-requires-clause-distinct
fitting_relation-requires-clause-distinct g c =
    subst AreDistinct (sym c.in_ok-classes.ensures.classes_are)
    (in_order_distinct c.args.order.now c.args.slots.now c.requires.distinct)

pub fitting_relation-requires-clause-below : goal.fitting_relation-requires-clause-below
fitting_relation-requires-clause-below g c =
    subst (All (λ c. c < 64)) (sym c.in_ok-classes.ensures.classes_are)
    (in_order_below c.args.order.now c.args.slots.now c.requires.slots)

pub fitting_relation-requires-clause-over : goal.fitting_relation-requires-clause-over
fitting_relation-requires-clause-over g c =
    subst (λ classes. All (IsSlotOver classes) c.args.slots.now) (sym c.in_ok-classes.ensures.classes_are)
    (in_order_over c.args.order.now c.args.slots.now c.requires.held)
