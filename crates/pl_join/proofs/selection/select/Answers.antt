use Rattle.std.proofs.Common.{◌≡◌, All, sym, subst, map}
use Rattle.std.proofs.lemmas.Result.{IfOk-weaker}
use Rattle.pl_join.specs.Relation.{ClassRows, AreClassesOf, AreDistinct, IsSlotOver, classes_in}
use Rattle.pl_join.specs.Source.{AreNumbersBelow, number_in}
use Rattle.pl_join.proofs.Copying.{rising_are}
use Rattle.pl_join.proofs.Gathering.{numbers_held, rising_classes, rising_distinct}
use Rattle.pl_join.proofs.selection.select.Goals as goal

pub copied_relation-requires-clause-distinct : goal.copied_relation-requires-clause-distinct
copied_relation-requires-clause-distinct g c =
    rising_distinct (map number_in c.args.slots.now) (c.are_rising.ensures c.if-are_rising.true).rising

pub returns-then-are_rising-clause-classes : goal.returns-then-are_rising-clause-classes
returns-then-are_rising-clause-classes g c =
    IfOk-weaker c.copied_relation.result
    (λ (r : ClassRows). r.classes ≡ map number_in c.args.slots.now)
    (λ (r : ClassRows). AreClassesOf c.args.slots.now r.classes)
    (λ r is. subst (AreClassesOf c.args.slots.now) (sym is)
    (rising_are c.args.slots.now (c.are_rising.ensures c.if-are_rising.true)))
    c.copied_relation.ensures.classes

pub select_in_order-requires-clause-distinct : goal.select_in_order-requires-clause-distinct
select_in_order-requires-clause-distinct g c =
    subst AreDistinct (sym c.as_slice.ensures)
    (rising_distinct c.in_ok-order.order.items c.in_ok-order.ensures.rising)

pub select_in_order-requires-clause-held : goal.select_in_order-requires-clause-held
select_in_order-requires-clause-held g c =
    subst (λ order. All (IsSlotOver order) c.args.slots.now) (sym c.as_slice.ensures)
    (numbers_held c.args.slots.now c.in_ok-order.order.items c.limit_of.result c.in_ok-order.ensures
    c.limit_of.ensures.below)

pub returns-clause-classes : goal.returns-clause-classes
returns-clause-classes g c =
    IfOk-weaker c.select_in_order.result
    (λ (r : ClassRows). r.classes ≡ classes_in c.as_slice.result.now c.args.slots.now)
    (λ (r : ClassRows). AreClassesOf c.args.slots.now r.classes)
    (λ r is. subst (AreClassesOf c.args.slots.now) (sym is)
    (rising_classes c.args.slots.now c.as_slice.result.now c.limit_of.result
    (subst (AreNumbersBelow c.limit_of.result) (sym c.as_slice.ensures) c.in_ok-order.ensures)
    c.limit_of.ensures.below))
    c.select_in_order.ensures.classes
