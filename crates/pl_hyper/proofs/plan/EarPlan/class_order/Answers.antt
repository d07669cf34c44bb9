use Rattle.std.proofs.Common.{ℕ, ◌↔◌, IfOk, ap, subst, ◌∙◌}
use Rattle.std.specs.List.{Contains}
use Rattle.pl_hyper.specs.Ears.{Removal}
use Rattle.pl_hyper.specs.ClassOrder.{IsClass, BeginsWithWalked}
use Rattle.pl_hyper.proofs.ClassOrders.{given_removed, given_core, given_removal, given_plan}
use Rattle.pl_hyper.proofs.plan.EarPlan.class_order.Goals as goal

pub order_of_classes-requires-clause-removed : goal.order_of_classes-requires-clause-removed
order_of_classes-requires-clause-removed c = given_removed _ c.as_slice-edges.result.now c.as_slice.result.now
    c.self.invariant c.as_slice-edges.ensures.value c.as_slice.ensures.value

pub order_of_classes-requires-clause-core : goal.order_of_classes-requires-clause-core
order_of_classes-requires-clause-core c = given_core _ c.as_slice-edges.result.now c.as_slice-2.result.now
    c.self.invariant c.as_slice-edges.ensures.value c.as_slice-2.ensures.value

pub order_of_classes-requires-clause-removal : goal.order_of_classes-requires-clause-removal
order_of_classes-requires-clause-removal c = given_removal _ c.as_slice-edges.result.now c.as_slice.result.now
    c.as_slice-2.result.now c.self.invariant c.as_slice-edges.ensures.value c.as_slice.ensures.value
    c.as_slice-2.ensures.value

pub returns-clause-classes : goal.returns-clause-classes
returns-clause-classes c =
    let same = c.as_slice-edges.ensures.value ∙ ap (λ (p : Removal). p.edges) c.self.view_is in
    subst (λ edges. IfOk c.order_of_classes.result (λ v. (class : ℕ) → Contains v.items class ↔
    IsClass edges class)) same c.order_of_classes.ensures.classes

pub returns-clause-walked : goal.returns-clause-walked
returns-clause-walked c =
    let same = given_plan _ c.args.self.now c.as_slice-edges.result.now c.as_slice.result.now
    c.as_slice-2.result.now c.as_slice-edges.ensures.value c.as_slice.ensures.value
    c.as_slice-2.ensures.value c.self.view_is in
    subst (λ plan. IfOk c.order_of_classes.result (λ v. BeginsWithWalked plan v.items)) same
    c.order_of_classes.ensures.walked
