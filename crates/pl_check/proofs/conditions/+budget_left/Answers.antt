-- A list counts by its head, and the elements of a conjunction one after another.
use Rattle.std.proofs.Common.{◌≡◌, ◌≤◌, ◌+◌, ℕ, length, refl, sym, ap, ◌∙◌, arith, get_or, drop}
use Rattle.std.proofs.lemmas.List.{at_drop_all, at_drop_more}
use Rattle.pl_text.specs.Trees.{tree_of}
use Rattle.pl_check.specs.Conditions.{left_of, counted}
use Rattle.pl_check.specs.Elements.{trees}
use Rattle.pl_check.proofs.ConditionLemmas.{counted_in, counted_single, counted_many, left_none, left_zero}
use Rattle.pl_check.proofs.conditions.+budget_left.Goals as goal

pub returns-then-not-is_connective : goal.returns-then-not-is_connective
returns-then-not-is_connective t c =
    c.less.ensures ∙ ap (left_of c.args.budget)
    (counted_single c.args.text.now c.args.form.now _ _ _ _ _ _ c.in-List.is c.as_slice-elements.ensures.value
    c.kind_of_head-head.ensures
    c.is_connective.ensures c.if-not-is_connective.true c.is_basic.ensures)

pub returns-in-None : goal.returns-in-None
returns-in-None t c =
    left_none _ _ (counted_in c.args.text.now
    (trees (drop (c.loop-element.element-index + 1) c.rest-inner.result.now)))
    (c.in-None.ensures ∙ ap (λ f. left_of c.loop-element.left (counted c.args.text.now (tree_of f)))
    c.element-item.is) ∙
    sym (ap (left_of c.loop-element.left)
    (at_drop_more (λ l. counted_in c.args.text.now (trees l)) c.rest-inner.result.now
    c.loop-element.element-index c.element-item.result c.loop-element-test.true)) ∙
    sym c.loop-element.invariant ∙
    ap (left_of c.args.budget)
    (counted_many c.args.text.now c.args.form.now _ _ _ _ _ _ c.in-List.is c.as_slice-elements.ensures.value
    c.rest-inner.ensures
    c.kind_of_head-head.ensures c.is_connective.ensures c.if-not-is_connective.false)

pub returns-after-loop-element : goal.returns-after-loop-element
returns-after-loop-element t c =
    sym (left_zero c.loop-element.left) ∙
    sym (ap (left_of c.loop-element.left)
    (at_drop_all (λ l. counted_in c.args.text.now (trees l)) c.rest-inner.result.now
    c.loop-element.element-index c.loop-element-test.false)) ∙
    sym c.loop-element.invariant ∙
    ap (left_of c.args.budget)
    (counted_many c.args.text.now c.args.form.now _ _ _ _ _ _ c.in-List.is c.as_slice-elements.ensures.value
    c.rest-inner.ensures
    c.kind_of_head-head.ensures c.is_connective.ensures c.if-not-is_connective.false)
