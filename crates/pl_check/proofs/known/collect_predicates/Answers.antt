use Rattle.std.proofs.Common.{◌∙◌, sym, ap, arith}
use Rattle.pl_check.proofs.KnownLemmas.{few_parts, declared_yes, declared_no}
use Rattle.pl_check.proofs.known.collect_predicates.Goals as goal
use Rattle.pl_check.proofs.known.collect_predicates.Goals.{then-is_predicate_name+in_ok-push+in_ok-push-2}
use Rattle.pl_check.proofs.known.collect_predicates.Goals.{else-is_predicate_name}

pub overflow_cast-count_variables : goal.overflow_cast-count_variables
overflow_cast-count_variables c =
    let few = few_parts c.args.forms.now c.loop-form.form-index c.form-item.result
    c.parts-then-is_predicate_name.result.now
    c.loop-form-test.true c.form-item.is c.parts-then-is_predicate_name.ensures c.requires.inside in
    omega (arith, few, c.count_variables.ensures.few)

pub loop-form-preserved : goal.loop-form-preserved
loop-form-preserved c = elim c.if-is_predicate_name.branch [
  | then-is_predicate_name+in_ok-push+in_ok-push-2 w ↦
      declared_yes c.args.text.now c.args.forms.now c.loop-form.form-index
      c.form-item.result c.parts.result.now
      w.parts-then-is_predicate_name.result.now c.head-name.result c.loop-form.names.items
      c.if-is_predicate_name.names.items
      w.count_variables.result c.loop-form.arities.items c.if-is_predicate_name.arities.items
      c.loop-form-test.true c.form-item.is c.parts.ensures c.head-name.ensures
      (sym c.is_predicate_name.ensures ∙ w.if-is_predicate_name.true)
      w.parts-then-is_predicate_name.ensures w.count_variables.ensures.count
      (ap (λ v. v.items) w.names-is ∙ w.in_ok-push.ensures.items)
      (ap (λ v. v.items) w.arities-is ∙ w.in_ok-push-2.ensures.items)
      c.loop-form.invariant
  | else-is_predicate_name w ↦
      declared_no c.args.text.now c.args.forms.now c.loop-form.form-index
      c.form-item.result c.parts.result.now
      c.head-name.result.now c.loop-form.names.items c.if-is_predicate_name.names.items
      c.loop-form.arities.items c.if-is_predicate_name.arities.items
      c.loop-form-test.true c.form-item.is c.parts.ensures c.head-name.ensures
      (sym c.is_predicate_name.ensures ∙ w.if-is_predicate_name.false)
      (ap (λ v. v.items) w.names-is) (ap (λ v. v.items) w.arities-is) c.loop-form.invariant
]
