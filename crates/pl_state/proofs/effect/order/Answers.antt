use Rattle.std.proofs.Common.{ap, ◌∙◌, sym, length, true, false}
use Rattle.pl_state.proofs.Namings.{is_below, is_at_most, up_to_differ, up_to_alike, up_to_all}
use Rattle.pl_state.proofs.effect.order.Goals as goal

pub returns-then-value_of_first-value_of_second-clause-below :
    goal.returns-then-value_of_first-value_of_second-clause-below
returns-then-value_of_first-value_of_second-clause-below c =
    is_below _ _ _ c.cmp.ensures ∙
    up_to_differ false c.args.args.now c.args.first.now.terms c.args.second.now.terms
    c.as_slice-first.result.now
    c.as_slice-second.result.now c.loop-i.i _ _ _ _ c.as_slice-first.ensures c.as_slice-second.ensures
    c.requires.first.many c.loop-i-test.true c.value-value_of_first.ensures c.value-value_of_second.ensures
    c.if-value_of_first-value_of_second.true (c.loop-i.invariant false)

pub returns-then-value_of_first-value_of_second-clause-at_most :
    goal.returns-then-value_of_first-value_of_second-clause-at_most
returns-then-value_of_first-value_of_second-clause-at_most c =
    is_at_most _ _ _ c.if-value_of_first-value_of_second.true c.cmp.ensures ∙
    up_to_differ true c.args.args.now c.args.first.now.terms c.args.second.now.terms
    c.as_slice-first.result.now
    c.as_slice-second.result.now c.loop-i.i _ _ _ _ c.as_slice-first.ensures c.as_slice-second.ensures
    c.requires.first.many c.loop-i-test.true c.value-value_of_first.ensures c.value-value_of_second.ensures
    c.if-value_of_first-value_of_second.true (c.loop-i.invariant true)

pub loop-i-preserved : goal.loop-i-preserved
loop-i-preserved c = λ or_equal.
    up_to_alike or_equal c.args.args.now c.as_slice-first.result.now c.as_slice-second.result.now c.loop-i.i _
    _ _ _
    (ap length c.as_slice-first.ensures ∙ c.requires.first.many ∙ sym (ap length c.as_slice-second.ensures))
    c.loop-i-test.true c.value-value_of_first.ensures c.value-value_of_second.ensures
    c.if-value_of_first-value_of_second.false (c.loop-i.invariant or_equal)

pub returns-clause-below : goal.returns-clause-below
returns-clause-below c =
    up_to_all false c.args.args.now c.args.first.now.terms c.args.second.now.terms c.as_slice-first.result.now
    c.as_slice-second.result.now c.loop-i.i c.as_slice-first.ensures c.as_slice-second.ensures
    c.loop-i-test.false
    (c.loop-i.invariant false)

pub returns-clause-at_most : goal.returns-clause-at_most
returns-clause-at_most c =
    up_to_all true c.args.args.now c.args.first.now.terms c.args.second.now.terms c.as_slice-first.result.now
    c.as_slice-second.result.now c.loop-i.i c.as_slice-first.ensures c.as_slice-second.ensures
    c.loop-i-test.false
    (c.loop-i.invariant true)
