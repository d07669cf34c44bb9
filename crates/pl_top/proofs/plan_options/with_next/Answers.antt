use Rattle.std.proofs.Common.{ap, sym, ◌∙◌}
use Rattle.std.specs.Option.{option_map}
use Rattle.pl_top.specs.Asked.{plan_options_named}
use Rattle.pl_top.proofs.OptionLemmas.{next_stats, no_stats, next_value, no_value, last_alone}
use Rattle.pl_top.proofs.ResultLemmas.{if_none}
use Rattle.pl_top.proofs.plan_options.with_next.Goals as goal

pub returns-in_err-options-clause-none : goal.returns-in_err-options-clause-none
returns-in_err-options-clause-none c =
    if_none _ _ (sym c.from_residual.ensures)
    (no_stats c.args.words.now c.args.at _ (plan_options_named c.args.options) c.word-name.ensures
    c.if-eq.ensures
    (ap (option_map plan_options_named) (sym c.in_err-options.was) ∙ c.with_stats.ensures))

pub returns-then-eq-clause-rest : goal.returns-then-eq-clause-rest
returns-then-eq-clause-rest c =
    next_stats c.args.words.now c.args.at _ (plan_options_named c.args.options) _ c.word-name.ensures
    c.if-eq.ensures
    (ap (option_map plan_options_named) (sym c.in_ok-options.was) ∙ c.with_stats.ensures)

pub returns-then-len-at-eq1-clause-none : goal.returns-then-len-at-eq1-clause-none
returns-then-len-at-eq1-clause-none c =
    last_alone c.args.words.now c.args.at _ (plan_options_named c.args.options) c.word-name.ensures
    c.if-eq.ensures
    (rw (← c.len-len.ensures) c.if-len-at-eq1.true)

pub returns-in_err-options-2-clause-none : goal.returns-in_err-options-2-clause-none
returns-in_err-options-2-clause-none c =
    if_none _ _ (sym c.from_residual-in_err-options-2.ensures)
    (no_value c.args.words.now c.args.at _ _ (plan_options_named c.args.options) c.word-name.ensures
    c.word.ensures c.if-eq.ensures
    (ap (option_map plan_options_named) (sym c.in_err-options-2.was) ∙ c.with_value.ensures))

pub returns-clause-rest : goal.returns-clause-rest
returns-clause-rest c =
    next_value c.args.words.now c.args.at _ _ (plan_options_named c.args.options) _ c.word-name.ensures
    c.word.ensures c.if-eq.ensures
    (ap (option_map plan_options_named) (sym c.in_ok-options-2.was) ∙ c.with_value.ensures)
