use Rattle.std.proofs.Common.{◌∙◌, arith, ap, sym, Some}
use Rattle.std.specs.Option.{option_map}
use Rattle.pl_top.specs.Asked.{options_named}
use Rattle.pl_top.proofs.RequestLemmas.{next_option, no_option, odd_word, left_over}
use Rattle.pl_top.proofs.request.options_of.Goals as goal

pub returns-in_err-options : goal.returns-in_err-options
returns-in_err-options c =
    ap (option_map options_named) c.from_residual.ensures
    ∙ no_option c.args.words.now c.loop-at.at _ _ (options_named c.loop-at.options)
    (option_map options_named c.with_option.result) _
    c.word.ensures c.word-in-loop-at.ensures c.with_option.ensures
    (ap (option_map options_named) (c.in_err-options.was))
    c.loop-at.invariant.1

pub loop-at-preserved : goal.loop-at-preserved
loop-at-preserved c = (
  omega (arith, c.loop-at-test.true, c.len.ensures),
  next_option c.args.words.now c.loop-at.at _ _ (options_named c.loop-at.options)
      (Some (options_named c.in_ok-options.options)) _
      c.word.ensures c.word-in-loop-at.ensures
      (ap (option_map options_named) (sym (c.in_ok-options.was)) ∙ c.with_option.ensures)
      c.loop-at.invariant.1,
)

pub returns-then-at-len : goal.returns-then-at-len
returns-then-at-len c =
    odd_word _ (options_named c.loop-at.options) _
    (left_over c.args.words.now c.loop-at.at
    (omega (arith, c.loop-at-test.false, c.len.ensures, c.len-2.ensures, c.if-at-len.true)))
    c.loop-at.invariant.1
