use Rattle.std.proofs.Common.{◌≡◌, ◌≤◌, length, All, false, ap, sym, subst, ◌∙◌, arith}
use Rattle.std.specs.Prelude.{codes, bytes_eq}
use Rattle.pl_text.specs.Trees.{tree_of}
use Rattle.pl_check.specs.Actions.{parameter_elements}
use Rattle.pl_check.specs.Elements.{trees, word_of}
use Rattle.pl_check.specs.Reading.{HasFew}
use Rattle.pl_check.proofs.ActionLemmas.{parameters_left, parameters_end, few_left}
use Rattle.pl_check.proofs.actions.parameter_forms.Goals as goal

pub loop-left-preserved : goal.loop-left-preserved
loop-left-preserved c =
    let two : 2 ≤ length c.loop-left.left.now = omega arith in
    let other : bytes_eq (word_of c.args.text.now (tree_of c.index-left-0.result)) (codes ":parameters") ≡
    false =
    ap (λ w. bytes_eq w (codes ":parameters")) (sym c.word.ensures) ∙
    ap (λ w. bytes_eq c.word.result.now w) (sym c.as_slice.ensures) ∙ sym c.eq.ensures ∙ c.if-eq.false in (
      c.loop-left.invariant.0 ∙
          parameters_left c.args.text.now _ c.index-left-0.result two c.index-left-0.is other ∙
          ap (λ l. parameter_elements c.args.text.now (trees l)) (sym c.rest-left.ensures),
      λ few. subst (λ l. All HasFew (trees l)) (sym c.rest-left.ensures)
          (few_left _ (c.loop-left.invariant.1 few)),
    )

pub returns-clause-forms : goal.returns-clause-forms
returns-clause-forms c =
    let past : length c.loop-left.left.now ≤ 1 = omega arith in
    sym (c.loop-left.invariant.0 ∙ parameters_end c.args.text.now _ past)
