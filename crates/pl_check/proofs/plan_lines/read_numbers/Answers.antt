use Rattle.std.proofs.Common.{sym, ap, ◌∙◌}
use Rattle.pl_names.specs.Names.{number_among}
use Rattle.pl_text.specs.Trees.{tree_of}
use Rattle.pl_check.specs.Elements.{word_of}
use Rattle.pl_check.proofs.PlanLineLemmas.{numbers_fewer}
use Rattle.pl_check.proofs.plan_lines.read_numbers.Goals as goal

pub returns-in_default : goal.returns-in_default
returns-in_default c =
    numbers_fewer c.args.text.now c.args.names.now c.args.forms.now c.loop-form.form-index c.form-item.result
    c.loop-form.numbers.items c.loop-form-test.true c.loop-form.invariant.1 c.loop-form.invariant.0
    (ap (λ f. number_among c.args.names.now (word_of c.args.text.now (tree_of f))) (sym c.form-item.is) ∙
    ap (number_among c.args.names.now) (sym c.word.ensures) ∙
    sym c.find.ensures ∙
    c.in_default.is)
