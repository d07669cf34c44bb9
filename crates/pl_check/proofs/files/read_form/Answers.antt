use Rattle.std.proofs.Common.{sym, ap, ◌∙◌}
use Rattle.pl_text.specs.Trees.{tree_of}
use Rattle.pl_check.specs.Elements.{trees}
use Rattle.pl_check.proofs.OpeningLemmas.{form_opens, trees_drop}
use Rattle.pl_check.proofs.files.read_form.Goals as goal

pub returns : goal.returns
returns c =
    λ known. form_opens c.args.role c.args.text.now known (tree_of c.args.file.now)
    (trees c.parts-elements.result.now)
    (trees c.rest.result.now) c.read_title.result (sym c.is_list.ensures ∙ c.if-not-is_list.false)
    c.parts-elements.ensures
    (ap trees c.rest.ensures ∙ trees_drop c.parts-elements.result.now)
    (sym c.is_define.ensures ∙ c.if-not-is_define.false)
    (c.read_title.ensures known)
