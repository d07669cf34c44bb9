-- The elements of a list are the trees of its forms.
use Rattle.std.proofs.Common.{◌∙◌, ap, sym}
use Rattle.pl_text.proofs.TreeLaws.{members_of_list}
use Rattle.pl_text.specs.Trees.{tree_of}
use Rattle.pl_check.specs.Elements.{elements}
use Rattle.pl_check.proofs.source.into_parts.Goals as goal

pub returns-in-List : goal.returns-in-List
returns-in-List c =
    sym (members_of_list c.in-List.field-0 c.in-List.inner) ∙
    ap (λ f. elements (tree_of f)) (sym c.in-List.is)
