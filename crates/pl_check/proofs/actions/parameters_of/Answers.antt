use Rattle.std.proofs.Common.{List, false, map, ap, ◌∙◌}
use Rattle.std.proofs.lemmas.Result.{IfOk-weaker}
use Rattle.pl_check.specs.Elements.{trees}
use Rattle.pl_check.specs.Reading.{as_parameter, numbered}
use Rattle.pl_check.specs.TypedLists.{Item, typed_items}
use Rattle.pl_check.proofs.ActionLemmas.{parameters_are}
use Rattle.pl_check.proofs.actions.parameters_of.Goals as goal

pub returns : goal.returns
returns c =
    let items : List Item = typed_items c.args.text.now false (trees c.args.forms.now) in
    IfOk-weaker c.parameters_of_items.result _ _
    (λ parameters is. is ∙ ap (map as_parameter) c.in_ok-items.ensures ∙
    ap (λ types. map as_parameter (map (numbered types) items)) c.types.ensures ∙
    parameters_are c.args.known.now.types items)
    c.parameters_of_items.ensures
