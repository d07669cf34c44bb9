use Rattle.std.proofs.Common.{◌∙◌, ap, sym, subst, IfSome}
use Rattle.std.specs.List.{list_all}
use Rattle.pl_normal.specs.Recipes.{IsRecipeFor, is_fixed_edge}
use Rattle.pl_normal.proofs.Handing.{recipe_knows}
use Rattle.pl_normal.proofs.nodes.is_fixed_node.Goals as goal

pub returns-in-Some : goal.returns-in-Some
returns-in-Some c =
    let known = subst
    (λ o. IfSome o (λ r. IsRecipeFor c.args.query.now.task.now c.args.query.now.schema.now r.now))
    c.in-Some.is c.requires.recipe in
    c.is_fixed.ensures
    ∙ recipe_knows c.args.query.now.task.now c.args.query.now.schema.now c.in-Some.recipe.now c.args.node
    known c.requires.node
    ∙ ap (list_all (is_fixed_edge c.args.query.now.task.now c.args.query.now.schema.now))
    (sym c.requires.edges)
