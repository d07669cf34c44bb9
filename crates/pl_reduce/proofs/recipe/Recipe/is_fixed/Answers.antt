use Rattle.std.proofs.Common.{◌<◌, ◌∙◌, arith, length, subst, sym}
use Rattle.pl_reduce.specs.Recipes.{FixedJoin}
use Rattle.pl_reduce.proofs.Origins.{handed_lent, lent_known}
use Rattle.pl_reduce.proofs.recipe.Recipe.is_fixed.Goals as goal

pub index-requires : goal.index-requires
index-requires c =
    let low = subst (λ (join : FixedJoin). c.args.node < length join.fixed) (sym c.self.view_is) c.requires in
    omega (arith, low, handed_lent c.self.inside.origins.items c.self.inside.lent.items)

pub returns : goal.returns
returns c =
    let low = subst (λ (join : FixedJoin). c.args.node < length join.fixed) (sym c.self.view_is) c.requires in
    rw (← c.self.view_is)
    (c.is_some.ensures
    ∙ lent_known _ _ c.self.inside.lent.items c.args.node c.index.result.now _ c.self.invariant.0.lent_are
    (omega (arith, low, handed_lent c.self.inside.origins.items c.self.inside.lent.items)) c.index.ensures)
