use Rattle.pl_normal.proofs.Handing.{form_read, recipes_more}
use Rattle.pl_normal.proofs.recipes.counts_recipes.Goals as goal

pub recipe_of-requires-clause-form : goal.recipe_of-requires-clause-form
recipe_of-requires-clause-form g c =
    form_read c.args.task.now c.as_slice-schemas.result.now c.args.forms.now c.loop-i.i
    c.index-schemas-i.result c.index-forms-i.result c.requires.forms
    c.as_slice-schemas.ensures c.loop-i-test.true c.index-schemas-i.is c.index-forms-i.is

pub loop-i-preserved : goal.loop-i-preserved
loop-i-preserved g c =
    recipes_more c.args.task.now c.as_slice-schemas.result.now c.loop-i.i c.index-schemas-i.result
    c.loop-i.recipes.items c.push.new.self.items
    c.in_ok-recipe_of.field-0 c.loop-i.invariant c.as_slice-schemas.ensures c.loop-i-test.true
    c.index-schemas-i.is c.in_ok-recipe_of.ensures
    c.in_ok-push.ensures.items
