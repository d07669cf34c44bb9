use Rattle.pl_normal.specs.Recipes.{AreRecipes}
use Rattle.pl_normal.proofs.recipes.counts_recipes.Given as goal

abbrev pub invariant-loop-i : goal.invariant-loop-i
invariant-loop-i g l = AreRecipes l.task l.i l.recipes.items
