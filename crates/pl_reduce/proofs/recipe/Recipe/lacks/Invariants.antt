use Rattle.std.proofs.Common.{◌≡◌, ◌<◌, ℕ, not, is_some}
use Rattle.pl_reduce.specs.Recipes.{option_at}
use Rattle.pl_reduce.proofs.recipe.Recipe.lacks.Given as goal

abbrev pub invariant-loop-node : goal.invariant-loop-node
invariant-loop-node l = (k : ℕ) → k < l.node → is_some (option_at l.given k) ≡ not
    (is_some (option_at l.self.fixed k))
