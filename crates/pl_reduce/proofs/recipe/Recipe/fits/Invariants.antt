use Rattle.pl_reduce.proofs.Overs.{AreOverFirst}
use Rattle.pl_reduce.proofs.recipe.Recipe.fits.Given as goal

abbrev pub invariant-loop-node : goal.invariant-loop-node
invariant-loop-node l = AreOverFirst l.plan l.relations l.node
