use Rattle.std.proofs.Common.{arith}
use Rattle.pl_reduce.proofs.Origins.{handed_lent}
use Rattle.pl_reduce.proofs.recipe.Recipe.nodes.Goals as goal

pub returns-clause-nodes : goal.returns-clause-nodes
returns-clause-nodes c =
    rw (← c.self.view_is)
    (omega (arith, c.len.ensures, handed_lent c.self.inside.origins.items c.self.inside.lent.items))
