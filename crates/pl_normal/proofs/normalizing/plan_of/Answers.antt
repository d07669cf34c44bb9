use Rattle.std.proofs.Common.{◌∙◌}
use Rattle.pl_normal.proofs.Tabling.{planned}
use Rattle.pl_normal.proofs.normalizing.plan_of.Goals as goal

pub returns : goal.returns
returns c = planned c.ears.result c.args.edges.now c.as_slice.result.now
    (c.as_slice.ensures.value ∙ c.in_ok-sets.ensures) c.ears.ensures.edges c.ears.ensures.removal
