use Rattle.std.proofs.Common.{eqb-true, eq-eqb}
use Rattle.pl_reduce.proofs.EdgeSets.{set_is_edge}
use Rattle.pl_reduce.proofs.fitting.is_over.Goals as goal

pub returns : goal.returns
returns c =
    let both = set_is_edge c.args.classes.now c.set_of.result c.args.edge c.set_of.ensures in
    (λ h. both.0 (eqb-true _ _ h), λ same. eq-eqb _ _ (both.1 same))
