use Rattle.std.proofs.Common.{◌≡◌, ◌-◌, suc, arith}
use Rattle.pl_reduce.proofs.Overs.{over_ear}
use Rattle.pl_reduce.proofs.fitting.is_over_node.Goals as goal

pub returns : goal.returns
returns c =
    let later : c.args.node ≡ suc (c.args.node - 1) = omega (arith, c.if-node-eq0.false) in
    let both = over_ear c.args.plan.now c.args.node (c.args.node - 1) c.args.relation.now later in
    (λ h. both.0 (c.is_over_ear.ensures.0 h), λ over. c.is_over_ear.ensures.1 (both.1 over))
