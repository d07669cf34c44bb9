use Rattle.std.proofs.Common.{IfOk, subst}
use Rattle.pl_reduce.specs.Lent.{IsReductionBy}
use Rattle.pl_reduce.proofs.Neighbours.{reduction_is}
use Rattle.pl_reduce.proofs.pairs.of_lent.Goals as goal

pub returns-clause-reduction : goal.returns-clause-reduction
returns-clause-reduction g c =
    subst (λ k. IfOk c.reduction.result (IsReductionBy k c.args.by.now)) c.in_ok-whole.ensures
    (reduction_is c.in_ok-whole.whole c.args.by.now c.reduction.result c.reduction.ensures.same
    c.reduction.ensures.classes c.reduction.ensures.rows c.reduction.ensures.fewer)
