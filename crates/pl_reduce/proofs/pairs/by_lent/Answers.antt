use Rattle.std.proofs.Common.{IfOk, subst}
use Rattle.pl_reduce.specs.Lent.{IsReductionBy}
use Rattle.pl_reduce.proofs.Neighbours.{reduction_is}
use Rattle.pl_reduce.proofs.pairs.by_lent.Goals as goal

pub returns-clause-reduction : goal.returns-clause-reduction
returns-clause-reduction g c =
    subst (λ b. IfOk c.reduction.result (IsReductionBy c.args.keep.now b)) c.in_ok-whole.ensures
    (reduction_is c.args.keep.now c.in_ok-whole.whole c.reduction.result c.reduction.ensures.same
    c.reduction.ensures.classes c.reduction.ensures.rows c.reduction.ensures.fewer)
