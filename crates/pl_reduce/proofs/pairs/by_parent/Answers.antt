use Rattle.pl_reduce.proofs.Neighbours.{by_turned}
use Rattle.pl_reduce.proofs.pairs.by_parent.Goals as goal

pub returns-in-Some-clause-reduction : goal.returns-in-Some-clause-reduction
returns-in-Some-clause-reduction g c =
    by_turned c.args.parent.now c.in-Some.turned.now c.args.keep.now c.by_lent.result
    (rw c.in-Some.is at c.requires) c.by_lent.ensures.reduction
