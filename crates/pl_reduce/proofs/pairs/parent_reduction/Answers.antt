use Rattle.pl_reduce.proofs.Options.{node_own, node_lent}
use Rattle.pl_reduce.proofs.Neighbours.{pair_reduced, both_lent}
use Rattle.pl_reduce.proofs.pairs.parent_reduction.Goals as goal

pub returns-in-Some-own_at-clause-reduction : goal.returns-in-Some-own_at-clause-reduction
returns-in-Some-own_at-clause-reduction g c =
    pair_reduced c.args.lent.now c.args.own.now c.args.parent c.args.node c.in-Some.keep.now
    c.in-Some-own_at.by.now c.by_own.result
    (node_own c.args.lent.now c.args.own.now c.args.parent c.in-Some.keep.now c.in-Some.ensures.some)
    (node_own c.args.lent.now c.args.own.now c.args.node c.in-Some-own_at.by.now
    c.in-Some-own_at.ensures.some)
    c.by_own.ensures.reduction

pub returns-in-None-own_at-clause-reduction : goal.returns-in-None-own_at-clause-reduction
returns-in-None-own_at-clause-reduction g c =
    pair_reduced c.args.lent.now c.args.own.now c.args.parent c.args.node c.in-Some.keep.now
    c.lent_at.result.now.relation c.by_lent.result
    (node_own c.args.lent.now c.args.own.now c.args.parent c.in-Some.keep.now c.in-Some.ensures.some)
    (node_lent c.args.lent.now c.args.own.now c.args.node c.lent_at.result.now
    c.in-None-own_at.ensures.none c.lent_at.ensures)
    c.by_lent.ensures.reduction

pub returns-in-Some-own_at-2-clause-reduction : goal.returns-in-Some-own_at-2-clause-reduction
returns-in-Some-own_at-2-clause-reduction g c =
    pair_reduced c.args.lent.now c.args.own.now c.args.parent c.args.node
    c.lent_at-in-Some-own_at-2.result.now.relation c.in-Some-own_at-2.by.now c.of_parent.result
    (node_lent c.args.lent.now c.args.own.now c.args.parent c.lent_at-in-Some-own_at-2.result.now
    c.in-None.ensures.none c.lent_at-in-Some-own_at-2.ensures)
    (node_own c.args.lent.now c.args.own.now c.args.node c.in-Some-own_at-2.by.now
    c.in-Some-own_at-2.ensures.some)
    c.of_parent.ensures.reduction

pub returns-in-None-own_at-2-clause-reduction : goal.returns-in-None-own_at-2-clause-reduction
returns-in-None-own_at-2-clause-reduction g c =
    both_lent c.args.lent.now c.args.own.now c.args.parent c.args.node c.requires.parent c.requires.node
    c.requires.there c.in-None.ensures.none c.in-None-own_at-2.ensures.none c.requires.pair.up
