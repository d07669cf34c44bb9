use Rattle.pl_reduce.proofs.Options.{with_smaller, with_same, there_set, pair_cost}
use Rattle.pl_reduce.proofs.passes.reduce_node.Goals as goal

pub returns-in-Some-clause-reduced : goal.returns-in-Some-clause-reduced
returns-in-Some-clause-reduced g c =
    with_smaller c.args.lent.now c.args.own.now.items c.args.node c.args.parent c.in-Some.kept c.requires.node
    c.requires.parent (rw (c.deref.ensures.value, c.in-Some.is) at c.in_ok-kept.ensures.reduction)

pub returns-in-Some-clause-there : goal.returns-in-Some-clause-there
returns-in-Some-clause-there g c = there_set c.args.lent.now c.args.own.now.items c.args.node c.in-Some.kept
    c.requires.there

pub returns-in_default-clause-reduced : goal.returns-in_default-clause-reduced
returns-in_default-clause-reduced g c =
    with_same c.args.lent.now c.args.own.now.items c.args.node c.args.parent c.requires.node c.requires.parent
    (rw (c.deref.ensures.value, c.in_default.is) at c.in_ok-kept.ensures.reduction)

pub returns-in_err-kept-clause-cost : goal.returns-in_err-kept-clause-cost
returns-in_err-kept-clause-cost g c =
    pair_cost c.args.lent.now c.args.own.now.items c.deref.result.now c.args.node c.args.parent _ _
    c.deref.ensures.value c.requires.node c.requires.parent c.node_reduction.ensures.cost

pub returns-in-Some-clause-cost : goal.returns-in-Some-clause-cost
returns-in-Some-clause-cost g c =
    pair_cost c.args.lent.now c.args.own.now.items c.deref.result.now c.args.node c.args.parent _ _
    c.deref.ensures.value c.requires.node c.requires.parent c.node_reduction.ensures.cost

pub returns-in_default-clause-cost : goal.returns-in_default-clause-cost
returns-in_default-clause-cost g c =
    pair_cost c.args.lent.now c.args.own.now.items c.deref.result.now c.args.node c.args.parent _ _
    c.deref.ensures.value c.requires.node c.requires.parent c.node_reduction.ensures.cost
