use Rattle.std.proofs.Common.{◌==◌, ◌∙◌, ap, filter, arith}
use Rattle.std.specs.Int.{bit_at}
use Rattle.pl_reduce.proofs.Laying.{seen_is, part_few, part_below}
use Rattle.pl_reduce.proofs.layout.seen_at.Goals as goal

pub width_of-width-requires-clause-few : goal.width_of-width-requires-clause-few
width_of-width-requires-clause-few c =
    part_few _ c.args.classes.now c.in_ok-held.held.items c.deref.result.now c.deref.ensures.value
    c.in_ok-held.ensures c.requires.few

pub width_of-width-requires-clause-below : goal.width_of-width-requires-clause-below
width_of-width-requires-clause-below c =
    part_below _ c.args.classes.now c.in_ok-held.held.items c.deref.result.now c.deref.ensures.value
    c.in_ok-held.ensures c.requires.below

pub returns : goal.returns
returns c =
    seen_is c.args.plan.now c.edges.result.now c.removed-ears.result.now c.in_ok-held.held.items
    c.deref.result.now c.walked_at-node.result c.args.step c.width_of-width.result c.len.result
    c.edges.ensures.edges c.removed-ears.ensures.removed c.deref.ensures.value
    (omega (arith, c.len.ensures)) c.walked_at-node.ensures.walked
    (omega (arith, c.walked_at-node.ensures.within))
    (λ nodes are. c.in_ok-held.ensures
    ∙ ap (filter (λ k. bit_at c.node_set.result k == 1)) c.requires.order ∙ c.node_set.ensures nodes are)
    c.width_of-width.ensures.width
