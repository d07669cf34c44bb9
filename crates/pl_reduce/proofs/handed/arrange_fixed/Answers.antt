use Rattle.std.proofs.Common.{◌∙◌, sym, arith}
use Rattle.pl_reduce.proofs.Arrangements.{one_arranged}
use Rattle.pl_reduce.proofs.handed.arrange_fixed.Goals as goal

pub arrange_one-requires-clause-held : goal.arrange_one-requires-clause-held
arrange_one-requires-clause-held g c = λ r e.
    c.requires.held c.loop-node.node r (omega (arith, c.loop-node.auto.node))
    (sym (c.loop-node.invariant.arranged.rest c.loop-node.node (omega arith)) ∙ e)

pub loop-node-preserved : goal.loop-node-preserved
loop-node-preserved g c = record {
  arranged = one_arranged c.args.order.now c.args.nodes.now.items c.loop-node.nodes.items
      c.arrange_one.new.nodes.items c.loop-node.node (omega (arith, c.loop-node.auto.node))
      c.loop-node.invariant.arranged c.in_ok-arrange_one.ensures.arranged;
  many = c.in_ok-arrange_one.ensures.many;
  handed = c.in_ok-arrange_one.ensures.handed ∙ c.loop-node.invariant.handed;
  rise = omega (arith, c.arrange_one.ensures.rise, c.loop-node.invariant.rise);
}
