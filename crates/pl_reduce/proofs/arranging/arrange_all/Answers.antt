use Rattle.std.proofs.Common.{◌∙◌, sym, arith}
use Rattle.pl_reduce.proofs.Arrangements.{one_arranged, arranged_cost, arranged_most}
use Rattle.pl_reduce.proofs.arranging.arrange_all.Goals as goal

pub arrange_node-requires-clause-held : goal.arrange_node-requires-clause-held
arrange_node-requires-clause-held g c = λ r e.
    c.requires.held c.loop-node.node r (omega (arith, c.loop-node.auto.node))
    (sym (c.loop-node.invariant.arranged.rest c.loop-node.node (omega arith)) ∙ e)

pub returns-in_err-arrange_node-clause-cost : goal.returns-in_err-arrange_node-clause-cost
returns-in_err-arrange_node-clause-cost g c =
    arranged_most c.args.order.now c.args.own.now.items c.loop-node.own.items c.loop-node.node _
    c.loop-node.steps _ (omega (arith, c.len-node-end.ensures, c.loop-node-test.true))
    c.loop-node.invariant.arranged c.loop-node.invariant.cost c.arrange_node.ensures.cost

pub loop-node-preserved : goal.loop-node-preserved
loop-node-preserved g c = record {
  arranged = one_arranged c.args.order.now c.args.own.now.items c.loop-node.own.items
      c.arrange_node.new.own.items c.loop-node.node (omega (arith, c.loop-node.auto.node))
      c.loop-node.invariant.arranged c.in_ok-arrange_node.ensures.arranged;
  cost = arranged_cost c.args.order.now c.args.own.now.items c.loop-node.own.items c.loop-node.node _
      c.loop-node.steps _ (omega (arith, c.len-node-end.ensures, c.loop-node-test.true))
      c.loop-node.invariant.arranged c.loop-node.invariant.cost c.arrange_node.ensures.cost;
  rise = omega (arith, c.arrange_node.ensures.rise, c.loop-node.invariant.rise);
}
