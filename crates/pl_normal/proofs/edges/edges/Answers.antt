use Rattle.pl_normal.proofs.Loops.{edges_end}
use Rattle.pl_normal.proofs.edges.edges.Goals as goal

pub returns : goal.returns
returns c = edges_end c.args.slots.now c.args.condition.now c.loop-literal.literal-index
    c.loop-literal.edges.items c.loop-literal-test.false c.loop-literal.invariant
