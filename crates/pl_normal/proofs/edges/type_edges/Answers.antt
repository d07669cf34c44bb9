use Rattle.std.proofs.Common.{arith, refl, ◌+◌}
use Rattle.pl_normal.specs.Slots.{slot_at}
use Rattle.pl_normal.specs.Edges.{type_edge}
use Rattle.pl_normal.proofs.Loops.{range_more, type_edges_end}
use Rattle.pl_normal.proofs.edges.type_edges.Goals as goal

pub loop-p-preserved : goal.loop-p-preserved
loop-p-preserved c =
    range_more (λ p. type_edge p (slot_at c.args.slots.now p)) c.loop-p.p
    (c.loop-p.p + 1) c.loop-p.edges.items c.add_type_edge.new.edges.items refl c.loop-p.invariant
    c.in_ok-add_type_edge.ensures

pub returns : goal.returns
returns c = type_edges_end c.args.slots.now c.loop-p.p c.loop-p.edges.items
    (omega (arith, c.loop-p-test.false, c.loop-p.auto.p-end)) c.loop-p.invariant
