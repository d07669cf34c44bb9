use Rattle.std.proofs.Common.{◌+◌, refl, arith}
use Rattle.pl_normal.specs.Scope.{other_of}
use Rattle.pl_normal.proofs.Forming.{prefix_more, others_end}
use Rattle.pl_normal.proofs.order.then_others.Goals as goal

pub loop-p-preserved : goal.loop-p-preserved
loop-p-preserved c =
    prefix_more c.args.classes.now (other_of c.args.classes.now) c.loop-p.p
    (c.loop-p.p + 1) c.loop-p.order.items c.add_other.new.order.items refl c.loop-p.invariant
    c.in_ok-add_other.ensures

pub returns : goal.returns
returns c = others_end c.args.classes.now c.args.count c.loop-p.p c.loop-p.order.items
    (omega (arith, c.loop-p-test.false, c.loop-p.auto.p-end)) c.loop-p.invariant
