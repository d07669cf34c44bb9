use Rattle.std.proofs.Common.{◌∷◌, [], arith, ap, length, length-append}
use Rattle.pl_normal.proofs.Tabling.{gathered_nothing, gathered_nowhere}
use Rattle.pl_normal.proofs.tables.builders_of.Goals as goal

pub loop-p-preserved : goal.loop-p-preserved
loop-p-preserved c = record {
  many = (let long = ap length c.in_ok-push.ensures.items in let more =
      length-append c.loop-p.builders.items (c.new.result ∷ []) in let many = c.loop-p.invariant.many in
      omega arith);
  each = gathered_nothing c.args.predicates.now c.loop-p.p c.index-predicates-p.result c.loop-p.builders.items
      c.push.new.self.items c.new.result c.loop-p-test.true c.new.ensures c.in_ok-push.ensures.items
      c.loop-p.invariant.many c.loop-p.invariant.each;
}

pub returns : goal.returns
returns c = gathered_nowhere c.args.predicates.now c.loop-p.p c.loop-p.builders.items
    (omega (arith, c.loop-p-test.false, c.loop-p.auto.p-end)) c.loop-p.invariant.many c.loop-p.invariant.each
