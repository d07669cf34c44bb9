use Rattle.std.proofs.Common.{arith, sym, ◌∙◌}
use Rattle.pl_rows.specs.Layout.{takes_equal}
use Rattle.pl_rows.proofs.Narrowing.{alike_more, differ_here, alike_all}
use Rattle.pl_rows.proofs.bisect.is_before.Goals as goal

pub returns-then-row-i : goal.returns-then-row-i
returns-then-row-i c = sym (c.loop-i.invariant ∙ differ_here (takes_equal c.args.bound) c.args.prefix.now
    c.args.row.now c.loop-i.i (omega arith) (omega arith) c.if-row-i.true)

pub loop-i-preserved : goal.loop-i-preserved
loop-i-preserved c = c.loop-i.invariant ∙ alike_more (takes_equal c.args.bound) c.args.prefix.now
    c.args.row.now c.loop-i.i (omega arith) (omega arith) c.if-row-i.false

pub returns : goal.returns
returns c = c.or_equal.ensures ∙ sym (c.loop-i.invariant ∙
    alike_all (takes_equal c.args.bound) c.args.prefix.now c.args.row.now c.loop-i.i (omega arith))
