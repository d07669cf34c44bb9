use Rattle.pl_hooks.proofs.Fixings.{IsFixedIn, first_more, fixed_from, not_fixed, fixed_here, not_fixed_here}
use Rattle.pl_hooks.proofs.fixed.is_fixed.Goals as goal

pub loop-schema-preserved : goal.loop-schema-preserved
loop-schema-preserved c =
    first_more (IsFixedIn c.args.literal.now) c.as_slice-schema-items.result.now c.loop-schema.schema-index
    c.schema-item.result c.schema-item.is c.loop-schema.invariant
    (fixed_here c.args.literal.now c.schema-item.result c.effects.result.now c.none_gives.result
    c.effects.ensures c.none_gives.ensures c.if-not-none_gives.false)

pub returns-then-not-none_gives : goal.returns-then-not-none_gives
returns-then-not-none_gives c =
    not_fixed c.args.task.now c.args.literal.now c.as_slice-schema-items.result.now c.loop-schema.schema-index
    c.schema-item.result c.as_slice-schema-items.ensures c.loop-schema-test.true c.schema-item.is
    (not_fixed_here c.args.literal.now c.schema-item.result c.effects.result.now c.none_gives.result
    c.effects.ensures c.none_gives.ensures c.if-not-none_gives.true)

pub returns : goal.returns
returns c =
    fixed_from c.args.task.now c.args.literal.now c.as_slice-schema-items.result.now
    c.loop-schema.schema-index c.as_slice-schema-items.ensures c.loop-schema-test.false
    c.loop-schema.invariant
