use Rattle.std.proofs.Common.{length}
use Rattle.pl_normal.proofs.Forming.{item_below, guards_end}
use Rattle.pl_normal.proofs.guards.guards.Goals as goal

pub add_literal_guard-requires-clause-below : goal.add_literal_guard-requires-clause-below
add_literal_guard-requires-clause-below c =
    item_below c.args.task.now.predicates (length c.args.task.now.objects)
    (length c.args.slots.now) c.args.condition.now c.loop-literal.literal-index c.literal-item.result
    c.loop-literal-test.true c.literal-item.is c.requires.literals

pub returns : goal.returns
returns c = guards_end c.args.task.now c.args.parameters.now c.args.slots.now c.args.condition.now
    c.loop-literal.literal-index c.loop-literal.guards.items c.loop-literal-test.false
    c.loop-literal.invariant
