use Rattle.std.proofs.Common.{◌+◌, ◌++◌, ◌∙◌, ap, refl, arith}
use Rattle.pl_normal.specs.Slots.{slot_at}
use Rattle.pl_normal.specs.Guards.{type_guard, types_at}
use Rattle.pl_normal.proofs.Loops.{range_more}
use Rattle.pl_normal.proofs.Forming.{types_read, type_guards_end}
use Rattle.pl_normal.proofs.guards.type_guards.Goals as goal

pub loop-p-preserved : goal.loop-p-preserved
loop-p-preserved c =
    range_more (λ p. type_guard c.args.task.now (types_at c.args.parameters.now p)
    (slot_at c.args.slots.now p)) c.loop-p.p (c.loop-p.p + 1) c.loop-p.guards.items
    c.add_type_guard.new.guards.items refl c.loop-p.invariant
    (c.in_ok-add_type_guard.ensures
    ∙ ap (λ types. c.loop-p.guards.items ++ type_guard c.args.task.now types
    (slot_at c.args.slots.now c.loop-p.p))
    (types_read c.args.parameters.now c.loop-p.p c.index-parameters-p.result c.as_slice.result.now
    (omega (arith, c.requires.many, c.loop-p-test.true, c.loop-p.auto.p-end)) c.as_slice.ensures))

pub returns : goal.returns
returns c = type_guards_end c.args.task.now c.args.parameters.now c.args.slots.now c.loop-p.p
    c.loop-p.guards.items (omega (arith, c.loop-p-test.false, c.loop-p.auto.p-end)) c.loop-p.invariant
