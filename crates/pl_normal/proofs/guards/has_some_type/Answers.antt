use Rattle.pl_normal.proofs.Forming.{some_type_here, some_type_later}
use Rattle.pl_normal.proofs.guards.has_some_type.Goals as goal

pub returns-then-branch : goal.returns-then-branch
returns-then-branch c =
    some_type_here c.args.task.now c.args.types.now c.args.object c.loop-type_number.type_number-index
    c.in_ok-has_type.field-0 c.loop-type_number-test.true c.loop-type_number.invariant
    c.in_ok-has_type.ensures c.if-branch.true

pub loop-type_number-preserved : goal.loop-type_number-preserved
loop-type_number-preserved c =
    some_type_later c.args.task.now c.args.types.now c.args.object c.loop-type_number.type_number-index
    c.in_ok-has_type.field-0 c.loop-type_number-test.true c.loop-type_number.invariant
    c.in_ok-has_type.ensures c.if-branch.false
