use Rattle.std.proofs.Common.{arith}
use Rattle.pl_join.proofs.Copying.{passed_more, passed_skip}
use Rattle.pl_join.proofs.selection.place_past.Goals as goal

pub returns-then-place-slots-clause-past : goal.returns-then-place-slots-clause-past
returns-then-place-slots-clause-past c = λ done fresh before. passed_skip done _ _ fresh before

pub returns-then-not-is_class-clause-past : goal.returns-then-not-is_class-clause-past
returns-then-not-is_class-clause-past c = λ done fresh before. passed_skip done _ _ fresh before

pub returns-clause-past : goal.returns-clause-past
returns-clause-past c = λ done fresh before.
    passed_more done c.args.slots.now c.args.place c.args.class _
    (omega (arith, c.requires, c.if-place-slots.false)) (c.is_class.ensures.0 c.if-not-is_class.false) fresh
    before
