use Rattle.std.proofs.Common.{subst, sym, ◌∙◌}
use Rattle.std.specs.Option.{IfSome}
use Rattle.pl_state.specs.Changing.{is_done, row_under, IsNext, HasRow}
use Rattle.pl_state.proofs.Namings.{next_kept, next_first, next_lesser, next_not_less, row_wide}
use Rattle.pl_state.proofs.Namings.{true_from_not, false_from_not}
use Rattle.pl_state.proofs.effect.lesser.Goals as goal

pub returns-then-effect-predicate-clause-next : goal.returns-then-effect-predicate-clause-next
returns-then-effect-predicate-clause-next c = λ before h.
    next_kept c.args.args.now c.args.predicate (is_done c.args.args.now c.args.last) before c.args.effect.now
    c.args.best (λ same. absurd (c.if-effect-predicate.true same)) h

pub returns-then-not-is_past-clause-next : goal.returns-then-not-is_past-clause-next
returns-then-not-is_past-clause-next c = λ before h.
    next_kept c.args.args.now c.args.predicate (is_done c.args.args.now c.args.last) before c.args.effect.now
    c.args.best
    (λ _. true_from_not (is_done c.args.args.now c.args.last (row_under c.args.args.now c.args.effect.now))
    c.if-not-is_past.ensures) h

pub returns-in-None-clause-next : goal.returns-in-None-clause-next
returns-in-None-clause-next c = λ before h.
    next_first c.args.args.now c.args.predicate (is_done c.args.args.now c.args.last) before c.args.effect.now
    c.if-effect-predicate.false
    (false_from_not (is_done c.args.args.now c.args.last (row_under c.args.args.now c.args.effect.now))
    c.if-not-is_past.ensures)
    (subst (IsNext c.args.args.now c.args.predicate (is_done c.args.args.now c.args.last) before) c.in-None.is
    h)

pub returns-then-is_below-clause-next : goal.returns-then-is_below-clause-next
returns-then-is_below-clause-next c = λ before h.
    next_lesser c.args.args.now c.args.predicate (is_done c.args.args.now c.args.last) before
    c.args.effect.now c.in-Some.known.now c.if-effect-predicate.false
    (false_from_not (is_done c.args.args.now c.args.last (row_under c.args.args.now c.args.effect.now))
    c.if-not-is_past.ensures)
    (row_wide c.args.args.now c.args._arity c.args.effect.now (c.requires.effect c.if-effect-predicate.false)
    ∙
    sym (row_wide c.args.args.now c.args._arity c.in-Some.known.now
    (subst (λ o. IfSome o (λ b. HasRow c.args.args.now c.args._arity b.now)) c.in-Some.is
    c.requires.best)))
    (sym c.if-is_below.ensures)
    (subst (IsNext c.args.args.now c.args.predicate (is_done c.args.args.now c.args.last) before)
    c.in-Some.is h)

pub returns-else-is_below-clause-next : goal.returns-else-is_below-clause-next
returns-else-is_below-clause-next c = λ before h.
    next_not_less c.args.args.now c.args.predicate (is_done c.args.args.now c.args.last) before
    c.args.effect.now c.in-Some.known.now
    (sym c.if-is_below.ensures)
    (subst (IsNext c.args.args.now c.args.predicate (is_done c.args.args.now c.args.last) before)
    c.in-Some.is h)
