-- A precondition with too many atoms and equalities has its own faults, and too many.
use Rattle.std.proofs.Common.{◌≡◌, Some, ap, subst, sym, ◌∙◌}
use Rattle.pl_check.specs.FaultLists.{first, fault_if}
use Rattle.pl_check.specs.Reading.{Refuses}
use Rattle.pl_check.proofs.ConditionLemmas.{pre_few, pre_many}
use Rattle.pl_check.proofs.WalkLemmas.{reads_as, refuses_first, refuses_last}
use Rattle.pl_check.proofs.conditions.read_precondition.Goals as goal

pub returns-then-is_some : goal.returns-then-is_some
returns-then-is_some c =
    reads_as _ _ _ _ _ (pre_few _ _ _ _ c.budget_left.ensures c.is_some.ensures c.if-is_some.true) (λ v h. h)
    c.read_condition.ensures

pub returns-in-Ok : goal.returns-in-Ok
returns-in-Ok c =
    refuses_last _ _ _ _ _ (pre_many _ _ _ _ c.budget_left.ensures c.is_some.ensures c.if-is_some.false)
    c.in-Ok.ensures.0
    c.place.ensures c.refusal.ensures

pub returns-in-Err : goal.returns-in-Err
returns-in-Err c =
    refuses_first _ _ _ _ (pre_many _ _ _ _ c.budget_left.ensures c.is_some.ensures c.if-is_some.false)
    c.in-Err.ensures
