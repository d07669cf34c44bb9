use Rattle.std.proofs.Common.{◌≡◌, ◌+◌, drop}
use Rattle.pl_check.specs.Conditions.{left_of}
use Rattle.pl_check.specs.Elements.{trees}
use Rattle.pl_check.proofs.ConditionLemmas.{counted_in}
use Rattle.pl_check.proofs.conditions.+budget_left.Given as goal

-- what is left decides
abbrev pub invariant-loop-element : goal.invariant-loop-element
invariant-loop-element l =
    left_of l.budget (counted_in l.text (trees l.inner)) ≡ left_of l.left
    (counted_in l.text (trees (drop l.element-index l.inner)))

abbrev pub decreases-budget_left : goal.decreases-budget_left
decreases-budget_left l = goal.size-budget_left l
