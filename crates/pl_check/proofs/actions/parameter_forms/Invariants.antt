use Rattle.std.proofs.Common.{◌≡◌, length}
use Rattle.std.specs.Prelude.{All}
use Rattle.pl_check.specs.Actions.{parameter_elements}
use Rattle.pl_check.specs.Elements.{trees}
use Rattle.pl_check.specs.Reading.{HasFew}
use Rattle.pl_check.proofs.actions.parameter_forms.Given as goal

-- what is left has the value, and few elements
abbrev pub invariant-loop-left : goal.invariant-loop-left
invariant-loop-left l =
    (parameter_elements l.text (trees l.pairs) ≡ parameter_elements l.text (trees l.left)) ×
    (All HasFew (trees l.pairs) → All HasFew (trees l.left))

abbrev pub decreases-loop-left : goal.decreases-loop-left
decreases-loop-left l = length l.left
