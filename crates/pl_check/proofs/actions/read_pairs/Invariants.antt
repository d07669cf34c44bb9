use Rattle.std.proofs.Common.{◌≡◌, ◌++◌, [], length}
use Rattle.std.specs.Prelude.{codes}
use Rattle.pl_names.specs.Names.{texts}
use Rattle.pl_check.specs.Actions.{pairs_faults, keyed_literals}
use Rattle.pl_check.specs.Elements.{trees}
use Rattle.pl_check.specs.FaultLists.{first}
use Rattle.pl_check.specs.Reading.{scope_in}
use Rattle.pl_check.proofs.actions.read_pairs.Given as goal

-- the faults of what is left decide, and its literals are still to come
abbrev pub invariant-loop-left : goal.invariant-loop-left
invariant-loop-left l =
    (first (pairs_faults (scope_in l.scope) [] (trees l.pairs)) ≡
    first (pairs_faults (scope_in l.scope) (texts l.earlier.items) (trees l.left))) ×
    (keyed_literals (scope_in l.scope) (codes ":precondition") (trees l.pairs) ≡
    l.values.condition.items ++ keyed_literals (scope_in l.scope) (codes ":precondition") (trees l.left)) ×
    (keyed_literals (scope_in l.scope) (codes ":effect") (trees l.pairs) ≡
    l.values.effect.items ++ keyed_literals (scope_in l.scope) (codes ":effect") (trees l.left))

abbrev pub decreases-loop-left : goal.decreases-loop-left
decreases-loop-left l = length l.left
