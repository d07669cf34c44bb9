use Rattle.std.proofs.Common.{◌≡◌, ◌++◌, drop}
use Rattle.std.specs.List.{flat_map}
use Rattle.pl_check.specs.Conditions.{condition_faults}
use Rattle.pl_check.specs.Elements.{trees}
use Rattle.pl_check.specs.FaultLists.{first}
use Rattle.pl_check.specs.Literals.{literals_of}
use Rattle.pl_check.specs.Reading.{scope_in}
use Rattle.pl_check.proofs.conditions.+read_condition.Given as goal

-- the faults of what is left decide, and its literals are still to come
abbrev pub invariant-loop-conjunct : goal.invariant-loop-conjunct
invariant-loop-conjunct l =
    (first (flat_map (condition_faults (scope_in l.scope) l.equality) (trees l.inner)) ≡
    first (flat_map (condition_faults (scope_in l.scope) l.equality) (trees (drop l.conjunct-index l.inner))))
    ×
    (l.initial.literals.items ++ flat_map (literals_of (scope_in l.scope)) (trees l.inner) ≡
    l.literals.items ++ flat_map (literals_of (scope_in l.scope)) (trees (drop l.conjunct-index l.inner)))

abbrev pub decreases-read_condition : goal.decreases-read_condition
decreases-read_condition l = goal.size-read_condition l
