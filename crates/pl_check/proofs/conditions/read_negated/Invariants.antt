use Rattle.std.proofs.Common.{◌≡◌, ◌++◌, map, drop}
use Rattle.std.specs.List.{flat_map}
use Rattle.pl_check.specs.Elements.{trees}
use Rattle.pl_check.specs.FaultLists.{first}
use Rattle.pl_check.specs.Literals.{negated, basic_literal}
use Rattle.pl_check.specs.Reading.{scope_in}
use Rattle.pl_check.specs.Terms.{basic_faults}
use Rattle.pl_check.proofs.conditions.read_negated.Given as goal

-- the faults of what is left decide, and its literals are still to come
abbrev pub invariant-loop-form : goal.invariant-loop-form
invariant-loop-form l =
    (first (flat_map (basic_faults (scope_in l.scope) l.equality) (trees l.forms)) ≡
    first (flat_map (basic_faults (scope_in l.scope) l.equality) (trees (drop l.form-index l.forms)))) ×
    (l.initial.literals.items ++ map negated (flat_map (basic_literal (scope_in l.scope)) (trees l.forms)) ≡
    l.literals.items ++ map negated (flat_map (basic_literal (scope_in l.scope))
    (trees (drop l.form-index l.forms))))
