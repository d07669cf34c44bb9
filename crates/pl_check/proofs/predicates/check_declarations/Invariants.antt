use Rattle.std.proofs.Common.{◌≡◌, take, drop, map, []}
use Rattle.pl_names.specs.Names.{first_appearances}
use Rattle.pl_check.specs.Elements.{trees}
use Rattle.pl_check.specs.FaultLists.{first}
use Rattle.pl_check.specs.Predicates.{predicates_faults, declared_name, declarations}
use Rattle.pl_check.proofs.predicates.check_declarations.Given as goal

-- the faults of what is left decide, after the names of the declarations so far; the other names are still to
-- come
abbrev pub invariant-loop-i : goal.invariant-loop-i
invariant-loop-i l =
    (first (predicates_faults l.text (first_appearances l.types) [] (trees l.forms)) ≡
    first (predicates_faults l.text (first_appearances l.types) (take l.i l.names)
    (trees (drop l.i l.forms)))) ×
    (drop l.i l.names ≡ map (declared_name l.text) (declarations l.text (trees (drop l.i l.forms))))
