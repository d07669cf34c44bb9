use Rattle.std.proofs.Common.{◌≡◌, ◌≤◌, ◌++◌, length, map, drop}
use Rattle.pl_names.specs.Names.{texts}
use Rattle.pl_check.specs.Elements.{trees}
use Rattle.pl_check.specs.Predicates.{declared_name, declarations}
use Rattle.pl_check.proofs.predicates.declared_names.Given as goal

-- the names of what is left are still to come
abbrev pub invariant-loop-form : goal.invariant-loop-form
invariant-loop-form l =
    (map (declared_name l.text) (declarations l.text (trees l.forms)) ≡
    texts l.names.items ++ map (declared_name l.text)
    (declarations l.text (trees (drop l.form-index l.forms)))) ×
    (length l.names.items ≤ l.form-index)
