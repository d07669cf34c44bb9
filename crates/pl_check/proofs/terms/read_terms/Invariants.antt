use Rattle.std.proofs.Common.{◌≡◌, ◌++◌, drop}
use Rattle.pl_check.specs.Elements.{trees}
use Rattle.pl_check.specs.FaultLists.{first}
use Rattle.pl_check.specs.Literals.{terms_of}
use Rattle.pl_check.specs.Reading.{scope_in}
use Rattle.pl_check.specs.Terms.{terms_faults}
use Rattle.pl_check.proofs.terms.read_terms.Given as goal

-- the faults of what is left decide, and its terms are still to come
abbrev pub invariant-loop-form : goal.invariant-loop-form
invariant-loop-form l =
    (first (terms_faults (scope_in l.scope) (trees l.forms)) ≡ first
    (terms_faults (scope_in l.scope) (trees (drop l.form-index l.forms)))) ×
    (terms_of (scope_in l.scope) (trees l.forms) ≡ l.terms.items ++ terms_of (scope_in l.scope)
    (trees (drop l.form-index l.forms)))
