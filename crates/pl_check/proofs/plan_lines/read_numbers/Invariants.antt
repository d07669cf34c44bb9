use Rattle.std.proofs.Common.{◌≡◌, ◌++◌, drop, length}
use Rattle.pl_check.specs.Elements.{trees}
use Rattle.pl_check.specs.PlanLines as spec
use Rattle.pl_check.proofs.plan_lines.read_numbers.Given as goal

abbrev pub invariant-loop-form : goal.invariant-loop-form
invariant-loop-form l =
    (l.numbers.items ++ spec.numbers_named l.text l.names (trees (drop l.form-index l.forms))
    ≡ spec.numbers_named l.text l.names (trees l.forms)) ×
    (length l.numbers.items ≡ l.form-index)
