use Rattle.std.proofs.Common.{◌≡◌, ◌≤◌, ◌+◌, false, length, drop}
use Rattle.pl_check.specs.Elements.{trees}
use Rattle.pl_check.specs.TypedLists as spec
use Rattle.pl_check.proofs.items.count_items.Given as goal

abbrev pub invariant-loop-form : goal.invariant-loop-form
invariant-loop-form l =
    (l.count + length (spec.items l.text l.after_dash (trees (drop l.form-index l.forms)))
    ≡ length (spec.items l.text false (trees l.forms))) ×
    (l.count ≤ l.form-index)
