use Rattle.std.proofs.Common.{◌≡◌, ◌++◌, drop, map}
use Rattle.pl_check.specs.Elements.{trees}
use Rattle.pl_check.specs.PlanLines as spec
use Rattle.pl_check.proofs.plan_lines.read_lines.Given as goal

abbrev pub invariant-loop-form : goal.invariant-loop-form
invariant-loop-form l =
    l.lines.items ++ map (spec.line_of l.text l.task) (trees (drop l.form-index l.forms))
    ≡ map (spec.line_of l.text l.task) (trees l.forms)
