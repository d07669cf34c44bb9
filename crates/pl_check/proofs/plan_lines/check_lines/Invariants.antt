use Rattle.std.proofs.Common.{◌≡◌, drop}
use Rattle.pl_check.specs.Elements.{trees}
use Rattle.pl_check.specs.FaultLists.{first}
use Rattle.pl_check.specs.PlanLines as spec
use Rattle.pl_check.proofs.plan_lines.check_lines.Given as goal

abbrev pub invariant-loop-form : goal.invariant-loop-form
invariant-loop-form l =
    first (spec.plan_faults (trees (drop l.form-index l.forms))) ≡ first (spec.plan_faults (trees l.forms))
