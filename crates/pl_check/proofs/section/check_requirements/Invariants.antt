use Rattle.std.proofs.Common.{◌≡◌, drop}
use Rattle.std.specs.List.{flat_map}
use Rattle.pl_check.specs.Elements.{trees}
use Rattle.pl_check.specs.FaultLists.{first}
use Rattle.pl_check.specs.Sections.{requirement_faults}
use Rattle.pl_check.proofs.section.check_requirements.Given as goal

-- what is left decides
abbrev pub invariant-loop-form : goal.invariant-loop-form
invariant-loop-form l =
    first (flat_map requirement_faults (trees l.forms)) ≡ first
    (flat_map requirement_faults (trees (drop l.form-index l.forms)))
