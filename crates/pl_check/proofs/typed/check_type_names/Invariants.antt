use Rattle.std.proofs.Common.{◌≡◌, drop}
use Rattle.std.specs.List.{flat_map}
use Rattle.pl_names.specs.Names.{first_appearances}
use Rattle.pl_check.specs.Elements.{trees}
use Rattle.pl_check.specs.FaultLists.{first}
use Rattle.pl_check.specs.TypedLists.{type_name_faults}
use Rattle.pl_check.proofs.typed.check_type_names.Given as goal

abbrev pub invariant-loop-form : goal.invariant-loop-form
invariant-loop-form l =
    first (flat_map (type_name_faults l.text (first_appearances l.types)) (trees (drop l.form-index l.forms)))
    ≡ first (flat_map (type_name_faults l.text (first_appearances l.types)) (trees l.forms))
