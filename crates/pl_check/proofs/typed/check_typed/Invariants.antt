use Rattle.std.proofs.Common.{◌≡◌, drop}
use Rattle.pl_names.specs.Names.{first_appearances}
use Rattle.pl_check.specs.Elements.{trees}
use Rattle.pl_check.specs.FaultLists.{first}
use Rattle.pl_check.specs.TypedLists.{at_start, before_of, typed_faults}
use Rattle.pl_check.proofs.typed.check_typed.Given as goal

abbrev pub invariant-loop-i : goal.invariant-loop-i
invariant-loop-i l =
    first (typed_faults l.text (first_appearances l.types) l.role (before_of l.group)
    (trees (drop l.i l.forms)))
    ≡ first (typed_faults l.text (first_appearances l.types) l.role at_start (trees l.forms))
