use Rattle.std.proofs.Common.{◌≡◌, drop}
use Rattle.pl_normal.specs.Guards.{has_some_type}
use Rattle.pl_normal.proofs.guards.has_some_type.Given as goal

abbrev pub invariant-loop-type_number : goal.invariant-loop-type_number
invariant-loop-type_number l = has_some_type l.task l.types l.object ≡ has_some_type l.task
    (drop l.type_number-index l.types) l.object
