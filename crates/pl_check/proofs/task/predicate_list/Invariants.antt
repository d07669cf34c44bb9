use Rattle.std.proofs.Common.{◌≡◌, ◌++◌, drop}
use Rattle.pl_names.specs.Names.{texts}
use Rattle.pl_check.specs.Stated.{predicates_from}
use Rattle.pl_check.proofs.task.predicate_list.Given as goal

abbrev pub invariant-loop-i : goal.invariant-loop-i
invariant-loop-i l =
    l.predicates.items ++ predicates_from l.schemas l.i (drop l.i (texts l.name-items)) (drop l.i l.arities) ≡
    predicates_from l.schemas 0 (texts l.name-items) l.arities
