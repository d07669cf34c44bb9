-- What was marked before, and the predicates of the atoms that were passed.
use Rattle.std.proofs.Common.{◌≡◌, ◌<◌, ◌||◌, ℕ, false, length, get_or, take}
use Rattle.std.specs.List.{list_any}
use Rattle.pl_task.specs.WellFormed.{is_of_predicate}
use Rattle.pl_check.proofs.statics.mark.Given as goal

abbrev pub invariant-loop-atom : goal.invariant-loop-atom
invariant-loop-atom l = (p : ℕ) → p < length l.initial.fluent →
    get_or l.fluent p false ≡ (get_or l.initial.fluent p false || list_any (is_of_predicate p)
    (take l.atom-index l.atoms))
