-- The predicates that the effects of the schemas that were passed name.
use Rattle.std.proofs.Common.{◌≡◌, ◌<◌, ℕ, false, get_or, take}
use Rattle.pl_task.specs.WellFormed.{is_fluent}
use Rattle.pl_check.proofs.statics.fluent_marks.Given as goal

abbrev pub invariant-loop-schema : goal.invariant-loop-schema
invariant-loop-schema l = (p : ℕ) → p < l.count →
    get_or l.fluent p false ≡ is_fluent (take l.schema-index l.schemas) p
