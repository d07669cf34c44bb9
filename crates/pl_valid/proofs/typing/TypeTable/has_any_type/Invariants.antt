use Rattle.std.proofs.Common.{All, take}
use Rattle.pl_task.specs.Types.{HasType}
use Rattle.pl_valid.specs.Judging.{KnowsTypes}
use Rattle.pl_valid.proofs.typing.TypeTable.has_any_type.Given as goal

abbrev pub invariant-loop-type_number : goal.invariant-loop-type_number
invariant-loop-type_number l = All (λ t. HasType l.task l.object t → ⊥) (take l.type_number-index l.types) ×
    KnowsTypes l.task l.self
