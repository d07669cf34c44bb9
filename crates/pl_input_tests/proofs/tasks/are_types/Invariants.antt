use Rattle.std.proofs.Common.{◌<◌, length, All, take}
use Rattle.pl_task.specs.declared.data.TypeDef.{TypeDef}
use Rattle.pl_input_tests.proofs.tasks.are_types.Given as goal

abbrev pub invariant-loop-definition : goal.invariant-loop-definition
invariant-loop-definition l = All (λ (t : TypeDef). All (λ p. p < length l.types) t.parents)
    (take l.definition-index l.types)
