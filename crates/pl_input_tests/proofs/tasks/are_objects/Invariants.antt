use Rattle.std.proofs.Common.{◌<◌, All, take}
use Rattle.pl_task.specs.declared.data.ObjectDef.{ObjectDef}
use Rattle.pl_input_tests.proofs.tasks.are_objects.Given as goal

abbrev pub invariant-loop-definition : goal.invariant-loop-definition
invariant-loop-definition l = All (λ (o : ObjectDef). All (λ t. t < l.count) o.types)
    (take l.definition-index l.objects)
