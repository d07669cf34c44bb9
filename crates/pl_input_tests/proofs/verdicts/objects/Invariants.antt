use Rattle.std.proofs.Common.{◌≡◌, [], length, All}
use Rattle.pl_task.specs.declared.data.ObjectDef.{ObjectDef}
use Rattle.pl_input_tests.proofs.verdicts.objects.Given as goal

abbrev pub invariant-loop-i : goal.invariant-loop-i
invariant-loop-i l = (length l.made.items ≡ l._i) × All (λ (o : ObjectDef). o.types ≡ []) l.made.items
