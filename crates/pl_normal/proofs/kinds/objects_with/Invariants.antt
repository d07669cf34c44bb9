use Rattle.std.proofs.Common.{◌≡◌}
use Rattle.pl_normal.specs.Kinds.{objects_below}
use Rattle.pl_normal.proofs.kinds.objects_with.Given as goal

abbrev pub invariant-loop-o : goal.invariant-loop-o
invariant-loop-o l = l.flat.items ≡ objects_below l.task l.types l.o
