use Rattle.std.proofs.Common.{◌≡◌, take}
use Rattle.pl_normal.specs.Kinds.{lists_of, object_types}
use Rattle.pl_normal.proofs.kinds.types_of_objects.Given as goal

abbrev pub invariant-loop-i : goal.invariant-loop-i
invariant-loop-i l = lists_of l.lists.items ≡ object_types (take l.i l.objects)
