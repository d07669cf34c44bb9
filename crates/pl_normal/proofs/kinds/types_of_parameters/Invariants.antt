use Rattle.std.proofs.Common.{◌≡◌, take}
use Rattle.pl_normal.specs.Kinds.{lists_of, all_types, AreStarts}
use Rattle.pl_normal.proofs.kinds.types_of_parameters.Given as goal

abbrev pub invariant-loop-i : goal.invariant-loop-i
invariant-loop-i l = record {
  starts : AreStarts l.schemas l.i l.starts.items;
  lists : lists_of l.lists.items ≡ all_types (take l.i l.schemas);
}
