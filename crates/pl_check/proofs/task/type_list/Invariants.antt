use Rattle.std.proofs.Common.{◌≡◌, false, map, take}
use Rattle.pl_names.specs.Names.{texts}
use Rattle.pl_check.specs.Elements.{trees}
use Rattle.pl_check.specs.Gathering.{lists_in, AreLeft}
use Rattle.pl_check.specs.Stated.{type_of}
use Rattle.pl_check.specs.TypedLists.{typed_items}
use Rattle.pl_check.proofs.task.type_list.Given as goal

abbrev pub invariant-loop-i : goal.invariant-loop-i
invariant-loop-i l = record {
  left : AreLeft l.known.types (typed_items l.text false (trees l.forms)) (texts l.name-items)
      (lists_in l.parents.items) l.i;
  made : l.types.items ≡ map (type_of l.known.types (typed_items l.text false (trees l.forms)))
      (take l.i (texts l.name-items));
}
