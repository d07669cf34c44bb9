use Rattle.std.proofs.Common.{map, take}
use Rattle.pl_names.specs.Names.{first_appearances}
use Rattle.pl_check.specs.Gathering.{lists_in, AreAdded}
use Rattle.pl_check.specs.Reading.{numbered_in}
use Rattle.pl_check.proofs.task.add_types.Given as goal

abbrev pub invariant-loop-item : goal.invariant-loop-item
invariant-loop-item l =
    AreAdded (first_appearances l.names) (map numbered_in (take l.item-index l.items))
    (lists_in l.initial.lists.items) (lists_in l.lists.items)
