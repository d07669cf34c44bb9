use Rattle.std.proofs.Common.{◌≡◌, ◌++◌, map, drop}
use Rattle.pl_names.specs.Names.{texts}
use Rattle.pl_check.specs.Reading.{numbered_in, grouped}
use Rattle.pl_check.proofs.items.add_group.Given as goal

abbrev pub invariant-loop-name : goal.invariant-loop-name
invariant-loop-name l =
    map numbered_in l.items.items ++ grouped (texts (drop l.name-index l.names)) l.numbers
    ≡ map numbered_in l.initial.items.items ++ grouped (texts l.names) l.numbers
