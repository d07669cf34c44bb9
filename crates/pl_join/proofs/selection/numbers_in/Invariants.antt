use Rattle.std.proofs.Common.{◌≡◌, map, take}
use Rattle.pl_join.specs.Source.{number_in}
use Rattle.pl_join.proofs.selection.numbers_in.Given as goal

abbrev pub invariant-loop-slot : goal.invariant-loop-slot
invariant-loop-slot l = l.numbers.items ≡ map number_in (take l.slot-index l.slots)
