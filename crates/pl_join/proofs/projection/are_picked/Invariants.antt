use Rattle.std.proofs.Common.{◌≡◌, take}
use Rattle.pl_join.specs.Source.{picked}
use Rattle.pl_join.proofs.projection.are_picked.Given as goal

abbrev pub invariant-loop-i : goal.invariant-loop-i
invariant-loop-i l = take l.i l.values ≡ picked (take l.i l.columns) l.row
