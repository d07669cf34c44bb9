use Rattle.std.proofs.Common.{◌≡◌, take}
use Rattle.pl_join.specs.Source.{looked_at}
use Rattle.pl_join.proofs.source.look_at.Given as goal

abbrev pub invariant-loop-i : goal.invariant-loop-i
invariant-loop-i l = take l.i l.values ≡ looked_at (take l.i l.sources) l.row
