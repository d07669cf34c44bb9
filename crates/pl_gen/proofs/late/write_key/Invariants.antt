use Rattle.std.proofs.Common.{◌≡◌, ◌++◌, take, drop}
use Rattle.std.specs.Prelude.{slice_index}
use Rattle.pl_normal.specs.Query.{values_of}
use Rattle.pl_gen.proofs.late.write_key.Given as goal

abbrev pub invariant-loop-i : goal.invariant-loop-i
invariant-loop-i l = l.key ≡ values_of (slice_index l.values) (take l.i l.slots) ++ drop l.i l.initial.key
