use Rattle.std.proofs.Common.{◌≡◌, ◌<◌, ℕ, length, get_or}
use Rattle.std.specs.Prelude.{slice_index}
use Rattle.pl_gen.proofs.turn.write_values.Given as goal

abbrev pub invariant-loop-i : goal.invariant-loop-i
invariant-loop-i l =
    (length l.values ≡ length l.initial.values)
    × ((k : ℕ) → k < l.i → slice_index l.values (get_or l.classes k 0) ≡ slice_index l.row k)
