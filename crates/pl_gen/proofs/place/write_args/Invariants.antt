use Rattle.std.proofs.Common.{◌≡◌, ◌<◌, ℕ, length}
use Rattle.std.specs.Prelude.{slice_index}
use Rattle.pl_gen.specs.Turns.{object_at}
use Rattle.pl_gen.proofs.place.write_args.Given as goal

abbrev pub invariant-loop-p : goal.invariant-loop-p
invariant-loop-p l =
    (length l.args ≡ 64)
    × ((k : ℕ) → k < l.p → slice_index l.args k ≡ object_at l.fixed l.classes l.values k)
