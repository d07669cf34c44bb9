use Rattle.std.proofs.Common.{◌≡◌, ◌<◌, ℕ, get_or}
use Rattle.pl_join.specs.declared.slot.Slot.TheVariants.{Class}
use Rattle.pl_join.proofs.selection.place_in.Given as goal

abbrev pub invariant-loop-place : goal.invariant-loop-place
invariant-loop-place l = (k : ℕ) → k < l.place → get_or l.slots k (Class l.class) ≡ Class l.class → ⊥
