use Rattle.std.proofs.Common.{◌≡◌, ◌<◌, ℕ, get_or, length}
use Rattle.pl_reduce.proofs.layout.lay_places.Given as goal

abbrev pub invariant-loop-place : goal.invariant-loop-place
invariant-loop-place l = record {
  many : length l.places.items ≡ 64;
  laid : (k : ℕ) → k < l.place → get_or l.places.items (get_or l.classes k 0) 0 ≡ k;
}
