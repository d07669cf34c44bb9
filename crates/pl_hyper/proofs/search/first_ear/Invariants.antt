use Rattle.std.proofs.Common.{ℕ, ◌<◌, ◌≤◌, get_or}
use Rattle.pl_hyper.specs.Ears.{IsEar}
use Rattle.pl_hyper.proofs.search.first_ear.Given as goal

abbrev pub invariant-loop-place : goal.invariant-loop-place
invariant-loop-place l = (k f : ℕ) → l.from ≤ k → k < l.place →
    IsEar l.edges l.remaining (get_or l.remaining k 0) f → ⊥
