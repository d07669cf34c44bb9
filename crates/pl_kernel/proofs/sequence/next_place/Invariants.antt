use Rattle.std.proofs.Common.{◌≡◌, ◌<◌, ℕ, false, map, get_or}
use Rattle.pl_join.specs.Relation.{ClassRows}
use Rattle.pl_kernel.specs.Joining.{share_class}
use Rattle.pl_kernel.proofs.sequence.next_place.Given as goal

abbrev pub invariant-loop-place : goal.invariant-loop-place
invariant-loop-place l = (k : ℕ) (d : ClassRows) → k < l.place
    → share_class l.classes (get_or (map (λ r. r.now) l.left) k d) ≡ false
