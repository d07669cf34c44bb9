use Rattle.std.proofs.Common.{◌≡◌, length}
use Rattle.std.specs.List.{fold}
use Rattle.pl_state.specs.Feeding.{fed_fours}
use Rattle.pl_state.proofs.hashing.feed_fours.Given as goal

abbrev pub invariant-loop-left : goal.invariant-loop-left
invariant-loop-left g l =
    fold g.H.Hasher.write l.fn.state (fed_fours l.words) ≡ fold g.H.Hasher.write l.state (fed_fours l.left)

abbrev pub decreases-loop-left : goal.decreases-loop-left
decreases-loop-left g l = length l.left
