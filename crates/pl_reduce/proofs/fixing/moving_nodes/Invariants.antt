use Rattle.std.proofs.Common.{◌≡◌, length}
use Rattle.pl_reduce.proofs.fixing.moving_nodes.Given as goal

abbrev pub invariant-loop-node : goal.invariant-loop-node
invariant-loop-node l = length l.moves.items ≡ length l.parents
