use Rattle.std.proofs.Common.{◌≡◌, ◌≤◌, length}
use Rattle.pl_reduce.specs.Arranged.{AreArrangedBelow}
use Rattle.pl_reduce.specs.Handed.{handed_in}
use Rattle.pl_reduce.proofs.handed.arrange_fixed.Given as goal

abbrev pub invariant-loop-node : goal.invariant-loop-node
invariant-loop-node g l = record {
  arranged : AreArrangedBelow l.order l.fn.nodes.items l.nodes.items l.node;
  many : length l.origins.items ≡ length l.nodes.items;
  handed : handed_in l.origins.items l.nodes.items ≡ handed_in l.fn.origins.items l.fn.nodes.items;
  rise : l.fn.steps ≤ l.steps;
}
