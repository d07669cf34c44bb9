use Rattle.std.proofs.Common.{◌+◌, ◌≤◌, take}
use Rattle.pl_reduce.specs.Lent.{own_rows}
use Rattle.pl_reduce.specs.Arranged.{AreArrangedBelow}
use Rattle.pl_reduce.proofs.arranging.arrange_all.Given as goal

abbrev pub invariant-loop-node : goal.invariant-loop-node
invariant-loop-node g l = record {
  arranged : AreArrangedBelow l.order l.fn.own.items l.own.items l.node;
  cost : l.steps ≤ l.fn.steps + own_rows (take l.node l.fn.own.items);
  rise : l.fn.steps ≤ l.steps;
}
