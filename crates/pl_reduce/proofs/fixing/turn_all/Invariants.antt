use Rattle.std.proofs.Common.{◌≡◌, ◌≤◌, length}
use Rattle.pl_reduce.specs.Fixing.{AreTurnedOf}
use Rattle.pl_reduce.proofs.fixing.turn_all.Given as goal

abbrev pub invariant-loop-node : goal.invariant-loop-node
invariant-loop-node g l = record {
  many : length l.turned.items ≡ l.node;
  turned : AreTurnedOf l.parents l.lent l.turned.items;
  rise : l.fn.steps ≤ l.steps;
}
