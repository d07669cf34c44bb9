use Rattle.std.proofs.Common.{◌≡◌, length}
use Rattle.pl_reduce.specs.Passes.{AreEmptied}
use Rattle.pl_reduce.specs.Lent.{nodes_with, AreThere}
use Rattle.pl_reduce.proofs.passes.empty_all.Given as goal

abbrev pub invariant-loop-node : goal.invariant-loop-node
invariant-loop-node l = record {
  many : length l.own.items ≡ length l.fn.own.items;
  there : AreThere l.lent l.own.items;
  emptied : AreEmptied (nodes_with l.lent l.fn.own.items) (nodes_with l.lent l.own.items) l.node;
}
