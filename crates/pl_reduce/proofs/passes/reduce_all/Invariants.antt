use Rattle.std.proofs.Common.{◌≡◌, ◌+◌, ◌-◌, ◌≤◌, length}
use Rattle.pl_reduce.specs.Passes.{IsPassedUp, IsPassedDown, up_probes, down_probes}
use Rattle.pl_reduce.specs.Lent.{nodes_with, AreThere}
use Rattle.pl_reduce.proofs.passes.reduce_all.Given as goal

abbrev pub invariant-loop-before : goal.invariant-loop-before
invariant-loop-before g l = record {
  many : length l.own.items ≡ l.last + 1;
  there : AreThere l.lent l.own.items;
  passed : IsPassedUp (nodes_with l.lent l.fn.own.items) (nodes_with l.lent l.own.items) l.before;
  cost : l.steps ≤ l.fn.steps + up_probes (nodes_with l.lent l.fn.own.items) l.parents l.before;
  rise : l.fn.steps ≤ l.steps;
}

abbrev pub invariant-loop-done : goal.invariant-loop-done
invariant-loop-done g l = record {
  many : length l.own.items ≡ l.last + 1;
  there : AreThere l.lent l.own.items;
  passed : IsPassedDown (nodes_with l.lent l.fn.own.items) (nodes_with l.lent l.own.items) (l.last - l.done);
  cost : l.steps + down_probes (nodes_with l.lent l.fn.own.items) l.parents (l.last - l.done)
      ≤ l.fn.steps + up_probes (nodes_with l.lent l.fn.own.items) l.parents l.last + down_probes
      (nodes_with l.lent l.fn.own.items) l.parents l.last;
  rise : l.fn.steps ≤ l.steps;
}
