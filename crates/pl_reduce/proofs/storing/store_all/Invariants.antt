use Rattle.std.proofs.Common.{◌≡◌, ◌+◌, ◌≤◌, ◌++◌, []}
use Rattle.pl_reduce.specs.Lent.{nodes_with, own_rows}
use Rattle.pl_reduce.specs.Kept.{AreStored}
use Rattle.pl_reduce.proofs.storing.store_all.Given as goal

abbrev pub invariant-loop-relation : goal.invariant-loop-relation
invariant-loop-relation g l = record {
  all : l.yielded ++ l.relation-iterator.rest.items ≡ l.fn.own.items;
  stored : AreStored (record { edges = l.edges; removed = l.ears; core = [] })
      (nodes_with l.lent l.yielded) l.nodes.items;
  cost : l.steps ≤ l.initial.steps + own_rows l.yielded;
  rise : l.initial.steps ≤ l.steps;
}
