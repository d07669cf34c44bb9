use Rattle.std.proofs.Common.{◌≡◌, ◌++◌, ◌≤◌, []}
use Rattle.pl_reduce.specs.Fixing.{AreKeyedOf}
use Rattle.pl_reduce.proofs.fixing.key_all.Given as goal

abbrev pub invariant-loop-relation : goal.invariant-loop-relation
invariant-loop-relation g l = record {
  all : l.yielded ++ l.relation-iterator.rest.items ≡ l.fn.nodes.items;
  keyed : AreKeyedOf (record { edges = l.edges; removed = l.ears; core = [] }) l.yielded l.lent.items;
  rise : l.initial.steps ≤ l.steps;
}
