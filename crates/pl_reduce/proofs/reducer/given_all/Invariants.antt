use Rattle.std.proofs.Common.{◌≡◌, ◌++◌, ◌∷◌, Some, map}
use Rattle.pl_reduce.proofs.reducer.given_all.Given as goal

abbrev pub invariant-loop-relation : goal.invariant-loop-relation
invariant-loop-relation l = record {
  all : l.yielded ++ l.relation-iterator.rest.items ≡ l.fn.rest.items;
  own : l.own.items ≡ map Some (l.fn.root ∷ l.yielded);
}
