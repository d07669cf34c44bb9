use Rattle.std.proofs.Common.{◌≡◌, ◌++◌, length}
use Rattle.pl_check.specs.Stated.{once}
use Rattle.pl_check.proofs.once.each_once.Given as goal

abbrev pub invariant-loop-atom : goal.invariant-loop-atom
invariant-loop-atom l = record {
  all : l.yielded ++ l.atom-iterator.rest.items ≡ l.fn.all.items;
  count : length l.atom-iterator.rest.items ≡ l.atom-iterator.rest.len;
  listed : l.seen.keys ≡ once l.yielded;
}
