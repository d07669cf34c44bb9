use Rattle.std.proofs.Common.{◌≡◌, ◌==◌, ◌≤◌, length, filter, take}
use Rattle.std.specs.Int.{bit_at}
use Rattle.pl_reduce.proofs.storing.held_count.Given as goal

abbrev pub invariant-loop-class : goal.invariant-loop-class
invariant-loop-class l = record {
  counted : l.count ≡ length (filter (λ c. bit_at l.edge c == 1) (take l.class-index l.classes));
  most : l.count ≤ l.class-index;
}
