use Rattle.std.proofs.Common.{◌≡◌, ◌==◌, filter, take}
use Rattle.std.specs.Int.{bit_at}
use Rattle.pl_reduce.proofs.fitting.order_of.Given as goal

abbrev pub invariant-loop-class : goal.invariant-loop-class
invariant-loop-class l = l.classes.items ≡ filter (λ c. bit_at l.set c == 1) (take l.class-index l.order)
