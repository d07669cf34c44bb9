use Rattle.std.proofs.Common.{◌≡◌, ◌↔◌, ℕ, take, Contains}
use Rattle.std.specs.Int.{bit_at}
use Rattle.pl_reduce.proofs.fitting.set_of.Given as goal

abbrev pub invariant-loop-class : goal.invariant-loop-class
invariant-loop-class l = (c : ℕ) → (bit_at l.set c ≡ 1) ↔ Contains (take l.class-index l.classes) c
