use Rattle.std.proofs.Common.{◌≡◌, ◌↔◌, ℕ, take}
use Rattle.std.specs.Int.{bit_at}
use Rattle.pl_hyper.specs.ClassOrder.{IsHeldBy}
use Rattle.pl_reduce.proofs.fitting.held_by.Given as goal

abbrev pub invariant-loop-edge : goal.invariant-loop-edge
invariant-loop-edge l = (c : ℕ) → (bit_at l.held c ≡ 1) ↔ IsHeldBy l.edges (take l.edge-index l.some) c
