use Rattle.std.proofs.Common.{◌≤◌, ◌∷◌, length, map}
use Rattle.pl_kernel.specs.Joining.{HaveSameJoin}
use Rattle.pl_kernel.proofs.joining.core_table.Given as goal

abbrev pub invariant-loop-joined : goal.invariant-loop-joined
invariant-loop-joined g l = record {
  same : HaveSameJoin (l.joined ∷ map (λ r. r.now) l.left.items) l.fn.core;
  rise : l.fn.steps ≤ l.steps;
}

abbrev pub decreases-loop-joined : goal.decreases-loop-joined
decreases-loop-joined g l = length l.left.items
