use Rattle.std.proofs.Common.{◌≡◌, ℕ, None, length}
use Rattle.pl_reduce.specs.Recipes.{option_at}
use Rattle.pl_reduce.proofs.handed.no_origins.Given as goal

abbrev pub invariant-loop-node : goal.invariant-loop-node
invariant-loop-node l = record {
  many : length l.origins.items ≡ l._node;
  none : (k : ℕ) → option_at l.origins.items k ≡ None;
}
