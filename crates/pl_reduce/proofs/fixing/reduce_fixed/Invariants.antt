use Rattle.std.proofs.Common.{◌≡◌, ◌+◌, ◌-◌, ◌<◌, ◌≤◌, ℕ, length}
use Rattle.pl_reduce.specs.Fixing.{AreFixedFrom, IsUp, IsDown}
use Rattle.pl_reduce.specs.Handed.{handed_in}
use Rattle.pl_reduce.proofs.fixing.reduce_fixed.Given as goal

abbrev pub invariant-loop-before : goal.invariant-loop-before
invariant-loop-before g l = record {
  many : length l.nodes.items ≡ l.last + 1;
  fixed : AreFixedFrom l.fn.nodes.items l.nodes.items;
  origins : length l.origins.items ≡ length l.nodes.items;
  handed : handed_in l.origins.items l.nodes.items ≡ handed_in l.fn.origins.items l.fn.nodes.items;
  up : (i : ℕ) → 0 < i → i ≤ l.before → IsUp l.parents l.nodes.items i;
  rise : l.fn.steps ≤ l.steps;
}

abbrev pub invariant-loop-done : goal.invariant-loop-done
invariant-loop-done g l = record {
  many : length l.nodes.items ≡ l.last + 1;
  fixed : AreFixedFrom l.fn.nodes.items l.nodes.items;
  origins : length l.origins.items ≡ length l.nodes.items;
  handed : handed_in l.origins.items l.nodes.items ≡ handed_in l.fn.origins.items l.fn.nodes.items;
  up : (i : ℕ) → 0 < i → i < length l.parents → IsUp l.parents l.nodes.items i;
  down : (i : ℕ) → l.last - l.done < i → i < length l.parents → IsDown l.parents l.nodes.items i;
  rise : l.fn.steps ≤ l.steps;
}
