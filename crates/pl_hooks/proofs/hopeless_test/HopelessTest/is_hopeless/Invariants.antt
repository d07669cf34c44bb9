use Rattle.std.proofs.Common.{◌≡◌, ◌<◌, ℕ, Some, slice_get}
use Rattle.pl_state.specs.StateOf.{state_in}
use Rattle.pl_hooks.proofs.StuckLemmas.{IsMetAt}
use Rattle.pl_hooks.proofs.hopeless_test.HopelessTest.is_hopeless.Given as goal

abbrev pub invariant-loop-number : goal.invariant-loop-number
invariant-loop-number l = (k n : ℕ) → k < l.number-index → slice_get l.self.fixed k ≡ Some n
    → IsMetAt l.task (state_in l.task l.state) n
