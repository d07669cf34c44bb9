use Rattle.pl_hooks.proofs.StuckLemmas.{IsFixedUpTo}
use Rattle.pl_hooks.proofs.hopeless_test.HopelessTest.of.Given as goal

abbrev pub invariant-loop-number : goal.invariant-loop-number
invariant-loop-number l = IsFixedUpTo l.task l.goal l.number l.lost l.fixed.items
