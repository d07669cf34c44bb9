use Rattle.std.proofs.Common.{ℕ, ◌<◌}
use Rattle.pl_hooks.specs.Fixed.{FitsAt}
use Rattle.pl_hooks.proofs.fixed.fit.Given as goal

abbrev pub invariant-loop-i : goal.invariant-loop-i
invariant-loop-i l = (k : ℕ) → k < l.i → FitsAt l.terms l.objects k
