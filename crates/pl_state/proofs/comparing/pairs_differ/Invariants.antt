use Rattle.std.proofs.Common.{◌≡◌, true, false}
use Rattle.pl_state.specs.Comparing.{AgreeBetween}
use Rattle.pl_state.proofs.comparing.pairs_differ.Given as goal

abbrev pub invariant-loop-i : goal.invariant-loop-i
invariant-loop-i l = (l.found ≡ true → l.a ≡ l.b → l.c ≡ l.d → ⊥)
    × (l.found ≡ false → AgreeBetween 0 l.i l.a l.b) × (l.found ≡ false → AgreeBetween 0 l.i l.c l.d)
