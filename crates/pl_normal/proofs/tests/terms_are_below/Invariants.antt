use Rattle.std.proofs.Common.{All, take}
use Rattle.pl_normal.specs.Scope.{IsTermBelow}
use Rattle.pl_normal.proofs.tests.terms_are_below.Given as goal

abbrev pub invariant-loop-term : goal.invariant-loop-term
invariant-loop-term l = All (IsTermBelow l.n) (take l.term-index l.terms)
