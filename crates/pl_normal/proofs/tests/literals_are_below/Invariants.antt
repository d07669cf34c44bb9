use Rattle.std.proofs.Common.{All, take}
use Rattle.pl_normal.specs.Scope.{IsLiteralBelow}
use Rattle.pl_normal.proofs.tests.literals_are_below.Given as goal

abbrev pub invariant-loop-literal : goal.invariant-loop-literal
invariant-loop-literal l = All (IsLiteralBelow l.n) (take l.literal-index l.literals)
