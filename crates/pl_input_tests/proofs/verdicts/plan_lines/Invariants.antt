use Rattle.std.proofs.Common.{◌≡◌, length, All}
use Rattle.pl_valid.specs.Verdict.{IsLineOf}
use Rattle.pl_input_tests.proofs.verdicts.plan_lines.Given as goal

abbrev pub invariant-loop-line : goal.invariant-loop-line
invariant-loop-line l = (length l.made.items ≡ l.line-index) × All (IsLineOf l.task) l.made.items
