use Rattle.std.proofs.Common.{◌≤◌, ◌-◌, length}
use Rattle.pl_join_tests.proofs.answers.gives_around.Given as goal

abbrev pub invariant-loop-from : goal.invariant-loop-from
invariant-loop-from g l = l.from ≤ length l.answers

abbrev pub decreases-loop-from : goal.decreases-loop-from
decreases-loop-from g l = length l.answers - l.from
