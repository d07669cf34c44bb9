use Rattle.std.proofs.Common.{◌≤◌, ◌-◌, length}
use Rattle.pl_state.specs.Comparing.{AgreeBetween}
use Rattle.pl_state.proofs.comparing.many_agree.Given as goal

abbrev pub invariant-loop-at : goal.invariant-loop-at
invariant-loop-at l = (l.at ≤ length l.a) × AgreeBetween 0 l.at l.a l.b

abbrev pub decreases-loop-at : goal.decreases-loop-at
decreases-loop-at l = length l.a - l.at
