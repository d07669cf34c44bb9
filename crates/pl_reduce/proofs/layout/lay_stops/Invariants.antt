use Rattle.pl_reduce.proofs.Laying.{AreLaidUpTo}
use Rattle.pl_reduce.proofs.layout.lay_stops.Given as goal

abbrev pub invariant-loop-step : goal.invariant-loop-step
invariant-loop-step l = AreLaidUpTo l.plan l.stops.items l.from l.step
