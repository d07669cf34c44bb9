use Rattle.pl_task.specs.States.{state_of}
use Rattle.pl_valid.specs.Judging.{KnowsTypes}
use Rattle.pl_valid.proofs.RunLemmas.{IsRun}
use Rattle.pl_valid.proofs.judging.judge.Given as goal

abbrev pub invariant-loop-i : goal.invariant-loop-i
invariant-loop-i l = IsRun l.task l.lines l.i (state_of l.atoms.keys) × KnowsTypes l.task l.types
