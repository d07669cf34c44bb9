use Rattle.std.proofs.Common.{◌≤◌, take, flat_map}
use Rattle.std.specs.Io.KnownBytes.{Appends}
use Rattle.pl_print.specs.Texts.{step_text}
use Rattle.pl_print.proofs.plan.put_steps.Given as goal

-- the steps so far were written
abbrev pub invariant-loop-step : goal.invariant-loop-step
invariant-loop-step g l =
    record {
      written : Appends (g.O.Sink.seen l.fn.sink).written (g.O.Sink.seen l.sink).written
          (flat_map (step_text l.task) (take l.step-index l.steps));
      later : (g.O.Sink.seen l.fn.sink).faults ≤ (g.O.Sink.seen l.sink).faults;
    }
