use Rattle.std.proofs.Common.{◌≤◌, take, flat_map}
use Rattle.std.specs.Io.KnownBytes.{Appends}
use Rattle.pl_print.specs.Texts.{argument_text}
use Rattle.pl_print.proofs.step.put_arguments.Given as goal

-- the arguments so far were written
abbrev pub invariant-loop-number : goal.invariant-loop-number
invariant-loop-number g l =
    record {
      written : Appends (g.O.Sink.seen l.fn.sink).written (g.O.Sink.seen l.sink).written
          (flat_map (argument_text l.objects) (take l.number-index l.args));
      later : (g.O.Sink.seen l.fn.sink).faults ≤ (g.O.Sink.seen l.sink).faults;
    }
