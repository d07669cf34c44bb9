use Rattle.std.proofs.Common.{◌≤◌, take, flat_map}
use Rattle.pl_io.specs.Blocks.{SendsOn, held_of}
use Rattle.pl_print.specs.Texts.{argument_text}
use Rattle.pl_print.proofs.step_in_blocks.put_arguments.Given as goal

-- the arguments so far were taken
abbrev pub invariant-loop-number : goal.invariant-loop-number
invariant-loop-number g l =
    record {
      taken : SendsOn (g.O.Sink.seen l.fn.sink).written (g.O.Sink.seen l.sink).written (held_of l.fn.blocks)
          (flat_map (argument_text l.objects) (take l.number-index l.args)) (held_of l.blocks);
      later : (g.O.Sink.seen l.fn.sink).faults ≤ (g.O.Sink.seen l.sink).faults;
    }
