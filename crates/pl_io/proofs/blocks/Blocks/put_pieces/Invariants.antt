use Rattle.std.proofs.Common.{◌≤◌, take}
use Rattle.pl_io.specs.Outside.{joined}
use Rattle.pl_io.specs.Blocks.{SendsOn, held_of}
use Rattle.pl_io.proofs.blocks.Blocks.put_pieces.Given as goal

-- the pieces so far were taken
abbrev pub invariant-loop-piece : goal.invariant-loop-piece
invariant-loop-piece g l =
    record {
      taken : SendsOn (g.O.Sink.seen l.fn.sink).written (g.O.Sink.seen l.sink).written (held_of l.fn.self)
          (joined (take l.piece-index l.pieces)) (held_of l.self);
      later : (g.O.Sink.seen l.fn.sink).faults ≤ (g.O.Sink.seen l.sink).faults;
    }
