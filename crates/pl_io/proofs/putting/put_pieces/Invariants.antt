use Rattle.std.proofs.Common.{◌≡◌, ◌≤◌, length, take}
use Rattle.std.specs.Io.KnownBytes.{Appends}
use Rattle.pl_io.specs.Outside.{SameTelling, joined}
use Rattle.pl_io.proofs.putting.put_pieces.Given as goal

-- the pieces so far were written
abbrev pub invariant-loop-piece : goal.invariant-loop-piece
invariant-loop-piece g l =
    record {
      written : Appends (g.O.Sink.seen l.fn.sink).written (g.O.Sink.seen l.sink).written
          (joined (take l.piece-index l.pieces));
      told : SameTelling (g.O.Sink.seen l.fn.sink).written (g.O.Sink.seen l.sink).written;
      later : (g.O.Sink.seen l.fn.sink).faults ≤ (g.O.Sink.seen l.sink).faults;
      empty : length (joined l.pieces) ≡ 0 → l.sink ≡ l.fn.sink;
    }
