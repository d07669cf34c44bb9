use Rattle.std.proofs.Common.{◌≡◌, ◌-◌, ◌≤◌, length, take}
use Rattle.std.specs.Io.KnownBytes.{Appends}
use Rattle.pl_io.specs.Outside.{SameTelling}
use Rattle.pl_io.proofs.putting.put_all.Given as goal

-- so many bytes were written, from the front
abbrev pub invariant-loop-done : goal.invariant-loop-done
invariant-loop-done g l =
    record {
      within : l.done ≤ length l.bytes;
      written : Appends (g.O.Sink.seen l.fn.sink).written
          (g.O.Sink.seen l.sink).written (take l.done l.bytes);
      told : SameTelling (g.O.Sink.seen l.fn.sink).written (g.O.Sink.seen l.sink).written;
      later : (g.O.Sink.seen l.fn.sink).faults ≤ (g.O.Sink.seen l.sink).faults;
      empty : length l.bytes ≡ 0 → l.sink ≡ l.fn.sink;
    }

abbrev pub decreases-loop-done : goal.decreases-loop-done
decreases-loop-done g l = length l.bytes - l.done
