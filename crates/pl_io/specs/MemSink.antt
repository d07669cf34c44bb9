-- What a sink in memory shows of itself.
use Rattle.std.specs.Prelude.{◌≡◌, ℕ, List, Some}
use Rattle.pl_io.specs.Outside.{SinkSeen}
use Rattle.pl_io.specs.declared.mem_sink.MemSink.{MemSink}

-- the bytes that were written
abbrev pub written_of : MemSink → List ℕ
written_of sink = sink.bytes.items

-- how many calls failed
abbrev pub faults_of : MemSink → ℕ
faults_of sink = sink.faults

-- how many calls were numbered
abbrev pub calls_of : MemSink → ℕ
calls_of sink = sink.numbered.calls

-- the numbers of the calls that fail
abbrev pub failing_of : MemSink → List ℕ
failing_of sink = sink.numbered.failing.items

-- the most bytes that a call takes
abbrev pub piece_of : MemSink → ℕ
piece_of sink = sink.piece

-- the most bytes that are written in all
abbrev pub room_of : MemSink → ℕ
room_of sink = sink.room

-- the calls that fail, the most bytes of a call and the room stay as they were
abbrev pub SameScript : MemSink → MemSink → Type 0
SameScript old new = (failing_of new ≡ failing_of old) × (piece_of new ≡ piece_of old) ×
    (room_of new ≡ room_of old)

abbrev pub seen_of : MemSink → SinkSeen
seen_of sink = record { written = Some (written_of sink); faults = faults_of sink }
