-- What a sink that takes everything tells of itself: nothing of its bytes, and no fault.
use Rattle.std.specs.Prelude.{None}
use Rattle.pl_io.specs.Outside.{SinkSeen}
use Rattle.pl_io.specs.declared.sure_sink.SureSink.{SureSink}

abbrev pub sure_seen : SinkSeen
sure_seen = record { written = None; faults = 0 }

abbrev pub seen_of : SureSink → SinkSeen
seen_of sink = sure_seen
