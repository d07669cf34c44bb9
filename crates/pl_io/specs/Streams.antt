-- What the sinks over the standard streams show of themselves: nothing of what was written.
use Rattle.std.specs.Prelude.{ℕ, None}
use Rattle.pl_io.specs.Outside.{SinkSeen}
use Rattle.pl_io.specs.declared.streams.OutSink.{OutSink}
use Rattle.pl_io.specs.declared.streams.ErrSink.{ErrSink}

-- how many calls on standard output failed
abbrev pub out_faults : OutSink → ℕ
out_faults sink = sink.faults

-- how many calls on standard error failed
abbrev pub err_faults : ErrSink → ℕ
err_faults sink = sink.faults

abbrev pub out_seen : OutSink → SinkSeen
out_seen sink = record { written = None; faults = sink.faults }

abbrev pub err_seen : ErrSink → SinkSeen
err_seen sink = record { written = None; faults = sink.faults }
