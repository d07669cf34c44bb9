use Rattle.std.specs.Io.KnownBytes.{Keeps}
use Rattle.pl_io.proofs.tries.read.Given as goal

-- the calls so far were interrupted
abbrev pub invariant-loop : goal.invariant-loop
invariant-loop g l = Keeps (g.R.Read.remaining l.fn.from) (g.R.Read.remaining l.from)
