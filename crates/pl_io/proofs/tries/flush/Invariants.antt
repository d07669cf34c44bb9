use Rattle.std.specs.Io.KnownBytes.{Keeps}
use Rattle.pl_io.proofs.tries.flush.Given as goal

-- the calls so far were interrupted
abbrev pub invariant-loop : goal.invariant-loop
invariant-loop g l = Keeps (g.W.Write.contents l.fn.to) (g.W.Write.contents l.to)
