use Rattle.std.proofs.Common.{take}
use Rattle.pl_normal.specs.Tables.{AreGathered}
use Rattle.pl_normal.proofs.tables.gather.Given as goal

abbrev pub invariant-loop-i : goal.invariant-loop-i
invariant-loop-i l = AreGathered l.task.predicates (take l.i l.task.init) l.builders
