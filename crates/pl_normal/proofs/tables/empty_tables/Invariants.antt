use Rattle.pl_normal.proofs.Asking.{AreTablesBelow}
use Rattle.pl_normal.proofs.tables.empty_tables.Given as goal

abbrev pub invariant-loop-p : goal.invariant-loop-p
invariant-loop-p l = AreTablesBelow l.task l.p l.tables.items
