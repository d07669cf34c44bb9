use Rattle.pl_normal.specs.Kinds.{lists_of, AreTypeTables}
use Rattle.pl_normal.proofs.kinds.type_tables.Given as goal

abbrev pub invariant-loop-k : goal.invariant-loop-k
invariant-loop-k l = AreTypeTables l.task (lists_of l.lists) l.firsts l.k l.tables.items
