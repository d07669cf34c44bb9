use Rattle.pl_state.specs.Statics.{AreStaticUpTo}
use Rattle.pl_state.proofs.statics.static_tables.Given as goal

abbrev pub invariant-loop-number : goal.invariant-loop-number
invariant-loop-number l = AreStaticUpTo l.task l.number l.tables.items
