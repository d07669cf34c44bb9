use Rattle.std.proofs.Common.{◌≡◌}
use Rattle.pl_state.specs.StateOf.{state_in}
use Rattle.pl_state.specs.Reading.{start_of}
use Rattle.pl_state.specs.Tables.{AreTablesUpTo}
use Rattle.pl_state.proofs.tabling.tables_in.Given as goal

abbrev pub invariant-loop-number : goal.invariant-loop-number
invariant-loop-number l = record {
  start : l.at ≡ start_of l.task l.words l.number;
  made : AreTablesUpTo l.task (state_in l.task l.words) l.number l.tables.items;
}
