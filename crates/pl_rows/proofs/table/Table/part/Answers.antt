use Rattle.std.proofs.Common.{arith}
use Rattle.pl_rows.proofs.Values.{length-view}
use Rattle.pl_rows.proofs.table.Table.part.Goals as goal

pub rows_between-requires-clause-within : goal.rows_between-requires-clause-within
rows_between-requires-clause-within c = omega (arith, c.requires.within, length-view _ _ _ _ c.self.view_is)
