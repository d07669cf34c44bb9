use Rattle.std.proofs.Common.{arith}
use Rattle.pl_rows.proofs.Values.{length-view}
use Rattle.pl_rows.proofs.table.Table.row_unprobed.Goals as goal

pub row_at-requires-clause-within : goal.row_at-requires-clause-within
row_at-requires-clause-within c = omega (arith, c.requires, length-view _ _ _ _ c.self.view_is)
