use Rattle.std.proofs.Common.{arith}
use Rattle.pl_rows.proofs.Values.{length-view}
use Rattle.pl_rows.proofs.table.Table.bisected.Goals as goal

pub bisect-requires-clause-within : goal.bisect-requires-clause-within
bisect-requires-clause-within c = omega (arith, c.requires.within, length-view _ _ _ _ c.self.view_is)
