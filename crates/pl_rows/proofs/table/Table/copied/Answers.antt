use Rattle.pl_rows.proofs.Values.{are_rows-view}
use Rattle.pl_rows.proofs.table.Table.copied.Goals as goal

pub returns-in_err-flat-clause-rows : goal.returns-in_err-flat-clause-rows
returns-in_err-flat-clause-rows c = are_rows-view _ _ _ _ c.self.view_is c.self.invariant

pub returns-clause-rows : goal.returns-clause-rows
returns-clause-rows c = are_rows-view _ _ _ _ c.self.view_is c.self.invariant
