use Rattle.pl_rows.proofs.Places.{range-rows_of}
use Rattle.pl_rows.proofs.bisect.rows_between.Goals as goal

pub returns-clause-rows : goal.returns-clause-rows
returns-clause-rows c = range-rows_of _ _ _ _ _ c.requires.in_order c.requires.within c.requires.whole
