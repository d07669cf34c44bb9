use Rattle.std.proofs.Common.{arith, sym}
use Rattle.pl_rows.proofs.Narrowing.{narrowed_none, count_by-narrowed, first_from_narrowed}
use Rattle.pl_rows.proofs.Values.{length-view}
use Rattle.pl_rows.proofs.table.Table.first_from.Goals as goal

pub bisected-requires-clause-within : goal.bisected-requires-clause-within
bisected-requires-clause-within g c = omega (arith, length-view _ _ _ _ c.self.view_is)

pub bisected-requires-clause-narrowed : goal.bisected-requires-clause-narrowed
bisected-requires-clause-narrowed g c = narrowed_none _ _ _ (length-view _ _ _ _ c.self.view_is)

pub returns-clause-count : goal.returns-clause-count
returns-clause-count g c = sym (count_by-narrowed _ _ _ (omega (arith, length-view _ _ _ _ c.self.view_is))
    c.bisected.ensures.narrowed)

pub returns-clause-first : goal.returns-clause-first
returns-clause-first g c = first_from_narrowed _ _ _ c.bisected.ensures.narrowed
