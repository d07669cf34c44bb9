use Rattle.pl_rows.proofs.Canonical.{ascending-none}
use Rattle.pl_normal.proofs.fixed_tests.tables.Goals as goal

pub from_ascending-table-requires-clause-ascending : goal.from_ascending-table-requires-clause-ascending
from_ascending-table-requires-clause-ascending c = ascending-none
