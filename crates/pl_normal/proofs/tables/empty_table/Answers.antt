use Rattle.pl_rows.proofs.Canonical.{ascending-none}
use Rattle.pl_normal.proofs.Asking.{empty_is}
use Rattle.pl_normal.proofs.tables.empty_table.Goals as goal

pub from_ascending-requires-clause-ascending : goal.from_ascending-requires-clause-ascending
from_ascending-requires-clause-ascending c = ascending-none

pub returns : goal.returns
returns c =
    empty_is c.args.task.now c.as_slice.result.now c.args.predicate c.index-as_slice-predicate.result
    c.from_ascending.result c.as_slice.ensures
    c.requires c.index-as_slice-predicate.is c.if-definition.false c.from_ascending.ensures
