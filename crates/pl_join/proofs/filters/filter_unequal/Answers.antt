use Rattle.pl_join.proofs.Operations.{unequal_made}
use Rattle.pl_join.proofs.filters.filter_unequal.Goals as goal

pub returns-clause-rows : goal.returns-clause-rows
returns-clause-rows g c =
    unequal_made c.args.relation.now _ _ _ _ c.in_ok-table.table c.args.a c.args.b c.source_of-first.result
    c.source_of-second.result c.classes-classes.ensures.classes c.table.ensures
    c.source_of-first.ensures.value c.source_of-second.ensures.value c.in_ok-table.ensures.same
    c.in_ok-from_slice.ensures.ok c.new.ensures
