use Rattle.pl_join.proofs.Operations.{absent_made}
use Rattle.pl_join.proofs.filters.filter_absent.Goals as goal

pub returns-clause-rows : goal.returns-clause-rows
returns-clause-rows g c =
    absent_made c.args.relation.now _ _ _ _ c.in_ok-kept.kept c.args.table.now.rows c.args.slots.now _ _
    c.classes-classes.ensures.classes c.table.ensures
    c.in_ok-sources.ensures.values c.as_slice.ensures c.in_ok-kept.ensures.kept
    c.in_ok-from_slice.ensures.ok c.new.ensures
