use Rattle.pl_join.proofs.Joining.{arranged_made}
use Rattle.pl_join.proofs.joins.indexed.Goals as goal

pub returns-clause-rows : goal.returns-clause-rows
returns-clause-rows g c =
    arranged_made c.args.relation.now c.in_ok-arranged.arranged _ _ _ c.build.result _
    c.in_ok-arranged.ensures.classes c.as_slice.ensures c.in_ok-order.ensures
    c.into_table.ensures c.in_ok-arranged.ensures.rows c.build.ensures.table
