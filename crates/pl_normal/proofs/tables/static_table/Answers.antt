use Rattle.pl_normal.proofs.Tabling.{definition_read, gathered_table}
use Rattle.pl_normal.proofs.tables.static_table.Goals as goal

pub returns : goal.returns
returns c =
    let found = definition_read c.args.task.now.predicates c.as_slice.result.now c.args.predicate
    c.index-as_slice-predicate.result c.as_slice.ensures c.requires.within
    c.index-as_slice-predicate.is in
    gathered_table c.args.task.now c.args.predicate c.index-as_slice-predicate.result c.args.builder
    c.in_ok-into_table.field-0 found c.if-not-definition.false
    (c.requires.rows c.index-as_slice-predicate.result found c.if-not-definition.false)
    c.in_ok-into_table.ensures.arity c.in_ok-into_table.ensures.rows c.in_ok-into_table.ensures.same
