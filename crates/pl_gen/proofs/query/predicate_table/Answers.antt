use Rattle.pl_gen.proofs.Asking.{tables_given, row_true}
use Rattle.pl_gen.proofs.query.predicate_table.Goals as goal

pub predicate_table-requires-clause-tables : goal.predicate_table-requires-clause-tables
predicate_table-requires-clause-tables c =
    tables_given c.args.query.now.normal.now c.args.query.now.words.now c.args.query.now.tables.now
    c.as_slice.result.now c.as_slice.ensures c.requires.query.tables

pub returns-clause-rows : goal.returns-clause-rows
returns-clause-rows c =
    row_true c.args.query.now.normal.now c.args.query.now.words.now c.args.query.now.tables.now
    c.as_slice.result.now c.args.predicate c.predicate_table.result.now.rows c.as_slice.ensures
    c.requires.query.tables c.predicate_table.ensures.rows
