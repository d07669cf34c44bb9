use Rattle.pl_normal.proofs.Asking.{fluent_here, static_here}
use Rattle.pl_normal.proofs.query.true_atoms.Goals as goal

pub returns-in-Some-clause-rows : goal.returns-in-Some-clause-rows
returns-in-Some-clause-rows c =
    (fluent_here c.args._task.now c.args.tables.now c.args.predicate c.index-tables-predicate.result
    c.in-Some.table.now c.requires.tables
    c.requires.predicate c.index-tables-predicate.is c.in-Some.ensures.value).rows

pub returns-in-Some-as_ref-clause-rows : goal.returns-in-Some-as_ref-clause-rows
returns-in-Some-as_ref-clause-rows c =
    (static_here c.args._task.now c.args.statics.now c.args.tables.now c.args.predicate
    c.index-statics-predicate.result c.in-Some-as_ref.table.now
    c.requires.statics c.requires.tables c.requires.predicate c.index-statics-predicate.is
    c.in-Some-as_ref.ensures.value).rows

pub returns-in-Some-as_ref-clause-objects : goal.returns-in-Some-as_ref-clause-objects
returns-in-Some-as_ref-clause-objects c =
    (static_here c.args._task.now c.args.statics.now c.args.tables.now c.args.predicate
    c.index-statics-predicate.result c.in-Some-as_ref.table.now
    c.requires.statics c.requires.tables c.requires.predicate c.index-statics-predicate.is
    c.in-Some-as_ref.ensures.value).objects
