use Rattle.pl_normal.specs.Guards.{types_at}
use Rattle.pl_normal.proofs.Asking.{kind_objects}
use Rattle.pl_normal.proofs.query.source_table.Goals as goal

pub returns-in-Kind-clause-objects : goal.returns-in-Kind-clause-objects
returns-in-Kind-clause-objects c =
    kind_objects c.args.query.now.task.now (types_at c.args.query.now.schema.now.parameters
    c.in-Kind.parameter) c.type_table_at.result.now
    (c.type_table_at.ensures c.args.query.now.schema.now c.requires.query.found)
