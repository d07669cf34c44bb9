use Rattle.std.proofs.Common.{◌∙◌, ap}
use Rattle.pl_normal.specs.declared.form.Edge.{Edge}
use Rattle.pl_normal.proofs.Forms.{schema_of}
use Rattle.pl_normal.proofs.Relating.{slots_here}
use Rattle.pl_normal.proofs.relations.edge_slots.Goals as goal

pub returns-clause-below : goal.returns-clause-below
returns-clause-below c =
    slots_here c.args._query.now.task.now c.args._query.now.schema.now c.args.form.now.edges c.args.number
    c.as_slice.result.now
    (schema_of c.args._query.now.task.now c.args._query.now.number c.args._query.now.schema.now
    c.requires.query.found) c.requires.form.edges c.requires.number
    (c.as_slice.ensures ∙ ap (λ (x : Edge). x.slots) c.edge_of.ensures)
