use Rattle.pl_normal.proofs.Forms.{schema_of, guards_are}
use Rattle.std.proofs.Common.{◌∙◌}
use Rattle.pl_gen.proofs.entry.entry_of.Goals as goal

pub guards_hold-requires-clause-guards : goal.guards_hold-requires-clause-guards
guards_hold-requires-clause-guards g c =
    guards_are c.args.query.now.normal.now c.args.query.now.schema.now c.as_slice.result.now
    (schema_of c.args.query.now.normal.now c.args.query.now.number c.args.query.now.schema.now
    c.requires.query.found) (c.as_slice.ensures ∙ c.requires.form.guards)
