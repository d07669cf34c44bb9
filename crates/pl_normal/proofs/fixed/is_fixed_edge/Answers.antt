use Rattle.std.proofs.Common.{◌<◌, ◌∙◌, length, subst, sym}
use Rattle.pl_normal.proofs.Forms.{schema_of}
use Rattle.pl_normal.proofs.Unchanging.{fixed_by_tables}
use Rattle.pl_normal.proofs.fixed.is_fixed_edge.Goals as goal

pub returns : goal.returns
returns c =
    c.is_fixed_among.ensures
    ∙ fixed_by_tables c.args.query.now.task.now c.args.query.now.schema.now c.args.query.now.statics.now
    c.as_slice.result.now c.as_slice-2.result.now
    c.args.number c.requires.query.statics (schema_of c.args.query.now.task.now c.args.query.now.number
    c.args.query.now.schema.now c.requires.query.found)
    (c.as_slice.ensures ∙ c.requires.form.edges) (c.as_slice-2.ensures ∙ c.requires.form.local)
    (subst (λ xs. c.args.number < length xs) (sym c.as_slice.ensures) c.requires.number)
