use Rattle.std.proofs.Common.{length, ap, ◌∙◌}
use Rattle.pl_normal.proofs.Asking.{values_wide}
use Rattle.pl_gen.proofs.guards.is_true.Goals as goal

pub has-requires : goal.has-requires
has-requires g c =
    ap length c.as_slice.ensures
    ∙ values_wide c.args.query.now.normal.now c.args.atom.now.predicate
    (length c.args.atom.now.objects) c.predicate_table-table.result.now.arity c.requires.atom.predicate
    c.requires.atom.arity c.predicate_table-table.ensures.arity
