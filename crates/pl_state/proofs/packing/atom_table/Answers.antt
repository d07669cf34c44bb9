use Rattle.pl_state.proofs.Packings.{table_along}
use Rattle.pl_state.proofs.packing.atom_table.Goals as goal

pub returns : goal.returns
returns c =
    table_along c.args.predicate c.args.arity c.in_ok-count.count c.args.atoms.now c.in_ok-count.flat.items
    c.from_rows.result
    (c.in_ok-count.ensures.rows) c.from_rows.ensures.arity c.from_rows.ensures.rows c.from_rows.ensures.same
