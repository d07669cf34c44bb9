use Rattle.std.proofs.Common.{◌≡◌, length, rules}
use Rattle.pl_normal.proofs.KindLemmas.{type_table_is}
use Rattle.pl_normal.proofs.kinds.type_table.Goals as goal

pub returns : goal.returns
returns c =
    let many : c.len-count.result ≡ length c.in_ok-flat.flat.items = search rules in
    type_table_is c.args.task.now c.args.types.now c.in_ok-flat.flat.items c.len-count.result
    c.from_rows.result c.in_ok-flat.ensures many c.from_rows.ensures.arity c.from_rows.ensures.rows
    c.from_rows.ensures.same
