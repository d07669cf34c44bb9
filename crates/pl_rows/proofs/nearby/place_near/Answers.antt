use Rattle.std.proofs.Common.{false, sym}
use Rattle.pl_rows.proofs.Places.{length-rows_of}
use Rattle.pl_rows.proofs.Narrowing.{narrowed_none, narrowed_up, narrowed_down}
use Rattle.pl_rows.proofs.nearby.place_near.Goals as goal

pub place_behind-requires-clause-narrowed : goal.place_behind-requires-clause-narrowed
place_behind-requires-clause-narrowed c =
    narrowed_none _ _ _ (sym (length-rows_of c.args.arity c.args.count c.args.flat.now))

pub place_ahead-requires-clause-narrowed : goal.place_ahead-requires-clause-narrowed
place_ahead-requires-clause-narrowed c =
    narrowed_up false c.args.row.now _ 0 _ _ _ c.requires.ascending c.row_at.ensures.row
    (sym c.if-is_before.ensures)
    (narrowed_none _ _ _ (sym (length-rows_of c.args.arity c.args.count c.args.flat.now)))

pub place_behind-requires-else-is_before-clause-narrowed :
    goal.place_behind-requires-else-is_before-clause-narrowed
place_behind-requires-else-is_before-clause-narrowed c =
    narrowed_down false c.args.row.now _ _ c.args.count _ _ c.requires.ascending c.row_at.ensures.row
    (sym c.if-is_before.ensures)
    (narrowed_none _ _ _ (sym (length-rows_of c.args.arity c.args.count c.args.flat.now)))
