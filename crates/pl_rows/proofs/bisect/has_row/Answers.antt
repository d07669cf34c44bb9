use Rattle.std.proofs.Common.{sym}
use Rattle.pl_rows.specs.Rows.{rows_of}
use Rattle.pl_rows.proofs.Places.{length-rows_of, width-rows_of}
use Rattle.pl_rows.proofs.Narrowing.{has_at, narrowed_none}
use Rattle.pl_rows.proofs.bisect.has_row.Goals as goal

pub bisect-place-requires-clause-narrowed : goal.bisect-place-requires-clause-narrowed
bisect-place-requires-clause-narrowed c =
    narrowed_none _ _ _ (sym (length-rows_of c.args.arity c.args.count c.args.flat.now))

pub returns : goal.returns
returns c =
    has_at c.args.arity (rows_of c.args.arity c.args.count c.args.flat.now) c.args.row.now
    c.bisect-place.result _ c.requires.ascending (width-rows_of c.args.arity c.args.count c.args.flat.now
    c.requires.whole) c.requires.width c.bisect-place.ensures.narrowed c.is_at.ensures
