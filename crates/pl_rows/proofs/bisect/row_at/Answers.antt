use Rattle.std.proofs.Common.{arith}
use Rattle.pl_rows.proofs.Places.{slice_get-rows_of}
use Rattle.pl_rows.proofs.bisect.row_at.Goals as goal

pub returns-clause-row : goal.returns-clause-row
returns-clause-row c = slice_get-rows_of c.args.arity c.args.count c.args.i _ c.args.flat.now
    c.requires.within (omega arith)
