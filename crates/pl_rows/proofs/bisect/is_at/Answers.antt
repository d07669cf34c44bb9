use Rattle.std.proofs.Common.{◌≤◌, length, arith, rules}
use Rattle.pl_rows.specs.Rows.{rows_of}
use Rattle.pl_rows.proofs.Places.{length-rows_of}
use Rattle.pl_rows.proofs.Narrowing.{at_place, at_past}
use Rattle.pl_rows.proofs.bisect.is_at.Goals as goal

pub returns-then-place-count : goal.returns-then-place-count
returns-then-place-count c =
    at_place (rows_of c.args.arity c.args.count c.args.flat.now) _ _ c.args.place _
    c.row_at.ensures.row c.eq.ensures

pub returns-else-place-count : goal.returns-else-place-count
returns-else-place-count c =
    let l = length-rows_of c.args.arity c.args.count c.args.flat.now in
    let past : length (rows_of c.args.arity c.args.count c.args.flat.now) ≤ c.args.place =
    omega (arith, l, c.if-place-count.false) in
    at_past (rows_of c.args.arity c.args.count c.args.flat.now) _ c.args.place _ past (search rules)
