use Rattle.std.proofs.Common.{refl}
use Rattle.pl_rows.specs.Rows.{rows_of}
use Rattle.pl_rows.proofs.Places.{width-rows_of}
use Rattle.pl_rows.proofs.Narrowing.{has_at, there_at}
use Rattle.pl_rows.proofs.nearby.has_row_near.Goals as goal

pub returns-then-is_at : goal.returns-then-is_at
returns-then-is_at c = (
  λ t. there_at (rows_of c.args.arity c.args.count c.args.flat.now) c.args.row.now c.guessed-guess.result
      (c.is_at.ensures.0 c.if-is_at.true),
  λ m. refl,
)

pub returns : goal.returns
returns c =
    has_at c.args.arity (rows_of c.args.arity c.args.count c.args.flat.now) c.args.row.now
    c.place_near-place.result _ c.requires.ascending
    (width-rows_of c.args.arity c.args.count c.args.flat.now c.requires.whole) c.requires.width
    c.place_near-place.ensures.narrowed c.is_at-2.ensures
