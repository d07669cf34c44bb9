use Rattle.std.proofs.Common.{◌<◌, [], length, arith, refl, sym, ◌∙◌, inl, inr}
use Rattle.std.proofs.lemmas.Bool.{false≢true}
use Rattle.std.proofs.lemmas.Option.{get_or_from_slice_get}
use Rattle.std.proofs.lemmas.Slice.Eq.{bytes_eq-Decides}
use Rattle.pl_rows.specs.Rows.{rows_of}
use Rattle.pl_rows.proofs.Places.{length-rows_of}
use Rattle.pl_state.proofs.merging.behind_row.Goals as goal

pub returns-then-place-count : goal.returns-then-place-count
returns-then-place-count c =
    let l = length-rows_of c.args.arity c.args.count c.args.flat.now in
    inr ((λ stands. (let w = stands.within in omega arith)), refl)

pub returns-then-eq : goal.returns-then-eq
returns-then-eq c =
    let l = length-rows_of c.args.arity c.args.count c.args.flat.now in
    let within : c.args.place < length (rows_of c.args.arity c.args.count c.args.flat.now) = omega arith in
    inl (
      record {
        within = within;
        is = get_or_from_slice_get (rows_of c.args.arity c.args.count c.args.flat.now) c.args.place
            c.row_at.result.now [] c.row_at.ensures.row ∙
            (bytes_eq-Decides c.row_at.result.now c.args.row.now).0 (sym c.if-eq.ensures);
      },
      refl,
    )

pub returns : goal.returns
returns c =
    inr (
      (λ stands. false≢true (c.if-eq.ensures ∙ (bytes_eq-Decides c.row_at.result.now c.args.row.now).1
          (sym (get_or_from_slice_get (rows_of c.args.arity c.args.count c.args.flat.now) c.args.place
          c.row_at.result.now [] c.row_at.ensures.row) ∙ stands.is))),
      refl,
    )
