use Rattle.std.proofs.Common.{◌≡◌, ◌+◌, ◌-◌, ◌*◌, ◌/◌, ◌<◌, ◌≤◌, ℕ, List, All, length, take, ap, sym, ◌∙◌}
use Rattle.std.proofs.Common.{slice_range, arith}
use Rattle.std.specs.List.{flat_map, concat}
use Rattle.std.proofs.lemmas.List.{take_all}
use Rattle.pl_rows.specs.Rows.{Rows, rows_of}
use Rattle.pl_join.specs.Source.{joined_with}
use Rattle.pl_join.proofs.Joining.{joined_more, joined_filled, joined_all, width-joined}
use Rattle.pl_join.proofs.Loops.{same_along}
use Rattle.pl_join.proofs.joins.joined_rows.Goals as goal

-- where all rows are joined, what is gathered are whole rows, and these are the joined ones
all_joined : (others left : List (List ℕ)) (columns flat : List ℕ) (m n wide deep width i values : ℕ)
    → All (λ row. length row ≡ m) left → All (λ row. length row ≡ n) others → length columns < n
    → wide ≡ m → deep ≡ n → width ≡ length columns → length left ≤ i
    → flat ≡ concat (flat_map (joined_with others columns) (take i left)) → values ≡ length flat
    → (values ≡ (wide + (deep - width)) * (values / (wide + (deep - width))))
    × (rows_of (wide + (deep - width)) (values / (wide + (deep - width))) flat
    ≡ flat_map (joined_with others columns) left)
all_joined others left columns flat m n wide deep width i values of_left of_others fewer w d k end made many =
    let each = width-joined others columns left m n of_left of_others in
    let some : 0 < m + (n - length columns) = omega (arith, fewer) in
    let arity : wide + (deep - width) ≡ m + (n - length columns) = omega (arith, w, d, k) in
    let filled = made ∙ ap (λ rows. concat (flat_map (joined_with others columns) rows))
    (take_all i left end) in (
      joined_filled (wide + (deep - width)) (m + (n - length columns)) values
          (flat_map (joined_with others columns) left) flat each some arity filled many,
      joined_all (wide + (deep - width)) (m + (n - length columns)) values
          (flat_map (joined_with others columns) left) flat each some arity filled many,
    )

pub loop-i-preserved : goal.loop-i-preserved
loop-i-preserved g c = record {
  key = c.pick.auto.values ∙ c.loop-i.invariant.key;
  flat = joined_more c.args.index.now.table.rows c.args.columns.now c.args.left.now.rows c.loop-i.i _
      c.row-row.result.now _ _ _ _
      c.row-row.ensures.row c.pick.ensures (c.pick.auto.values ∙ c.loop-i.invariant.key)
      (ap (λ (t : Rows). slice_range t.rows c.find-range.result.from c.find-range.result.to)
      c.table-table.ensures ∙ c.find-range.ensures.all)
      c.loop-i.invariant.flat c.in_ok-append_matches.ensures.matches;
  rise = omega (
    arith,
    c.row-row.ensures.cost,
    c.find-range.ensures.cost,
    c.append_matches.ensures.rise,
    c.loop-i.invariant.rise,
  );
}

pub from_rows-requires : goal.from_rows-requires
from_rows-requires g c = sym c.len.ensures ∙
    (all_joined c.args.index.now.table.rows c.args.left.now.rows c.args.columns.now c.loop-i.flat.items
    c.args.left.now.arity c.args.index.now.table.arity c.arity.result c.arity-2.result c.width.result
    c.loop-i.i c.len.result c.len-i-end.ensures.rows.width c.requires.rows.width
    (omega (arith, c.requires.some, c.requires.width)) c.arity.ensures
    (c.arity-2.ensures ∙ ap (λ (t : Rows). t.arity) c.table-table.ensures)
    (c.width.ensures.width ∙ sym c.requires.width) (omega (arith, c.len-i-end.ensures.len))
    c.loop-i.invariant.flat (omega (arith, c.len.ensures))).0

pub returns-clause-same : goal.returns-clause-same
returns-clause-same g c = same_along _ _ _
    (all_joined c.args.index.now.table.rows c.args.left.now.rows c.args.columns.now c.loop-i.flat.items
    c.args.left.now.arity c.args.index.now.table.arity c.arity.result c.arity-2.result c.width.result
    c.loop-i.i c.len.result c.len-i-end.ensures.rows.width c.requires.rows.width
    (omega (arith, c.requires.some, c.requires.width)) c.arity.ensures
    (c.arity-2.ensures ∙ ap (λ (t : Rows). t.arity) c.table-table.ensures)
    (c.width.ensures.width ∙ sym c.requires.width) (omega (arith, c.len-i-end.ensures.len))
    c.loop-i.invariant.flat (omega (arith, c.len.ensures))).1
    c.from_rows.ensures.same
