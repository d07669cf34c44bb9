use Rattle.std.proofs.Common.{◌<◌, ◌^◌, ◌∙◌, All, arith, rules}
use Rattle.std.proofs.lemmas.List.{take_all, get_or_default}
use Rattle.pl_rows.specs.Rows.{rows_of}
use Rattle.pl_rows.proofs.Places.{length-rows_of, width-rows_of, values-same}
use Rattle.pl_rows.proofs.Sorting.{sliced_more, sorted_ascending, sorted_same, sorted_width, width_from_map}
use Rattle.pl_rows.proofs.sort.sorted_slices.Goals as goal

pub loop-i-preserved : goal.loop-i-preserved
loop-i-preserved c = rw c.in_ok-push.ensures.items
    (sliced_more _ _ _ _ c.loop-i.invariant c.row_at.ensures.row)

pub joined-requires : goal.joined-requires
joined-requires c =
    let all = c.loop-i.invariant ∙ take_all c.loop-i.i (rows_of c.args.arity c.args.count c.args.flat.now)
    (omega (arith, length-rows_of c.args.arity c.args.count c.args.flat.now)) in
    rw c.as_slice-distinct.ensures.value
    (sorted_width c.args.arity _ _ _ (width_from_map c.args.arity _ _ all (width-rows_of _ _ _ c.requires))
    c.sort_unstable.ensures.permutation c.dedup.ensures.filtered)

pub returns-clause-ascending : goal.returns-clause-ascending
returns-clause-ascending c =
    rw (c.in_ok-flat.ensures.rows, c.as_slice-distinct.ensures.value)
    (sorted_ascending _ _ c.sort_unstable.ensures.sorted c.dedup.ensures.filtered)

same : goal.returns-clause-same
same c =
    let all = c.loop-i.invariant ∙ take_all c.loop-i.i (rows_of c.args.arity c.args.count c.args.flat.now)
    (omega (arith, length-rows_of c.args.arity c.args.count c.args.flat.now)) in
    rw (c.in_ok-flat.ensures.rows, c.as_slice-distinct.ensures.value)
    (sorted_same _ _ _ _ all c.sort_unstable.ensures.permutation c.dedup.ensures.filtered)

pub returns-clause-same : goal.returns-clause-same
returns-clause-same c = same c

pub returns-clause-values : goal.returns-clause-values
returns-clause-values c =
    let fits : All (λ value. value < 2 ^ 32) c.args.flat.now =
    λ k d l. rw (get_or_default c.args.flat.now k d 0 l) (search rules) in
    values-same (λ value. value < 2 ^ 32) c.args.arity _ _ _ _ c.in_ok-flat.ensures.whole fits (same c)
