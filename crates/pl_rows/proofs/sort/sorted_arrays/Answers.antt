use Rattle.std.proofs.Common.{◌<◌, ◌^◌, ◌∙◌, All, ap, length, rules}
use Rattle.std.proofs.Math.Nat.{mul_comm}
use Rattle.std.proofs.lemmas.List.{get_or_default}
use Rattle.pl_rows.proofs.Places.{values-same}
use Rattle.pl_rows.proofs.Sorting.{sorted_arrays}
use Rattle.pl_rows.proofs.sort.sorted_arrays.Goals as goal

pub returns-clause-ascending : goal.returns-clause-ascending
returns-clause-ascending g c =
    (sorted_arrays g.row.N c.args.count c.args.flat.now _ _ _ _ _ c.requires.some c.requires.whole
    (c.in_ok-rows.ensures.items ∙ c.as_chunks.ensures.front) c.in_ok-sort.ensures.permutation
    c.in_ok-sort.ensures.sorted c.dedup.ensures.filtered c.as_slice-distinct.ensures.value
    (c.in_ok-flat.ensures.items ∙ c.as_flattened.ensures.value)).ascending

same : goal.returns-clause-same
same g c =
    (sorted_arrays g.row.N c.args.count c.args.flat.now _ _ _ _ _ c.requires.some c.requires.whole
    (c.in_ok-rows.ensures.items ∙ c.as_chunks.ensures.front) c.in_ok-sort.ensures.permutation
    c.in_ok-sort.ensures.sorted c.dedup.ensures.filtered c.as_slice-distinct.ensures.value
    (c.in_ok-flat.ensures.items ∙ c.as_flattened.ensures.value)).same

pub returns-clause-same : goal.returns-clause-same
returns-clause-same g c = same g c

pub returns-clause-values : goal.returns-clause-values
returns-clause-values g c =
    let fits : All (λ value. value < 2 ^ 32) c.args.flat.now =
    λ k d l. rw (get_or_default c.args.flat.now k d 0 l) (search rules) in
    values-same (λ value. value < 2 ^ 32) g.row.N _ _ _ _ (ap length c.in_ok-flat.ensures.items ∙
    c.as_flattened.ensures.len ∙ mul_comm (length c.as_slice-distinct.result.now) g.row.N) fits (same g c)
