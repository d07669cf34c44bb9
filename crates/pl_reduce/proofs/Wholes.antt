-- A whole run of the reducer: the relations arranged, reduced and stored are the reduction of those that were
-- fixed and given.
use Rattle.std.proofs.Common.{◌≡◌, ◌⊎◌, ◌↔◌, ◌+◌, ◌-◌, ◌*◌, ◌<◌, ◌≤◌, ◌^◌, ℕ, zero, suc, List, [], ◌∷◌}
use Rattle.std.proofs.Common.{Option, None, Some, length, map, slice_index, Contains, All, refl, sym, ap, ◌∙◌}
use Rattle.std.proofs.Common.{subst, inl, inr, arith}
use Rattle.std.proofs.Math.Nat.{mul-le-mul_left}
use Rattle.std.proofs.lemmas.List.{length-map}
use Rattle.pl_join.specs.Relation.{ClassRows}
use Rattle.pl_join.specs.Keyed.{KeyedRows}
use Rattle.pl_hyper.specs.Ears.{Removal, IsWalkable}
use Rattle.pl_hyper.specs.ClassOrder.{class_order, IsClass}
use Rattle.pl_reduce.specs.declared.reduced.Stored.{Stored}
use Rattle.pl_reduce.specs.Plan.{relation_at, AreColumns}
use Rattle.pl_reduce.specs.PlanNodes.{AreParentNodes}
use Rattle.pl_reduce.specs.Passes.{rows_at, total_rows, AreParents, AreReduced, IsPassedDown}
use Rattle.pl_reduce.specs.Recipes.{option_at, chosen, relations_with}
use Rattle.pl_reduce.specs.Lent.{keyed_at, lent_of, nodes_with, AreThere, own_rows}
use Rattle.pl_reduce.specs.Arranged.{AreArrangedBelow, key_width}
use Rattle.pl_reduce.specs.Reduced.{IsReduced, IsReductionOf}
use Rattle.pl_reduce.specs.Kept.{node_of, AreStored}
use Rattle.pl_reduce.specs.Runs.{IsRun}
use Rattle.pl_reduce.specs.Fixing.{AreLentOf, IsPlan}
use Rattle.pl_reduce.proofs.Options.{relations_at, many_with, lent_mapped, own_most, some_within, all_given}
use Rattle.pl_reduce.proofs.Reductions.{AreBegun, AreMade, all_held, begun_parents, made_columns}
use Rattle.pl_reduce.proofs.Reductions.{made_reduced, made_reduction, total_fewer}
use Rattle.pl_reduce.proofs.Beginnings.{AreRelationsOf, some_or, given_at, fixed_at, begun, split_nodes}
use Rattle.pl_reduce.proofs.Beginnings.{over_plan}

-- ---- one call after another

some_none : {X : Type 0} (r : ClassRows) (o : Option ClassRows) → o ≡ Some r → o ≡ None → X
some_none r o e f = absurd (not_none r (sym e ∙ f))
  where
    not_none : (r : ClassRows) → Some r ≡ None → ⊥
    not_none r e = cc

pub there_arranged : (order : List ℕ) (lent : List (Option KeyedRows))
    (own arranged : List (Option ClassRows)) → AreArrangedBelow order own arranged (length own)
    → AreThere lent own → AreThere lent arranged
there_arranged order lent own arranged is there k l none = here k (omega (arith, l, is.many)) none
    (some_or (option_at own k))
  where
    here : (k : ℕ) → k < length own → option_at arranged k ≡ None → (option_at own k ≡ None)
        ⊎ ((r : ClassRows) × (option_at own k ≡ Some r)) → (q : KeyedRows) × (keyed_at lent k ≡ Some q)
    here k l none (inl was) = there k l was
    here zero l none (inr (r, e)) = some_none r (option_at arranged 0) (is.root ∙ e) none
    here (suc i) l none (inr (r, e)) = let (s, at, for) = is.some (suc i) r (omega arith) l e in
        some_none s (option_at arranged (suc i)) at none

nodes_fewer_at : (order : List ℕ) (lent : List (Option KeyedRows)) (own arranged : List (Option ClassRows))
    (k : ℕ) → AreArrangedBelow order own arranged (length own) → k < length own → (option_at own k ≡ None)
    ⊎ ((r : ClassRows) × (option_at own k ≡ Some r))
    → rows_at (nodes_with lent arranged) k ≤ rows_at (nodes_with lent own) k
nodes_fewer_at order lent own arranged k is l (inl none) =
    let new : relation_at (nodes_with lent arranged) k ≡ chosen None (option_at (map lent_of lent) k) =
    relations_at (map lent_of lent) arranged k (omega (arith, l, is.many))
    ∙ ap (λ o. chosen o (option_at (map lent_of lent) k)) (is.none k none) in
    let old : relation_at (nodes_with lent own) k ≡ chosen None (option_at (map lent_of lent) k) =
    relations_at (map lent_of lent) own k l ∙ ap (λ o. chosen o (option_at (map lent_of lent) k)) none in
    omega (arith, ap (λ (r : ClassRows). length r.rows) (new ∙ sym old))
nodes_fewer_at order lent own arranged zero is l (inr (r, e)) =
    let new = given_at (map lent_of lent) arranged 0 r (omega (arith, l, is.many)) (is.root ∙ e) in
    let old = given_at (map lent_of lent) own 0 r l e in
    omega (arith, ap (λ (r : ClassRows). length r.rows) (new ∙ sym old))
nodes_fewer_at order lent own arranged (suc i) is l (inr (r, e)) =
    let (s, at, for) = is.some (suc i) r (omega arith) l e in
    let new = given_at (map lent_of lent) arranged (suc i) s (omega (arith, l, is.many)) at in
    let old = given_at (map lent_of lent) own (suc i) r l e in
    omega (
      arith,
      ap (λ (r : ClassRows). length r.rows) new,
      ap (λ (r : ClassRows). length r.rows) old,
      for.fewer,
    )

pub nodes_fewer : (order : List ℕ) (lent : List (Option KeyedRows)) (own arranged : List (Option ClassRows))
    → AreArrangedBelow order own arranged (length own)
    → total_rows (nodes_with lent arranged) ≤ total_rows (nodes_with lent own)
nodes_fewer order lent own arranged is =
    total_fewer (nodes_with lent arranged) (nodes_with lent own)
    (many_with (map lent_of lent) arranged ∙ is.many ∙ sym (many_with (map lent_of lent) own))
    (λ k l. nodes_fewer_at order lent own arranged k is (omega (arith, l, many_with (map lent_of lent) own))
    (some_or (option_at own k)))

-- one time for arranging, three times for each node but the root, one time for storing
three_times : (n total start one two three : ℕ) → one ≤ start + total → two ≤ one + 3 * n * total
    → three ≤ two + total → three ≤ start + (3 * (n + 1) - 1) * total
three_times n total start one two three a b c =
    let e : 3 * (n + 1) - 1 ≡ 3 * n + 2 = omega arith in
    let f : (3 * n + 2) * total ≡ 3 * n * total + 2 * total = grind arith in
    rw e (omega (arith, f))

passes_cost : (order : List ℕ) (lent : List (Option KeyedRows)) (own arranged : List (Option ClassRows))
    (one two : ℕ) → AreArrangedBelow order own arranged (length own)
    → two ≤ one + 3 * (length arranged - 1) * total_rows (nodes_with lent arranged)
    → two ≤ one + 3 * (length own - 1) * total_rows (nodes_with lent own)
passes_cost order lent own arranged one two is b =
    let fewer = nodes_fewer order lent own arranged is in
    let times : 3 * (length own - 1) * total_rows (nodes_with lent arranged) ≤ 3 * (length own - 1)
    * total_rows (nodes_with lent own) = mul-le-mul_left (3 * (length own - 1)) fewer in
    let b' : two ≤ one + 3 * (length own - 1) * total_rows (nodes_with lent arranged) =
    subst (λ k. two ≤ one + 3 * (k - 1) * total_rows (nodes_with lent arranged)) is.many b in
    omega (arith, times, b')

with_one : (n total start three : ℕ) → 0 < n → three ≤ start + (3 * (n - 1 + 1) - 1) * total
    → three ≤ start + (3 * n - 1) * total
with_one n total start three some l = let e : n - 1 + 1 ≡ n = omega arith in
    subst (λ m. three ≤ start + (3 * m - 1) * total) e l

-- where the arrangement ends early, and where the passes do
pub cost_of_one : (lent : List (Option KeyedRows)) (own : List (Option ClassRows)) (start one : ℕ)
    → 0 < length own → one ≤ start + own_rows own → one ≤ start + (3 * length own - 1) * total_rows
    (nodes_with lent own)
cost_of_one lent own start one some a =
    let most = own_most (map lent_of lent) own in
    with_one (length own) (total_rows (nodes_with lent own)) start one some
    (three_times (length own - 1) (total_rows (nodes_with lent own)) start one one one
    (omega (arith, a, most)) (omega arith) (omega arith))

pub cost_of_two : (order : List ℕ) (lent : List (Option KeyedRows)) (own arranged : List (Option ClassRows))
    (start one two : ℕ) → 0 < length own → AreArrangedBelow order own arranged (length own)
    → one ≤ start + own_rows own → two ≤ one + 3 * (length arranged - 1) * total_rows
    (nodes_with lent arranged) → two ≤ start + (3 * length own - 1) * total_rows (nodes_with lent own)
cost_of_two order lent own arranged start one two some is a b =
    let most = own_most (map lent_of lent) own in
    with_one (length own) (total_rows (nodes_with lent own)) start two some
    (three_times (length own - 1) (total_rows (nodes_with lent own)) start one two two
    (omega (arith, a, most)) (passes_cost order lent own arranged one two is b) (omega arith))

pub cost_of_all : (order : List ℕ) (lent : List (Option KeyedRows))
    (own arranged passed : List (Option ClassRows)) (start one two three : ℕ) → 0 < length own
    → AreArrangedBelow order own arranged (length own)
    → AreReduced (nodes_with lent arranged) (nodes_with lent passed) → one ≤ start + own_rows own
    → two ≤ one + 3 * (length arranged - 1) * total_rows (nodes_with lent arranged)
    → three ≤ two + own_rows passed → three ≤ start + (3 * length own - 1) * total_rows (nodes_with lent own)
cost_of_all order lent own arranged passed start one two three some is red a b c =
    let most = own_most (map lent_of lent) own in
    let last = own_most (map lent_of lent) passed in
    let fewer = nodes_fewer order lent own arranged is in
    let fewest = total_fewer (nodes_with lent passed) (nodes_with lent arranged) red.many
    (λ k l. red.fewer k) in
    with_one (length own) (total_rows (nodes_with lent own)) start three some
    (three_times (length own - 1) (total_rows (nodes_with lent own)) start one two three
    (omega (arith, a, most)) (passes_cost order lent own arranged one two is b)
    (omega (arith, last, fewer, fewest, c)))

-- ---- what the calls are asked

pub run_held : (plan : Removal) (fixed given : List (Option ClassRows)) (k : ℕ) (r : ClassRows)
    → IsWalkable plan → ((c : ℕ) → Contains (class_order plan) c ↔ IsClass plan.edges c)
    → AreRelationsOf plan fixed given → 0 < k → option_at given k ≡ Some r
    → All (Contains (class_order plan)) r.classes
run_held plan fixed given k r walk classes are some e =
    let l = some_within given k r e in
    let (root, rest, split) = split_nodes (relations_with fixed given)
    (omega (arith, many_with fixed given, are.many)) in
    subst (λ (x : ClassRows). All (Contains (class_order plan)) x.classes)
    (ap (λ xs. relation_at xs k) (sym split) ∙ given_at fixed given k r l e)
    (all_held plan root rest (class_order plan) (over_plan plan fixed given root rest are split) walk classes
    k some (omega (arith, l, many_with fixed given, ap length split)))

pub run_parents : (plan : Removal) (fixed given arranged : List (Option ClassRows))
    (lent : List (Option KeyedRows)) (parents : List ℕ) → IsWalkable plan
    → ((e : ℕ) → slice_index plan.edges e < 2 ^ 64)
    → ((c : ℕ) → Contains (class_order plan) c ↔ IsClass plan.edges c) → AreParentNodes plan parents
    → AreRelationsOf plan fixed given → AreLentOf plan fixed lent
    → AreArrangedBelow (class_order plan) given arranged (length given)
    → AreParents parents (nodes_with lent arranged)
run_parents plan fixed given arranged lent parents walk words classes nodes are lends is =
    let (root, rest, split) = split_nodes (relations_with fixed given)
    (omega (arith, many_with fixed given, are.many)) in
    begun_parents plan root rest (nodes_with lent arranged) parents (class_order plan) words
    (over_plan plan fixed given root rest are split) walk classes
    (subst (λ g. AreBegun (class_order plan) g (nodes_with lent arranged)) split
    (begun plan fixed given arranged lent are lends is)) nodes

-- ---- what a run makes

abbrev pub bare : Removal → Removal
bare plan = record { edges = plan.edges; removed = plan.removed; core = [] }

pub same_width : (plan : Removal) (i : ℕ) (classes : List ℕ)
    → key_width (bare plan) i classes ≡ key_width plan i classes
same_width plan zero classes = refl
same_width plan (suc i) classes = refl

bare_stored : (plan : Removal) (relations : List ClassRows) (stored : List Stored)
    → AreStored (bare plan) relations stored → AreStored plan relations stored
bare_stored plan relations stored are = record {
  many = are.many;
  nodes = λ i l. are.nodes i l ∙ ap (λ width. record { relation = relation_at relations i; width = width })
      (same_width plan i (relation_at relations i).classes);
  relations_are = are.relations_are;
}

run_made : (plan : Removal) (fixed given : List (Option ClassRows)) (lent : List (Option KeyedRows))
    (stored : List Stored) (root : ClassRows) (rest : List ClassRows) → AreRelationsOf plan fixed given
    → AreLentOf plan fixed lent → (run : IsRun (bare plan) (class_order plan) lent given stored)
    → relations_with fixed given ≡ root ∷ rest → AreMade plan root rest
    (nodes_with lent run.arranged) run.passed stored
run_made plan fixed given lent stored root rest are lends run split = record {
  over = over_plan plan fixed given root rest are split;
  are_begun = subst (λ g. AreBegun (class_order plan) g (nodes_with lent run.arranged)) split
      (begun plan fixed given run.arranged lent are lends run.are_arranged);
  are_passed = run.are_passed;
  are_stored = bare_stored plan run.passed stored run.are_stored;
}

pub run_kept : (plan : Removal) (fixed given : List (Option ClassRows)) (lent : List (Option KeyedRows))
    (stored : List Stored) (classes parents : List ℕ) → IsPlan plan classes parents
    → AreRelationsOf plan fixed given → AreLentOf plan fixed lent
    → IsRun (bare plan) (class_order plan) lent given stored
    → IsReduced (record { classes = class_order plan; nodes = map node_of stored })
run_kept plan fixed given lent stored classes parents is are lends run =
    let (root, rest, split) = split_nodes (relations_with fixed given)
    (omega (arith, many_with fixed given, are.many)) in
    made_reduced plan root rest (nodes_with lent run.arranged) run.passed stored
    (run_made plan fixed given lent stored root rest are lends run split) is.removal is.walkable is.once
    is.below

pub run_columns : (plan : Removal) (fixed given : List (Option ClassRows)) (lent : List (Option KeyedRows))
    (stored : List Stored) → AreRelationsOf plan fixed given → AreLentOf plan fixed lent
    → IsRun (bare plan) (class_order plan) lent given stored → AreColumns plan (map node_of stored)
run_columns plan fixed given lent stored are lends run =
    let (root, rest, split) = split_nodes (relations_with fixed given)
    (omega (arith, many_with fixed given, are.many)) in
    made_columns plan root rest (nodes_with lent run.arranged) run.passed stored
    (run_made plan fixed given lent stored root rest are lends run split)

pub run_reduction : (plan : Removal) (fixed given : List (Option ClassRows)) (lent : List (Option KeyedRows))
    (stored : List Stored) → AreRelationsOf plan fixed given → AreLentOf plan fixed lent
    → IsRun (bare plan) (class_order plan) lent given stored
    → IsReductionOf (relations_with fixed given)
    (record { classes = class_order plan; nodes = map node_of stored })
run_reduction plan fixed given lent stored are lends run =
    let (root, rest, split) = split_nodes (relations_with fixed given)
    (omega (arith, many_with fixed given, are.many)) in
    subst (λ g. IsReductionOf g (record { classes = class_order plan; nodes = map node_of stored }))
    (sym split)
    (made_reduction plan root rest (nodes_with lent run.arranged) run.passed stored
    (run_made plan fixed given lent stored root rest are lends run split))

pub run_is : (plan : Removal) (order : List ℕ) (lent : List (Option KeyedRows))
    (given arranged passed : List (Option ClassRows)) (stored : List Stored)
    → AreArrangedBelow order given arranged (length given)
    → IsPassedDown (nodes_with lent arranged) (nodes_with lent passed) 0
    → AreStored plan (nodes_with lent passed) stored → IsRun plan order lent given stored
run_is plan order lent given arranged passed stored is down are = record {
  arranged = arranged;
  passed = nodes_with lent passed;
  are_arranged = is;
  are_passed = down;
  are_stored = are;
}

pub arranged_moved : (order classes : List ℕ) (nodes fixed arranged : List (Option ClassRows))
    → classes ≡ order → nodes ≡ fixed → AreArrangedBelow classes nodes arranged (length nodes)
    → AreArrangedBelow order fixed arranged (length fixed)
arranged_moved order classes nodes fixed arranged ec en is =
    subst (λ xs. AreArrangedBelow order xs arranged (length xs)) en
    (subst (λ os. AreArrangedBelow os nodes arranged (length nodes)) ec is)

-- what is lent has no more rows than what is fixed
lent_rows_at : (plan : Removal) (fixed given : List (Option ClassRows)) (lent : List (Option KeyedRows))
    (k : ℕ) → AreRelationsOf plan fixed given → AreLentOf plan fixed lent → k < length given
    → (option_at given k ≡ None) ⊎ ((r : ClassRows) × (option_at given k ≡ Some r))
    → rows_at (nodes_with lent given) k ≤ rows_at (relations_with fixed given) k
lent_rows_at plan fixed given lent k are lends l (inl none) =
    let (r, e) = are.either k l none in
    let (q, at, for) = lends.some k r e in
    let new = fixed_at (map lent_of lent) given k q.relation l none (lent_mapped lent k ∙ ap lent_of at) in
    let old = fixed_at fixed given k r l none e in
    omega (
      arith,
      ap (λ (x : ClassRows). length x.rows) new,
      ap (λ (x : ClassRows). length x.rows) old,
      for.fewer,
    )
lent_rows_at plan fixed given lent k are lends l (inr (r, e)) =
    let new = given_at (map lent_of lent) given k r l e in
    let old = given_at fixed given k r l e in
    omega (arith, ap (λ (x : ClassRows). length x.rows) (new ∙ sym old))

pub lent_cost : (plan : Removal) (fixed given : List (Option ClassRows)) (lent : List (Option KeyedRows))
    (start steps : ℕ) → AreRelationsOf plan fixed given → AreLentOf plan fixed lent
    → steps ≤ start + (3 * length given - 1) * total_rows (nodes_with lent given)
    → steps ≤ start + (3 * length given - 1) * total_rows (relations_with fixed given)
lent_cost plan fixed given lent start steps are lends l =
    let fewer = total_fewer (nodes_with lent given) (relations_with fixed given)
    (many_with (map lent_of lent) given ∙ sym (many_with fixed given))
    (λ k m. lent_rows_at plan fixed given lent k are lends (omega (arith, m, many_with fixed given))
    (some_or (option_at given k))) in
    let times : (3 * length given - 1) * total_rows (nodes_with lent given) ≤ (3 * length given - 1)
    * total_rows (relations_with fixed given) = mul-le-mul_left (3 * length given - 1) fewer in
    omega (arith, times, l)

-- where all are given
pub given_cost : (root : ClassRows) (rest : List ClassRows) (start steps : ℕ)
    → steps ≤ start + (3 * length (map Some (root ∷ rest)) - 1) * total_rows
    (relations_with [] (map Some (root ∷ rest))) → steps ≤ start + (3 * (length rest + 1) - 1) * total_rows
    (root ∷ rest)
given_cost root rest start steps l =
    let many : length (map Some (root ∷ rest)) ≡ length rest + 1 =
    omega (arith, length-map (root ∷ rest) (λ (r : ClassRows). Some r)) in
    subst (λ n. steps ≤ start + (3 * n - 1) * total_rows (root ∷ rest)) many
    (subst (λ xs. steps ≤ start + (3 * length (map Some (root ∷ rest)) - 1) * total_rows xs)
    (all_given (root ∷ rest)) l)
