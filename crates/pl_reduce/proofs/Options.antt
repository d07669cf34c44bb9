-- Lists of relations that are there or not, and the relations of a join that they make together.
use Rattle.std.proofs.Common.{◌≡◌, ◌+◌, ◌*◌, ◌<◌, ◌≤◌, ℕ, zero, suc, List, [], ◌∷◌, Option, None, Some}
use Rattle.std.proofs.Common.{length, map, get_or, set, refl, sym, ap, ◌∙◌, subst, inl, inr, arith}
use Rattle.std.proofs.lemmas.List.{get_or_default, get_or-set_same, get_or-set_other, length-set}
use Rattle.std.proofs.lemmas.List.Sums.{sum_by-cons}
use Rattle.pl_hyper.proofs.Members.{same_or_not}
use Rattle.pl_join.specs.Relation.{ClassRows, IsSemijoinOf}
use Rattle.pl_join.specs.Keyed.{KeyedRows}
use Rattle.pl_reduce.specs.Plan.{relation_at}
use Rattle.pl_reduce.specs.Passes.{IsReducedBy, AreEmptied, total_rows, rows_at}
use Rattle.pl_reduce.specs.Recipes.{option_at, chosen, relations_with}
use Rattle.pl_reduce.specs.Lent.{keyed_at, lent_of, nodes_with, node_with, AreThere, IsSmaller, own_rows}
use Rattle.pl_reduce.specs.Lent.{option_rows}
use Rattle.pl_reduce.proofs.Emptied.{emptied_more}

pub none_at : (k : ℕ) → option_at [] k ≡ None
none_at zero = refl
none_at (suc k) = refl

-- the relation of a node
pub relations_at : (fixed given : List (Option ClassRows)) (k : ℕ) → k < length given
    → relation_at (relations_with fixed given) k ≡ chosen (option_at given k) (option_at fixed k)
relations_at fixed [] k l = absurd (omega arith)
relations_at [] (g ∷ given) zero l = refl
relations_at [] (g ∷ given) (suc k) l = relations_at [] given k (omega arith)
    ∙ ap (chosen (option_at given k)) (none_at k)
relations_at (f ∷ fixed) (g ∷ given) zero l = refl
relations_at (f ∷ fixed) (g ∷ given) (suc k) l = relations_at fixed given k (omega arith)

pub many_with : (fixed given : List (Option ClassRows)) → length (relations_with fixed given) ≡ length given
many_with fixed [] = refl
many_with [] (g ∷ given) = (let rest = many_with [] given in omega (arith, rest))
many_with (f ∷ fixed) (g ∷ given) = (let rest = many_with fixed given in omega (arith, rest))

pub set_with : (fixed given : List (Option ClassRows)) (k : ℕ) (r : ClassRows)
    → relations_with fixed (set given k (Some r)) ≡ set (relations_with fixed given) k r
set_with fixed [] k r = refl
set_with [] (g ∷ given) zero r = refl
set_with [] (g ∷ given) (suc k) r = ap (λ rest. chosen g None ∷ rest) (set_with [] given k r)
set_with (f ∷ fixed) (g ∷ given) zero r = refl
set_with (f ∷ fixed) (g ∷ given) (suc k) r = ap (λ rest. chosen g f ∷ rest) (set_with fixed given k r)

pub lent_mapped : (lent : List (Option KeyedRows)) (k : ℕ)
    → option_at (map lent_of lent) k ≡ lent_of (keyed_at lent k)
lent_mapped [] zero = refl
lent_mapped [] (suc k) = refl
lent_mapped (q ∷ lent) zero = refl
lent_mapped (q ∷ lent) (suc k) = lent_mapped lent k

pub with_at : (lent : List (Option KeyedRows)) (own : List (Option ClassRows)) (k : ℕ) → k < length own
    → relation_at (nodes_with lent own) k ≡ node_with lent own k
with_at lent own k l = relations_at (map lent_of lent) own k l
    ∙ ap (chosen (option_at own k)) (lent_mapped lent k)

-- what a node has
pub node_own : (lent : List (Option KeyedRows)) (own : List (Option ClassRows)) (k : ℕ) (r : ClassRows)
    → option_at own k ≡ Some r → node_with lent own k ≡ r
node_own lent own k r e = ap (λ o. chosen o (lent_of (keyed_at lent k))) e

pub node_lent : (lent : List (Option KeyedRows)) (own : List (Option ClassRows)) (k : ℕ) (q : KeyedRows)
    → option_at own k ≡ None → keyed_at lent k ≡ Some q → node_with lent own k ≡ q.relation
node_lent lent own k q e f = ap (λ o. chosen o (lent_of (keyed_at lent k))) e
    ∙ ap (λ o. chosen None (lent_of o)) f

-- one node more has a relation of its own
pub there_set : (lent : List (Option KeyedRows)) (own : List (Option ClassRows)) (i : ℕ) (r : ClassRows)
    → AreThere lent own → AreThere lent (set own i (Some r))
there_set lent own i r there k l none = elim (same_or_not k i) [
  | inl e ↦ absurd
      (not_none r (sym (get_or-set_same own k (Some r) None (omega (arith, length-set own i (Some r))))
      ∙ ap (λ n. option_at (set own n (Some r)) k) e ∙ none))
  | inr n ↦ there k (omega (arith, length-set own i (Some r)))
      (sym (get_or-set_other own i k (Some r) None n) ∙ none)
]
  where
    not_none : (r : ClassRows) → Some r ≡ None → ⊥
    not_none r e = cc

-- one relation of the nodes became its semijoin by another
set_smaller : (nodes : List ClassRows) (keep by : ℕ) (kept : ClassRows) → keep < length nodes
    → IsSmaller (relation_at nodes keep) (relation_at nodes by) kept
    → IsReducedBy nodes (set nodes keep kept) keep by
set_smaller nodes keep by kept l is = record {
  many = length-set nodes keep kept;
  others = λ k n. get_or-set_other nodes keep k kept _ n;
  classes = ap (λ (r : ClassRows). r.classes) here ∙ is.classes;
  rows = subst (λ r. IsSemijoinOf (relation_at nodes keep) (relation_at nodes by) r) (sym here) is.rows;
  fewer = omega (arith, ap (λ (r : ClassRows). length r.rows) here, is.fewer);
}
  where
    here : relation_at (set nodes keep kept) keep ≡ kept
    here = get_or-set_same nodes keep kept _ l

left_same : (nodes : List ClassRows) (keep by : ℕ) → IsSemijoinOf (relation_at nodes keep)
    (relation_at nodes by) (relation_at nodes keep) → IsReducedBy nodes nodes keep by
left_same nodes keep by semi =
    record { many = refl; others = λ k n. refl; classes = refl; rows = semi; fewer = omega arith }

pub with_smaller : (lent : List (Option KeyedRows)) (own : List (Option ClassRows)) (keep by : ℕ)
    (kept : ClassRows) → keep < length own → by < length own
    → IsSmaller (node_with lent own keep) (node_with lent own by) kept
    → IsReducedBy (nodes_with lent own) (nodes_with lent (set own keep (Some kept))) keep by
with_smaller lent own keep by kept lk lb is =
    subst (λ new. IsReducedBy (nodes_with lent own) new keep by)
    (sym (set_with (map lent_of lent) own keep kept))
    (set_smaller (nodes_with lent own) keep by kept (omega (arith, lk, many_with (map lent_of lent) own))
    (subst (λ r. IsSmaller r (relation_at (nodes_with lent own) by) kept) (sym (with_at lent own keep lk))
    (subst (λ r. IsSmaller (node_with lent own keep) r kept) (sym (with_at lent own by lb)) is)))

pub with_same : (lent : List (Option KeyedRows)) (own : List (Option ClassRows)) (keep by : ℕ)
    → keep < length own → by < length own → IsSemijoinOf (node_with lent own keep) (node_with lent own by)
    (node_with lent own keep) → IsReducedBy (nodes_with lent own) (nodes_with lent own) keep by
with_same lent own keep by lk lb semi =
    left_same (nodes_with lent own) keep by
    (subst (λ r. IsSemijoinOf r (relation_at (nodes_with lent own) by) r) (sym (with_at lent own keep lk))
    (subst (λ r. IsSemijoinOf (node_with lent own keep) r (node_with lent own keep))
    (sym (with_at lent own by lb)) semi))

-- one relation more is without its rows
pub with_emptied : (lent : List (Option KeyedRows)) (old own : List (Option ClassRows)) (i : ℕ)
    (made : ClassRows) → AreEmptied (nodes_with lent old) (nodes_with lent own) i → i < length own
    → made ≡ record { classes = (node_with lent own i).classes; rows = [] }
    → AreEmptied (nodes_with lent old) (nodes_with lent (set own i (Some made))) (i + 1)
with_emptied lent old own i made is l e =
    subst (λ new. AreEmptied (nodes_with lent old) new (i + 1)) (sym (set_with (map lent_of lent) own i made))
    (emptied_more (nodes_with lent old) (nodes_with lent own) i (relation_at (nodes_with lent own) i) made is
    (omega (arith, l, many_with (map lent_of lent) own))
    (get_or_default (nodes_with lent own) i _ _ (omega (arith, l, many_with (map lent_of lent) own)))
    (e ∙ ap (λ (r : ClassRows). record { classes = r.classes; rows = [] }) (sym (with_at lent own i l))))

pub with_rows : (lent : List (Option KeyedRows)) (own : List (Option ClassRows)) (k : ℕ) → k < length own
    → rows_at (nodes_with lent own) k ≡ length (node_with lent own k).rows
with_rows lent own k l = ap (λ (r : ClassRows). length r.rows) (with_at lent own k l)

one_more : (g f : Option ClassRows) (own : List (Option ClassRows)) (rest : List ClassRows)
    → own_rows own ≤ total_rows rest → own_rows (g ∷ own) ≤ total_rows (chosen g f ∷ rest)
one_more None f own rest l =
    omega (
      arith,
      l,
      sum_by-cons option_rows None own,
      sum_by-cons (λ (r : ClassRows). length r.rows)
          (chosen None f) rest,
    )
one_more (Some r) f own rest l =
    omega (
      arith,
      l,
      sum_by-cons option_rows (Some r) own,
      sum_by-cons
          (λ (r : ClassRows). length r.rows) r rest,
    )

-- the own relations have no more rows than all together
pub own_most : (fixed own : List (Option ClassRows)) → own_rows own ≤ total_rows (relations_with fixed own)
own_most fixed [] = omega arith
own_most [] (g ∷ own) = one_more g None own (relations_with [] own) (own_most [] own)
own_most (f ∷ fixed) (g ∷ own) = one_more g f own (relations_with fixed own) (own_most fixed own)

-- all relations given
pub all_given : (relations : List ClassRows) → relations_with [] (map Some relations) ≡ relations
all_given [] = refl
all_given (r ∷ relations) = ap (λ rest. r ∷ rest) (all_given relations)

-- a list's read
pub read_here : (own : List (Option ClassRows)) (k : ℕ) (o p : Option ClassRows) → k < length own
    → o ≡ get_or own k o → o ≡ p → option_at own k ≡ p
read_here own k o p l e f = sym (get_or_default own k o None l) ∙ sym e ∙ f

pub keyed_here : (lent : List (Option KeyedRows)) (k : ℕ) (o p : Option KeyedRows) → k < length lent
    → o ≡ get_or lent k o → o ≡ p → keyed_at lent k ≡ p
keyed_here lent k o p l e f = sym (get_or_default lent k o None l) ∙ sym e ∙ f

-- where there is one, the place is within
pub lent_within : (lent : List (Option KeyedRows)) (k : ℕ) (q : KeyedRows) → keyed_at lent k ≡ Some q
    → k < length lent
lent_within [] zero q e = absurd (none_some q e)
  where
    none_some : (q : KeyedRows) → None ≡ Some q → ⊥
    none_some q e = cc
lent_within [] (suc k) q e = absurd (none_some q e)
  where
    none_some : (q : KeyedRows) → None ≡ Some q → ⊥
    none_some q e = cc
lent_within (o ∷ lent) zero q e = omega arith
lent_within (o ∷ lent) (suc k) q e = (let rest = lent_within lent k q e in omega (arith, rest))

pub some_within : (own : List (Option ClassRows)) (k : ℕ) (r : ClassRows) → option_at own k ≡ Some r
    → k < length own
some_within [] zero r e = absurd (not_some r e)
  where
    not_some : (r : ClassRows) → None ≡ Some r → ⊥
    not_some r e = cc
some_within [] (suc k) r e = absurd (not_some r e)
  where
    not_some : (r : ClassRows) → None ≡ Some r → ⊥
    not_some r e = cc
some_within (o ∷ own) zero r e = omega arith
some_within (o ∷ own) (suc k) r e = (let rest = some_within own k r e in omega (arith, rest))

-- what a semijoin of a pair takes
pub pair_cost : (lent : List (Option KeyedRows)) (own slice : List (Option ClassRows)) (i j start after : ℕ)
    → slice ≡ own → i < length own → j < length own → after ≤ start + 2 * length
    (node_with lent slice i).rows + length (node_with lent slice j).rows
    → after ≤ start + 2 * rows_at (nodes_with lent own) i + rows_at (nodes_with lent own) j
pair_cost lent own slice i j start after e li lj l =
    let m : after ≤ start + 2 * length (node_with lent own i).rows + length (node_with lent own j).rows =
    subst (λ xs. after ≤ start + 2 * length (node_with lent xs i).rows + length
    (node_with lent xs j).rows) e l in
    omega (arith, m, with_rows lent own i li, with_rows lent own j lj)

pub rows_none : (lent : List (Option KeyedRows)) (own slice : List (Option ClassRows)) (k : ℕ) → slice ≡ own
    → k < length own → (node_with lent slice k).rows ≡ [] → (relation_at (nodes_with lent own) k).rows ≡ []
rows_none lent own slice k e l none =
    ap (λ (r : ClassRows). r.rows) (with_at lent own k l)
    ∙ subst (λ xs. (node_with lent xs k).rows ≡ []) e none
