-- The semijoins of a node and its parent, where each is an own relation or a lent one.
use Rattle.std.proofs.Common.{◌≡◌, ◌↔◌, ◌<◌, ◌≤◌, ℕ, List, Option, None, Some, Result, Ok, Err, IfOk, IfNone}
use Rattle.std.proofs.Common.{IfSome, length, Contains, All, refl, sym, subst, arith}
use Rattle.std.specs.declared.alloc.AllocError.{AllocError}
use Rattle.pl_join.specs.Relation.{ClassRows, Assignment, Holds, IsSemijoinOf, IsProjectionOf}
use Rattle.pl_join.specs.Keyed.{KeyedRows}
use Rattle.pl_join.proofs.Assignments.{map_agree}
use Rattle.pl_reduce.specs.Recipes.{option_at}
use Rattle.pl_reduce.specs.Lent.{keyed_at, node_with, AreThere, IsTurned, IsSmaller, IsReductionBy}
use Rattle.pl_reduce.proofs.Lists.{all_members}
use Rattle.pl_reduce.proofs.Options.{node_lent}

pub reduction_is : (keep by : ClassRows) (r : Result (Option ClassRows) AllocError)
    → IfOk r (λ o. IfNone o (IsSemijoinOf keep by keep))
    → IfOk r (λ o. IfSome o (λ (k : ClassRows). k.classes ≡ keep.classes))
    → IfOk r (λ o. IfSome o (IsSemijoinOf keep by))
    → IfOk r (λ o. IfSome o (λ (k : ClassRows). length k.rows < length keep.rows))
    → IfOk r (IsReductionBy keep by)
reduction_is keep by (Ok None) same classes rows fewer = same
reduction_is keep by (Ok (Some k)) same classes rows fewer =
    record { classes = classes; rows = rows; fewer = fewer }
reduction_is keep by (Err e) same classes rows fewer = tt

-- the same assignments, with other columns in front

semi_by : (q t : KeyedRows) (keep kept : ClassRows) → IsTurned q t → IsSemijoinOf keep t.relation kept
    → IsSemijoinOf keep q.relation kept
semi_by q t keep kept is semi f = (
  λ h. (let (here, (g, there, agree)) = (semi f).0 h in
      (here, (g, (is.same g).0 there, λ c m n. agree c m ((is.classes c).1 n)))),
  λ (here, (g, there, agree)). (semi f).1
      (here, (g, (is.same g).1 there, λ c m n. agree c m ((is.classes c).0 n))),
)

pub by_turned : (q t : KeyedRows) (keep : ClassRows) (r : Result (Option ClassRows) AllocError) → IsTurned q t
    → IfOk r (IsReductionBy keep t.relation) → IfOk r (IsReductionBy keep q.relation)
by_turned q t keep (Ok None) is red = semi_by q t keep keep is red
by_turned q t keep (Ok (Some k)) is red =
    record { classes = red.classes; rows = semi_by q t keep k is red.rows; fewer = red.fewer }
by_turned q t keep (Err e) is red = tt

semi_of : (q t : KeyedRows) (by kept made : ClassRows) → IsTurned q t
    → ((f : Assignment) → Holds made f ↔ Holds kept f) → IsSemijoinOf t.relation by kept
    → IsSemijoinOf q.relation by made
semi_of q t by kept made is same semi f = (
  λ h. (let (here, (g, there, agree)) = (semi f).0 ((same f).0 h) in
      ((is.same f).0 here, (g, there, λ c m n. agree c ((is.classes c).1 m) n))),
  λ (here, (g, there, agree)). (same f).1
      ((semi f).1 ((is.same f).1 here, (g, there, λ c m n. agree c ((is.classes c).0 m) n))),
)

pub semi_whole : (q t : KeyedRows) (by : ClassRows) → IsTurned q t → IsSemijoinOf t.relation by t.relation
    → IsSemijoinOf q.relation by q.relation
semi_whole q t by is semi = semi_of q t by t.relation q.relation is (λ f. ((is.same f).1, (is.same f).0)) semi

pub turned_held : (q t : KeyedRows) (kept classes : List ℕ) → IsTurned q t → kept ≡ t.relation.classes
    → classes ≡ q.relation.classes → All (Contains kept) classes
turned_held q t kept classes is ek ec = all_members (Contains kept) classes (λ c h.
    subst (λ xs. Contains xs c) (sym ek) ((is.classes c).1 (subst (λ xs. Contains xs c) ec h)))

pub turned_smaller : (q t : KeyedRows) (by kept made : ClassRows) → IsTurned q t
    → kept.classes ≡ t.relation.classes → IsSemijoinOf t.relation by kept
    → length kept.rows < length t.relation.rows → made.classes ≡ q.relation.classes → IsProjectionOf kept made
    → length made.rows ≤ length kept.rows → IsSmaller q.relation by made
turned_smaller q t by kept made is ek semi fewer em projects most = record {
  classes = em;
  rows = semi_of q t by kept made is same semi;
  fewer = omega (arith, fewer, most, is.fewer);
}
  where
    there : (c : ℕ) → Contains kept.classes c → Contains made.classes c
    there c h = subst (λ xs. Contains xs c) (sym em) ((is.classes c).0 (subst (λ xs. Contains xs c) ek h))

    same : (f : Assignment) → Holds made f ↔ Holds kept f
    same f = (
      λ h. (let (g, held, agree) = (projects f).0 h in
          subst (Contains kept.rows) (sym (map_agree kept.classes f g (λ c m. agree c (there c m)))) held),
      λ h. (projects f).1 (f, h, λ c m. refl),
    )

-- ---- the four cases of a pair

pub pair_reduced : (lent : List (Option KeyedRows)) (own : List (Option ClassRows)) (i j : ℕ)
    (keep by : ClassRows) (r : Result (Option ClassRows) AllocError) → node_with lent own i ≡ keep
    → node_with lent own j ≡ by → IfOk r (IsReductionBy keep by)
    → IfOk r (IsReductionBy (node_with lent own i) (node_with lent own j))
pair_reduced lent own i j keep by r ei ej red = subst (λ k. IfOk r (IsReductionBy k (node_with lent own j)))
    (sym ei) (subst (λ b. IfOk r (IsReductionBy keep b)) (sym ej) red)

pub both_lent : (lent : List (Option KeyedRows)) (own : List (Option ClassRows)) (i j : ℕ) → i < length own
    → j < length own → AreThere lent own → option_at own i ≡ None → option_at own j ≡ None
    → ((q k : KeyedRows) → keyed_at lent i ≡ Some q → keyed_at lent j ≡ Some k
    → IsSemijoinOf q.relation k.relation q.relation)
    → IsSemijoinOf (node_with lent own i) (node_with lent own j) (node_with lent own i)
both_lent lent own i j li lj there ni nj semi =
    let (q, eq) = there i li ni in
    let (k, ek) = there j lj nj in
    subst (λ r. IsSemijoinOf r (node_with lent own j) r) (sym (node_lent lent own i q ni eq))
    (subst (λ r. IsSemijoinOf q.relation r q.relation) (sym (node_lent lent own j k nj ek)) (semi q k eq ek))
