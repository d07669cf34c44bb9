-- Two ascending lists with the same members are equal: an ascending list is a function of its set.
use Rattle.std.proofs.Common.{◌≡◌, ◌↔◌, ◌≤◌, ℕ, zero, suc, List, [], ◌∷◌, length, refl, sym, ◌∙◌, subst, ◌⊎◌}
use Rattle.std.proofs.Common.{inl, inr, Contains, arith}
use Rattle.std.specs.Bool.{Decides}
use Rattle.std.specs.Cmp.{IsTotalOrder}
use Rattle.std.specs.Cmp.Lexicographic.{texts_ties}
use Rattle.std.specs.declared.cmp.Ordering.{Ordering}
use Rattle.std.specs.declared.cmp.Ordering.TheVariants.{Less}
use Rattle.std.specs.List.Sorted.{IsStrictlySortedBy}
use Rattle.std.specs.Ordering.{eq_by_cmp}
use Rattle.std.proofs.lemmas.Cmp.{tied_itself, nat_list_cmp_total, eq_by_cmp_equiv}
use Rattle.std.proofs.lemmas.List.Elements.{All-contains}
use Rattle.std.proofs.lemmas.Map.Keys.{sorted_tail, IsDistinct-from_sorted}
use Rattle.std.proofs.lemmas.Map.Made.{length-le_from_is_member, is_member-Decides}
use Rattle.std.proofs.lemmas.Slice.Eq.{bytes_eq-Decides}
use Rattle.std.proofs.lemmas.Map.Views.{All-after_first}
use Rattle.pl_rows.specs.Rows.{row_cmp, IsAscending, SameRows}

-- a member is the first or one of the rest
pub Contains-cons_cases : {K : Type 0} (x : K) (xs : List K) (z : K) →
    Contains (x ∷ xs) z → (x ≡ z) ⊎ Contains xs z
Contains-cons_cases x xs z (zero, h, e) = inl e
Contains-cons_cases x xs z (suc k, h, e) = inr (k, omega arith, e)

pub Contains-cons_first : {K : Type 0} (x : K) (xs : List K) → Contains (x ∷ xs) x
Contains-cons_first x xs = (0, omega arith, refl)

pub Contains-cons_rest : {K : Type 0} (x : K) (xs : List K) (z : K) → Contains xs z → Contains (x ∷ xs) z
Contains-cons_rest x xs z (k, h, e) = (suc k, omega arith, e)

pub Contains-nil : {K : Type 0} (z : K) → Contains [] z → ⊥
Contains-nil z (k, h, e) = omega arith

-- nothing is below itself
pub not_below_itself : {K : Type 0} (R : K → K → Ordering) → IsTotalOrder R → (x : K) → R x x ≡ Less → ⊥
not_below_itself R o x h = let e = tied_itself o x in cc

-- no two are each below the other
not_both : {K : Type 0} (R : K → K → Ordering) → IsTotalOrder R → (x y : K) → R x y ≡ Less → R y x ≡ Less → ⊥
not_both R o x y h k = not_below_itself R o x (o.trans x y x h k)

-- the first of one list is the first of the other
same_first : {K : Type 0} (R : K → K → Ordering) (o : IsTotalOrder R) (x y : K) (xs ys : List K) →
    IsStrictlySortedBy R (x ∷ xs) → IsStrictlySortedBy R (y ∷ ys) → (x ≡ y) ⊎ Contains xs y →
    (y ≡ x) ⊎ Contains ys x → x ≡ y
same_first R o x y xs ys s t (inl e) _ = e
same_first R o x y xs ys s t (inr a) (inl e) = sym e
same_first R o x y xs ys s t (inr a) (inr b) =
    absurd (not_both R o x y (All-contains (λ q. R x q ≡ Less) xs y (All-after_first R x xs s) a)
    (All-contains (λ q. R y q ≡ Less) ys x (All-after_first R y ys t) b))

-- a member of the rest is a member of the other rest
rest_within : {K : Type 0} (R : K → K → Ordering) (o : IsTotalOrder R) (x y : K) (xs ys : List K) →
    IsStrictlySortedBy R (x ∷ xs) → x ≡ y → (z : K) → Contains xs z → (y ≡ z) ⊎ Contains ys z → Contains ys z
rest_within R o x y xs ys s e z a (inr b) = b
rest_within {K = K} R o x y xs ys s e z a (inl f) =
    let below = All-contains (λ q. R x q ≡ Less) xs z (All-after_first R x xs s) a in
    absurd (not_below_itself R o z (subst (λ (w : K). R w z ≡ Less) (e ∙ f) below))

-- two lists that ascend strictly and have the same members are equal
pub same_ascending : {K : Type 0} (R : K → K → Ordering) (o : IsTotalOrder R) → (xs ys : List K) →
    IsStrictlySortedBy R xs → IsStrictlySortedBy R ys → ((z : K) → Contains xs z ↔ Contains ys z) → xs ≡ ys
same_ascending R o [] [] s t same = refl
same_ascending R o [] (y ∷ ys) s t same = absurd (Contains-nil y ((same y).1 (Contains-cons_first y ys)))
same_ascending R o (x ∷ xs) [] s t same = absurd (Contains-nil x ((same x).0 (Contains-cons_first x xs)))
same_ascending R o (x ∷ xs) (y ∷ ys) s t same =
    let first : x ≡ y = same_first R o x y xs ys s t
    (Contains-cons_cases x xs y ((same y).1 (Contains-cons_first y ys)))
    (Contains-cons_cases y ys x ((same x).0 (Contains-cons_first x xs))) in
    let rest : xs ≡ ys = same_ascending R o xs ys (sorted_tail R x xs s) (sorted_tail R y ys t) (λ z. (
      λ a. rest_within R o x y xs ys s first z a
          (Contains-cons_cases y ys z ((same z).0 (Contains-cons_rest x xs z a))),
      λ b. rest_within R o y x ys xs t (sym first) z b
          (Contains-cons_cases x xs z ((same z).1 (Contains-cons_rest y ys z b))),
    )) in
    cc

-- two ascending lists with the same set of rows are equal
pub same_rows : (xs ys : List (List ℕ)) → IsAscending xs → IsAscending ys → SameRows xs ys → xs ≡ ys
same_rows xs ys s t same = same_ascending row_cmp nat_list_cmp_total xs ys s t same

-- an ascending list is no longer than any that has its members
pub length-le_ascending : (xs ys : List (List ℕ)) → IsAscending xs → SameRows xs ys → length xs ≤ length ys
length-le_ascending xs ys s same =
    length-le_from_is_member (eq_by_cmp_equiv nat_list_cmp_total) xs ys (IsDistinct-from_sorted row_cmp xs s)
    (λ row h. (is_member-Decides equal ys row).1 ((same row).0 ((is_member-Decides equal xs row).0 h)))
  where
    equal : (a b : List ℕ) → Decides (eq_by_cmp row_cmp a b) (a ≡ b)
    equal a b = rw (← texts_ties a b) (bytes_eq-Decides a b)

-- no rows ascend
pub ascending-none : IsAscending []
unfolding IsStrictlySortedBy
ascending-none = tt
