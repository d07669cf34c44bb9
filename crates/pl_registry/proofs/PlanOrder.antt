-- Lists in the lexicographic order of their elements, and reads of strictly sorted lists.
use Rattle.std.proofs.Common.{◌≡◌, ◌⊎◌, ◌<◌, ℕ, zero, suc, List, [], ◌∷◌, ◌++◌, length, get_or, refl, sym, ap}
use Rattle.std.proofs.Common.{◌∙◌, subst, inl, inr, arith}
use Rattle.std.specs.Cmp.{IsTotalOrder}
use Rattle.std.specs.Cmp.Lexicographic.{slice_cmp}
use Rattle.std.specs.declared.cmp.Ordering.{Ordering}
use Rattle.std.specs.declared.cmp.Ordering.TheVariants.{Less}
use Rattle.std.specs.List.Sorted.{IsStrictlySortedBy}
use Rattle.std.specs.Ordering.{ordering_then}
use Rattle.std.proofs.lemmas.Cmp.{tied_itself}
use Rattle.std.proofs.lemmas.Map.Keys.{sorted_tail}
use Rattle.std.proofs.lemmas.Map.Views.{All-after_first}

-- in a strictly sorted list, what stands earlier is less
pub sorted_read : {X : Type 0} (R : X → X → Ordering) (xs : List X) (i k : ℕ) (d e : X) →
    IsStrictlySortedBy R xs → i < k → k < length xs →
    R (get_or xs i d) (get_or xs k e) ≡ Less
sorted_read R [] i k d e sorted less l = absurd (omega arith)
sorted_read R (x ∷ xs) i zero d e sorted less l = absurd (omega arith)
sorted_read R (x ∷ xs) zero (suc k) d e sorted less l = All-after_first R x xs sorted k e (omega arith)
sorted_read R (x ∷ xs) (suc i) (suc k) d e sorted less l =
    sorted_read R xs i k d e (sorted_tail R x xs sorted) (omega arith) (omega arith)

-- up to some place the lists have the same elements, and there the first list has the lesser one
abbrev pub IsBefore : {X : Type 0} → (X → X → Ordering) → List X → List X → Type 0
IsBefore R [] ys = ⊥
IsBefore R (x ∷ xs) [] = ⊥
IsBefore R (x ∷ xs) (y ∷ ys) = (R x y ≡ Less) ⊎ ((x ≡ y) × IsBefore R xs ys)

-- the lists are the same, or the first is before the second
abbrev pub IsUpTo : {X : Type 0} → (X → X → Ordering) → List X → List X → Type 0
IsUpTo R xs ys = (xs ≡ ys) ⊎ IsBefore R xs ys

module _ {X : Type 0} (R : X → X → Ordering) where
  -- whatever comes behind
  pub before_more : (xs ys us vs : List X) → IsBefore R xs ys → IsBefore R (xs ++ us) (ys ++ vs)
  before_more [] ys us vs b = absurd b
  before_more (x ∷ xs) [] us vs b = absurd b
  before_more (x ∷ xs) (y ∷ ys) us vs (inl less) = inl less
  before_more (x ∷ xs) (y ∷ ys) us vs (inr (same, b)) = inr (same, before_more xs ys us vs b)

  -- one list with two ends
  pub before_last : (xs : List X) (x y : X) → R x y ≡ Less → IsBefore R (xs ++ x ∷ []) (xs ++ y ∷ [])
  before_last [] x y less = inl less
  before_last (z ∷ xs) x y less = inr (refl, before_last xs x y less)

  pub up_to_same : (xs ys us : List X) → IsUpTo R xs ys → IsUpTo R (xs ++ us) (ys ++ us)
  up_to_same xs ys us (inl same) = inl (ap (λ zs. zs ++ us) same)
  up_to_same xs ys us (inr b) = inr (before_more xs ys us us b)

  pub up_to_less : (xs ys : List X) (x y : X) → IsUpTo R xs ys → R x y ≡ Less →
      IsBefore R (xs ++ x ∷ []) (ys ++ y ∷ [])
  up_to_less xs ys x y (inl same) less =
      subst (λ zs. IsBefore R (xs ++ x ∷ []) (zs ++ y ∷ [])) same (before_last xs x y less)
  up_to_less xs ys x y (inr b) less = before_more xs ys (x ∷ []) (y ∷ []) b

  module _ (o : IsTotalOrder R) where
    pub before_through : (xs ys zs : List X) → IsBefore R xs ys → IsBefore R ys zs → IsBefore R xs zs
    before_through [] ys zs a b = absurd a
    before_through (x ∷ xs) [] zs a b = absurd a
    before_through (x ∷ xs) (y ∷ ys) [] a b = absurd b
    before_through (x ∷ xs) (y ∷ ys) (z ∷ zs) (inl less) (inl more) = inl (o.trans x y z less more)
    before_through (x ∷ xs) (y ∷ ys) (z ∷ zs) (inl less) (inr (same, b)) =
        inl (subst (λ w. R x w ≡ Less) same less)
    before_through (x ∷ xs) (y ∷ ys) (z ∷ zs) (inr (same, a)) (inl more) =
        inl (subst (λ w. R w z ≡ Less) (sym same) more)
    before_through (x ∷ xs) (y ∷ ys) (z ∷ zs) (inr (same, a)) (inr (other, b)) =
        inr (same ∙ other, before_through xs ys zs a b)

    pub before_up_to : (xs ys zs : List X) → IsBefore R xs ys → IsUpTo R ys zs → IsBefore R xs zs
    before_up_to xs ys zs b (inl same) = subst (IsBefore R xs) same b
    before_up_to xs ys zs b (inr more) = before_through xs ys zs b more

    -- a list before another is less in the lexicographic order
    pub before_is_less : (xs ys : List X) → IsBefore R xs ys → slice_cmp R xs ys ≡ Less
    before_is_less [] ys b = absurd b
    before_is_less (x ∷ xs) [] b = absurd b
    before_is_less (x ∷ xs) (y ∷ ys) (inl less) = ap (λ c. ordering_then c (slice_cmp R xs ys)) less
    before_is_less (x ∷ xs) (y ∷ ys) (inr (same, b)) =
        ap (λ c. ordering_then c (slice_cmp R xs ys)) (sym (ap (R x) same) ∙ tied_itself o x)
        ∙ before_is_less xs ys b
