-- The places of classes in class order.
use Rattle.std.proofs.Common.{◌≡◌, ◌≢◌, ◌==◌, ◌+◌, ◌<◌, ◌≤◌, ℕ, zero, suc, cond, List, [], ◌∷◌, ◌++◌, length}
use Rattle.std.proofs.Common.{get_or, slice_index, slice_set, Contains, refl, sym, ap, ◌∙◌, subst, inl, inr}
use Rattle.std.proofs.Common.{arith}
use Rattle.std.proofs.lemmas.Bool.Decides.{nat_tests}
use Rattle.std.proofs.lemmas.Bool.{cases_lt}
use Rattle.std.proofs.lemmas.List.{get_or_default, get_or-set_same, get_or-set_other}
use Rattle.pl_rows.proofs.Canonical.{Contains-nil, Contains-cons_cases}
use Rattle.pl_join.specs.Relation.{AreDistinct}
use Rattle.pl_join.proofs.Assignments.{first_apart, rest_distinct}
use Rattle.pl_reduce.specs.Layout.{place_in}

-- the first class stands at place 0, and any other one place further than among the others
pub place_first : (k : ℕ) (ks : List ℕ) → place_in (k ∷ ks) k ≡ 0
place_first k ks = grind (arith, nat_tests)

pub place_rest : (k : ℕ) (ks : List ℕ) (c : ℕ) → c ≢ k → place_in (k ∷ ks) c ≡ suc (place_in ks c)
place_rest k ks c n = grind (arith, nat_tests)

-- a class stands at its place
pub place_within : (classes : List ℕ) (c : ℕ) → Contains classes c → place_in classes c < length classes
place_within [] c h = absurd (Contains-nil c h)
place_within (k ∷ ks) c h = elim (Contains-cons_cases k ks c h) [
  | inl e ↦ (let here : place_in (k ∷ ks) c ≡ 0 = ap (place_in (k ∷ ks)) (sym e)
      ∙ place_first k ks in omega arith)
  | inr m ↦ (let rest : place_in ks c < length ks = place_within ks c m in step k ks c rest)
]
  where
    step : (k : ℕ) (ks : List ℕ) (c : ℕ) → place_in ks c < length ks → place_in (k ∷ ks) c < suc (length ks)
    step k ks c rest = grind (arith, nat_tests)

-- the place of the class at a place is that place
pub place_at : (classes : List ℕ) (i : ℕ) → AreDistinct classes → i < length classes
    → place_in classes (get_or classes i 0) ≡ i
place_at [] i d l = absurd (omega arith)
place_at (k ∷ ks) zero d l = place_first k ks
place_at (k ∷ ks) (suc i) d l =
    let apart : get_or ks i 0 ≢ k = first_apart k ks d (get_or ks i 0)
    (i, omega arith, at_default ks i (omega arith)) in
    place_rest k ks (get_or ks i 0) apart ∙ ap suc (place_at ks i (rest_distinct k ks d) (omega arith))
  where
    at_default : (ks : List ℕ) (i : ℕ) → i < length ks → get_or ks i (get_or ks i 0) ≡ get_or ks i 0
    at_default [] i l = absurd (omega arith)
    at_default (x ∷ ks) zero l = refl
    at_default (x ∷ ks) (suc i) l = at_default ks i (omega arith)

-- more classes behind change no place
pub place_append : (classes others : List ℕ) (c : ℕ) → Contains classes c
    → place_in (classes ++ others) c ≡ place_in classes c
place_append [] others c h = absurd (Contains-nil c h)
place_append (k ∷ ks) others c h = elim (Contains-cons_cases k ks c h) [
  | inl e ↦ ap (place_in (k ∷ ks ++ others)) (sym e) ∙ place_first k (ks ++ others)
      ∙ sym (ap (place_in (k ∷ ks)) (sym e) ∙ place_first k ks)
  | inr m ↦ step k (place_in (ks ++ others) c) (place_in ks c) c (place_append ks others c m)
]
  where
    step : (k x y c : ℕ) → x ≡ y → cond (k == c) 0 (suc x) ≡ cond (k == c) 0 (suc y)
    step k x y c e = ap (λ z. cond (k == c) 0 (suc z)) e

-- a loop over the classes writes the place of one more
pub place_laid : (classes places : List ℕ) (place : ℕ) → AreDistinct classes → place < length classes
    → get_or classes place 0 < length places
    → ((k : ℕ) → k < place → get_or places (get_or classes k 0) 0 ≡ k) → (k : ℕ) → k < place + 1
    → get_or (slice_set places (get_or classes place 0) place) (get_or classes k 0) 0 ≡ k
place_laid classes places place d l within laid k h = elim (cases_lt k place) [
  | inl earlier ↦ get_or-set_other places (get_or classes place 0) (get_or classes k 0) place 0
      (λ e. not_before (sym (place_at classes k d (omega arith)) ∙ ap (place_in classes) e
      ∙ place_at classes place d l) earlier) ∙ laid k earlier
  | inr ge ↦ (let same : place ≡ k = omega arith in
      subst (λ j. get_or (slice_set places (get_or classes place 0) place) (get_or classes j 0) 0 ≡ j) same
      (get_or-set_same places (get_or classes place 0) place 0 within))
]
  where
    not_before : {i j : ℕ} → i ≡ j → i < j → ⊥
    not_before e l = absurd (omega arith)

-- what a loop over the classes wrote
pub places_laid : (classes places : List ℕ) (n : ℕ) → AreDistinct classes → length classes ≤ n
    → ((k : ℕ) → k < n → get_or places (get_or classes k 0) 0 ≡ k) → (c : ℕ) → Contains classes c
    → slice_index places c ≡ place_in classes c
places_laid classes places n d l h c (k, m, e) =
    let here : get_or classes k 0 ≡ c = get_or_default classes k 0 c m ∙ e in
    ap (slice_index places) (sym here) ∙ h k (omega arith) ∙ sym (place_at classes k d m)
    ∙ ap (place_in classes) here
