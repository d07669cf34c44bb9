-- Lists of rising positions, and what is below a bound of them.
use Rattle.std.proofs.Common.{◌≡◌, ◌⊎◌, ◌<◌, ◌≤◌, ℕ, zero, suc, true, false, nat_lt, List, [], ◌∷◌, ◌++◌}
use Rattle.std.proofs.Common.{length, slice_index, Contains, refl, sym, ap, ◌∙◌, inl, inr, arith}
use Rattle.std.specs.List.{filter}
use Rattle.std.proofs.lemmas.Bool.{ltb-true, lt-ltb, cases_Bool, false≢true}
use Rattle.std.proofs.lemmas.List.{get_or_default}
use Rattle.pl_registry.specs.SearchRecord.{IsRising}
use Rattle.pl_registry.proofs.Lists.{Contains-nil, Contains-cons_cases, Contains-cons_rest}

-- the positions below n
abbrev pub below : ℕ → List ℕ → List ℕ
below n made = filter (λ k. nat_lt k n) made

pub rising_tail : (x : ℕ) (made : List ℕ) → IsRising (x ∷ made) → IsRising made
rising_tail x made rising i k less l = rising (suc i) (suc k) (omega arith) (omega arith)

rising_head : (x : ℕ) (made : List ℕ) → IsRising (x ∷ made) → (k : ℕ) → k < length made
    → x < slice_index made k
rising_head x made rising k l = rising 0 (suc k) (omega arith) (omega arith)

not_less : (k n : ℕ) → n ≤ k → nat_lt k n ≡ false
not_less k n l = elim (cases_Bool (nat_lt k n)) [
  | inl there ↦ (let h = ltb-true k n there in absurd (omega (arith, h)))
  | inr gone ↦ gone
]

-- none of what lies past n is below n
pub below_none : (n : ℕ) (made : List ℕ) → ((k : ℕ) → k < length made → n ≤ slice_index made k)
    → below n made ≡ []
below_none n [] past = refl
below_none n (x ∷ made) past = rw (not_less x n (past 0 (omega arith)))
    (below_none n made (λ k l. past (suc k) (omega arith)))

-- all of what lies below n
pub below_all : (n : ℕ) (made : List ℕ) → ((k : ℕ) → k < length made → slice_index made k < n)
    → below n made ≡ made
below_all n [] under = refl
below_all n (x ∷ made) under = rw (lt-ltb x n (under 0 (omega arith)))
    (ap (λ xs. x ∷ xs) (below_all n made (λ k l. under (suc k) (omega arith))))

less_same_past : (x n : ℕ) → (x < n) ⊎ ((x ≡ n) ⊎ (n < x))
less_same_past x n = grind arith

-- the positions below n + 1, where n is one of them
pub below_more : (n : ℕ) (made : List ℕ) → IsRising made → Contains made n → below (suc n) made ≡ below n made
    ++ n ∷ []
below_more n [] rising h = absurd (Contains-nil n h)
below_more n (x ∷ made) rising h = elim (less_same_past x n) [
  | inl less ↦ elim (Contains-cons_cases x made n h) [
    | inl e ↦ absurd (omega (arith, e, less))
    | inr rest ↦ rw (lt-ltb x (suc n) (omega arith), lt-ltb x n less)
        (ap (λ xs. x ∷ xs) (below_more n made (rising_tail x made rising) rest))
  ]
  | inr other ↦ elim other [
    | inl e ↦ (
        let past = rising_head x made rising in
        let a = below_none (suc n) made (λ k l. (let p = past k l in omega (arith, p, e))) in
        let b = below_none n made (λ k l. (let p = past k l in omega (arith, p, e))) in
        rw (lt-ltb x (suc n) (omega (arith, e)), not_less x n (omega (arith, e)), a, b) (ap (λ y. y ∷ []) e))
    | inr more ↦ elim (Contains-cons_cases x made n h) [
      | inl e ↦ absurd (omega (arith, e, more))
      | inr rest ↦ (let (k, l, e) = rest in let p = rising_head x made rising k l in
          let z : slice_index made k ≡ n = get_or_default made k 0 n l
          ∙ e in absurd (omega (arith, p, z, more)))
    ]
  ]
]

-- and where it is none of them
pub below_same : (n : ℕ) (made : List ℕ) → (Contains made n → ⊥) → below (suc n) made ≡ below n made
below_same n [] none = refl
below_same n (x ∷ made) none = elim (less_same_past x n) [
  | inl less ↦ rw (lt-ltb x (suc n) (omega arith), lt-ltb x n less)
      (ap (λ xs. x ∷ xs) (below_same n made (λ h. none (Contains-cons_rest x made n h))))
  | inr other ↦ elim other [
    | inl e ↦ absurd (none (0, omega arith, e))
    | inr more ↦ rw (not_less x (suc n) (omega arith), not_less x n (omega arith))
        (below_same n made (λ h. none (Contains-cons_rest x made n h)))
  ]
]

-- the positions below n are the first ones
pub below_front : (n : ℕ) (made : List ℕ) → IsRising made → (k : ℕ) → k < length (below n made)
    → (k < length made) × (slice_index (below n made) k ≡ slice_index made k)
below_front n [] rising k l = absurd (omega arith)
below_front n (x ∷ made) rising k l = elim (cases_Bool (nat_lt x n)) [
  | inl there ↦ front k (rw there at l) there (λ i w. below_front n made (rising_tail x made rising) i w)
  | inr gone ↦ (
      let past = rising_head x made rising in
      let over : n ≤ x = not_under x n gone in
      let none = below_none n made (λ i w. (let p = past i w in omega (arith, p, over))) in
      let many : k < length (below n made) = rw gone at l in
      absurd (let z = ap length none in omega (arith, many, z)))
]
  where
    not_under : (x n : ℕ) → nat_lt x n ≡ false → n ≤ x
    not_under x n gone = elim (less_same_past x n) [
      | inl less ↦ absurd (false≢true (sym gone ∙ lt-ltb x n less))
      | inr other ↦ elim other [ inl e ↦ omega (arith, e) | inr more ↦ omega arith ]
    ]

    front : (k : ℕ) → k < length (x ∷ below n made) → nat_lt x n ≡ true →
        ((i : ℕ) → i < length (below n made) → (i < length made)
        × (slice_index (below n made) i ≡ slice_index made i)) → (k < length (x ∷ made))
        × (slice_index (below n (x ∷ made)) k ≡ slice_index (x ∷ made) k)
    front zero l there rest = (omega arith, rw there refl)
    front (suc k) l there rest = let (w, e) = rest k (omega arith) in (omega (arith, w), rw there e)

-- a position below n stands among them
pub below_reach : (n : ℕ) (made : List ℕ) → IsRising made → (k : ℕ) → k < length made → slice_index made k < n
    → k < length (below n made)
below_reach n [] rising k l under = absurd (omega arith)
below_reach n (x ∷ made) rising zero l under = rw (lt-ltb x n under) (omega arith)
below_reach n (x ∷ made) rising (suc k) l under =
    let first = rising_head x made rising k (omega arith) in
    let rest = below_reach n made (rising_tail x made rising) k (omega arith) under in
    rw (lt-ltb x n (omega (arith, first, under))) (omega (arith, rest))
