-- Bisection over ascending rows.
use Rattle.std.proofs.Common.{◌≡◌, ◌+◌, ◌<◌, ◌≤◌, ℕ, zero, suc, Bool, true, false, List, [], ◌∷◌, length}
use Rattle.std.proofs.Common.{get_or, take, drop, ltb, nat_cmp, refl, sym, ◌∙◌, subst, inl, inr, ap, arith}
use Rattle.std.proofs.Common.{count_by, cond, slice_get, Some, All, Contains, IsTrue, ◌↔◌}
use Rattle.std.specs.Str.{bytes_eq}
use Rattle.std.proofs.lemmas.Slice.Eq.{bytes_eq-Decides}
use Rattle.std.specs.declared.cmp.Ordering.TheVariants.{Less, Equal}
use Rattle.std.proofs.lemmas.Bool.{cases_lt, cases_Bool, false≢true}
use Rattle.std.proofs.lemmas.Cmp.{tied_itself, nat_list_cmp_total}
use Rattle.std.proofs.lemmas.List.{take_all, drop_all, drop_more, get_or_default}
use Rattle.std.proofs.lemmas.List.Sums.{sum_by-cons}
use Rattle.std.proofs.lemmas.Option.{slice_get_within, slice_get-get_or, get_or_from_slice_get}
use Rattle.std.proofs.lemmas.Bool.Decides.{nat_tests}
use Rattle.std.proofs.lemmas.Map.Keys.{Less-from_sorted}
use Rattle.pl_rows.specs.Rows.{row_cmp, IsAscending, AreFirst}
use Rattle.pl_rows.specs.Layout.{comes_before, IsNarrowed}

-- what comes before a greater row comes before a lesser one too
pub comes_before-down : (or_equal : Bool) (p a b : List ℕ) → row_cmp a b ≡ Less →
    comes_before or_equal p b ≡ true → comes_before or_equal p a ≡ true
comes_before-down true [] a b h t = refl
comes_before-down false [] a b h t = t
comes_before-down true (q ∷ p) [] b h t = refl
comes_before-down false (q ∷ p) [] b h t = refl
comes_before-down or_equal (q ∷ p) (x ∷ a) [] h t = cc
comes_before-down true (q ∷ p) (x ∷ a) (y ∷ b) h t = let below = comes_before-down true p a b in
    grind (arith, nat_tests, below)
comes_before-down false (q ∷ p) (x ∷ a) (y ∷ b) h t = let below = comes_before-down false p a b in
    grind (arith, nat_tests, below)

-- where a row and a prefix begin alike, the rest decides, and where they don't, the first values do
pub comes_before-same : (or_equal : Bool) (q x : ℕ) (p a : List ℕ) → x ≡ q →
    comes_before or_equal (q ∷ p) (x ∷ a) ≡ comes_before or_equal p a
comes_before-same true q x p a e = let tied : nat_cmp x q ≡ Equal = grind (arith, nat_tests) in rw tied refl
comes_before-same false q x p a e = let tied : nat_cmp x q ≡ Equal = grind (arith, nat_tests) in rw tied refl

pub comes_before-differ : (or_equal : Bool) (q x : ℕ) (p a : List ℕ) → (x ≡ q → ⊥) →
    comes_before or_equal (q ∷ p) (x ∷ a) ≡ ltb x q
comes_before-differ true q x p a e = grind (arith, nat_tests)
comes_before-differ false q x p a e = grind (arith, nat_tests)

-- the step of a comparison from value to value
pub alike_more : (or_equal : Bool) (prefix row : List ℕ) (i : ℕ) → i < length prefix → i < length row →
    get_or row i 0 ≡ get_or prefix i 0 → comes_before or_equal (drop i prefix) (drop i row) ≡ comes_before
    or_equal (drop (i + 1) prefix) (drop (i + 1) row)
alike_more or_equal prefix row i l m e = rw (drop_more prefix i 0 l, drop_more row i 0 m)
    (comes_before-same or_equal (get_or prefix i 0) (get_or row i 0) (drop (i + 1) prefix) (drop (i + 1) row)
    e)

pub differ_here : (or_equal : Bool) (prefix row : List ℕ) (i : ℕ) → i < length prefix → i < length row →
    (get_or row i 0 ≡ get_or prefix i 0 → ⊥) →
    comes_before or_equal (drop i prefix) (drop i row) ≡ ltb (get_or row i 0) (get_or prefix i 0)
differ_here or_equal prefix row i l m e = rw (drop_more prefix i 0 l, drop_more row i 0 m)
    (comes_before-differ or_equal (get_or prefix i 0) (get_or row i 0)
    (drop (i + 1) prefix) (drop (i + 1) row) e)

pub alike_all : (or_equal : Bool) (prefix row : List ℕ) (i : ℕ) → length prefix ≤ i →
    comes_before or_equal (drop i prefix) (drop i row) ≡ or_equal
alike_all true prefix row i l = rw (drop_all i prefix l) refl
alike_all false prefix row i l = rw (drop_all i prefix l) refl

-- how many rows pass a test that the first n pass and no other
pub count_by-narrowed : (p : List ℕ → Bool) (rows : List (List ℕ)) (n : ℕ) → n ≤ length rows →
    IsNarrowed p rows n n → count_by p rows ≡ n
count_by-narrowed p [] n h s = omega arith
count_by-narrowed p (x ∷ xs) zero h s =
    let head : p x ≡ false = s.after 0 (omega arith) (omega arith) in
    let rest : count_by p xs ≡ 0 = count_by-narrowed p xs zero (omega arith)
    (record {
      before = λ i k. absurd (omega arith);
      after = λ i k l. s.after (suc i) (omega arith) (omega arith);
    }) in
    sum_by-cons (λ r. cond (p r) 1 0) x xs ∙ (rw (head, rest) refl)
count_by-narrowed p (x ∷ xs) (suc n) h s =
    let head : p x ≡ true = s.before 0 (omega arith) in
    let rest : count_by p xs ≡ n = count_by-narrowed p xs n (omega arith)
    (record {
      before = λ i k. s.before (suc i) (omega arith);
      after = λ i k l. s.after (suc i) (omega arith) (omega arith);
    }) in
    sum_by-cons (λ r. cond (p r) 1 0) x xs ∙ (rw (head, rest) (omega arith))

-- before the first step nothing is known, and nothing is claimed
pub narrowed_none : (p : List ℕ → Bool) (rows : List (List ℕ)) (n : ℕ) →
    n ≡ length rows → IsNarrowed p rows 0 n
narrowed_none p rows n e = record {
  before = λ i h. absurd (omega arith);
  after = λ i h l. absurd (omega arith);
}

-- the row in the middle passes: so do all before it
pub narrowed_up : (or_equal : Bool) (p : List ℕ) (rows : List (List ℕ)) (low high middle : ℕ) (row : List ℕ) →
    IsAscending rows → slice_get rows middle ≡ Some row → comes_before or_equal p row ≡ true →
    IsNarrowed (comes_before or_equal p) rows low high →
    IsNarrowed (comes_before or_equal p) rows (middle + 1) high
narrowed_up or_equal p rows low high middle row s r t n = record { before = before; after = n.after }
  where
    before : (i : ℕ) → i < middle + 1 → comes_before or_equal p (get_or rows i []) ≡ true
    before i h =
        let within = slice_get_within rows middle row r in
        let e : get_or rows middle [] ≡ row = get_or_from_slice_get rows middle row [] r in
        let passes : comes_before or_equal p (get_or rows middle []) ≡ true = rw e t in
        elim (cases_lt i middle) [
          | inl l ↦ comes_before-down or_equal p _ _ (Less-from_sorted row_cmp rows i middle [] s l within)
              passes
          | inr g ↦ (let same : i ≡ middle = omega arith in rw same passes)
        ]

-- the row in the middle doesn't pass: nor does any after it
pub narrowed_down : (or_equal : Bool) (p : List ℕ) (rows : List (List ℕ)) (low high middle : ℕ)
    (row : List ℕ) → IsAscending rows → slice_get rows middle ≡ Some row →
    comes_before or_equal p row ≡ false → IsNarrowed (comes_before or_equal p) rows low high →
    IsNarrowed (comes_before or_equal p) rows low middle
narrowed_down or_equal p rows low high middle row s r t n = record { before = n.before; after = after }
  where
    fails : comes_before or_equal p (get_or rows middle []) ≡ false
    fails = rw (get_or_from_slice_get rows middle row [] r) t

    none : (i : ℕ) → middle < i → i < length rows → comes_before or_equal p (get_or rows i []) ≡ true → ⊥
    none i k l e = false≢true (sym fails ∙
        comes_before-down or_equal p _ _ (Less-from_sorted row_cmp rows middle i [] s k l) e)

    after : (i : ℕ) → middle ≤ i → i < length rows → comes_before or_equal p (get_or rows i []) ≡ false
    after i h l = elim (cases_lt middle i) [
      | inr g ↦ (let same : i ≡ middle = omega arith in rw same fails)
      | inl k ↦ (elim (cases_Bool (comes_before or_equal p (get_or rows i []))) [
        | inr e ↦ e
        | inl e ↦ absurd (none i k l e)
      ])
    ]

-- where a row is, if it is among ascending rows of its width: at the first place that doesn't come before it
pub found_at : (k : ℕ) (rows : List (List ℕ)) (row : List ℕ) (n : ℕ) → IsAscending rows →
    All (λ r. length r ≡ k) rows → length row ≡ k → IsNarrowed (comes_before false row) rows n n →
    Contains rows row → (n < length rows) × (get_or rows n [] ≡ row)
found_at width rows row n s w long narrowed (k, l, e) =
    let here : get_or rows k [] ≡ row = get_or_default rows k [] row l ∙ e in
    let not_before : comes_before false row (get_or rows k []) ≡ false =
    rw (here, take_all (length row) row (omega arith), tied_itself nat_list_cmp_total row) refl in
    elim (cases_lt k n) [
      | inl before ↦ absurd (false≢true (sym not_before ∙ narrowed.before k before))
      | inr from ↦ (elim (cases_lt n k) [
        | inr g ↦ (let same : k ≡ n = omega arith in
            (omega arith, subst (λ m. get_or rows m [] ≡ row) same here))
        | inl lt ↦ absurd (between lt)
      ])
    ]
  where
    between : n < k → ⊥
    between lt =
        let here : get_or rows k [] ≡ row = get_or_default rows k [] row l ∙ e in
        let less : row_cmp (get_or rows n []) row ≡ Less =
        rw here at (Less-from_sorted row_cmp rows n k [] s lt l) in
        let fails : comes_before false row (get_or rows n []) ≡ false =
        narrowed.after n (omega arith) (omega arith) in
        let whole : take (length row) (get_or rows n []) ≡ get_or rows n [] =
        take_all (length row) (get_or rows n []) (omega (arith, w n [] (omega arith))) in
        false≢true (sym (rw (whole, less) at fails))

-- where a bisection ends
pub narrowed_end : (p : List ℕ → Bool) (rows : List (List ℕ)) (low high : ℕ) → low ≤ high → high ≤ low →
    IsNarrowed p rows low high → IsNarrowed p rows low low
narrowed_end p rows low high h g s = let e : high ≡ low = omega arith in
    subst (λ m. IsNarrowed p rows low m) e s

-- the first n rows are just those that pass
pub first_from_narrowed : (p : List ℕ → Bool) (rows : List (List ℕ)) (n : ℕ) →
    IsNarrowed p rows n n → AreFirst p rows n
first_from_narrowed p rows n s place row r = (is_before, passes)
  where
    here : get_or rows place [] ≡ row
    here = get_or_from_slice_get rows place row [] r

    is_before : IsTrue (p row) → place < n
    is_before t = elim (cases_lt place n) [
      | inl l ↦ l
      | inr g ↦ absurd (false≢true (sym (s.after place g (slice_get_within rows place row r)) ∙ ap p here ∙
          t))
    ]

    passes : place < n → IsTrue (p row)
    passes l = sym (ap p here) ∙ s.before place l

-- whether a row is the one at a place
pub at_place : (rows : List (List ℕ)) (row found : List ℕ) (place : ℕ) (same : Bool) →
    slice_get rows place ≡ Some found → same ≡ bytes_eq found row → IsTrue same ↔
    (slice_get rows place ≡ Some row)
at_place rows row found place same r e =
    let is = bytes_eq-Decides found row in
    let within : place < length rows = slice_get_within rows place found r in (
      λ t. r ∙ ap Some (is.0 (sym e ∙ t)),
      λ s. e ∙ is.1 (sym (get_or_from_slice_get rows place found [] r) ∙
          get_or_from_slice_get rows place row [] s),
    )

pub at_past : (rows : List (List ℕ)) (row : List ℕ) (place : ℕ) (b : Bool) → length rows ≤ place → b ≡ false →
    IsTrue b ↔ (slice_get rows place ≡ Some row)
at_past rows row place b l e = (
  λ t. absurd (false≢true (sym e ∙ t)),
  λ s. (let within = slice_get_within rows place row s in absurd (omega arith)),
)

-- a row that stands at a place is there
pub there_at : (rows : List (List ℕ)) (row : List ℕ) (place : ℕ) → slice_get rows place ≡ Some row →
    Contains rows row
there_at rows row place s = (
  place,
  slice_get_within rows place row s,
  get_or_from_slice_get rows place row row s,
)

-- the row at the first place that doesn't come before a row decides whether the row is there
pub has_at : (k : ℕ) (rows : List (List ℕ)) (row : List ℕ) (place : ℕ) (b : Bool) → IsAscending rows →
    All (λ r. length r ≡ k) rows → length row ≡ k → IsNarrowed (comes_before false row) rows place place →
    IsTrue b ↔ (slice_get rows place ≡ Some row) → IsTrue b ↔ Contains rows row
has_at k rows row place b s w long narrowed at = (λ t. there_at rows row place (at.0 t), there)
  where
    there : Contains rows row → IsTrue b
    there m =
        let (within, e) = found_at k rows row place s w long narrowed m in
        at.1 (slice_get-get_or rows place [] within ∙ ap Some e)
