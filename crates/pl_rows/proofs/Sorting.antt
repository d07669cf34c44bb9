-- Rows that are sorted, as slices or as arrays: their order, their set and their widths.
use Rattle.std.proofs.Common.{◌≡◌, ◌+◌, ◌*◌, ◌<◌, ℕ, zero, suc, Bool, true, false, List, [], ◌∷◌, ◌++◌}
use Rattle.std.proofs.Common.{length, get_or, take, drop, map, refl, sym, ap, ◌∙◌, subst, Bor, All, Contains}
use Rattle.std.proofs.Common.{IsPermutation, IsSorted, nat_eq, slice_get, Some, arith, ◌-◌, ◌≤◌, ◌/◌, inl}
use Rattle.std.proofs.Common.{inr}
use Rattle.std.specs.Ordering.{nat_cmp, is_ge}
use Rattle.std.specs.declared.cmp.Ordering.{Ordering}
use Rattle.std.specs.declared.cmp.Ordering.TheVariants.{Less, Equal, Greater}
use Rattle.std.specs.List.{dedup, flat_map, AllByRecursion}
use Rattle.std.proofs.Math.Nat.{mul-div_cancel_left}
use Rattle.std.specs.Simd.{first_chunks}
use Rattle.std.specs.List.Retain.{IsFiltered, DiffersFromLast}
use Rattle.std.specs.List.Sorted.{IsStrictlySortedBy}
use Rattle.std.specs.Cmp.Lexicographic.{slice_cmp, pointwise, on_texts, on_texts_equal, texts_ties}
use Rattle.std.proofs.lemmas.List.{map_push, take_more, length-map, get_or-map, length-append, take_at}
use Rattle.std.proofs.lemmas.List.{drop_at}
use Rattle.std.proofs.lemmas.List.Elements.{All-head, All-tail}
use Rattle.std.proofs.lemmas.Bool.{cases_lt, false≢true}
use Rattle.std.proofs.lemmas.Cmp.{nat_list_cmp_total, nat_list_eq_equiv}
use Rattle.std.proofs.lemmas.List.Filters.{dedup_is, All-dedup}
use Rattle.std.proofs.lemmas.List.Kept.{IsStrictlySortedBy-dedup, Any-dedup, Contains-dedup}
use Rattle.std.proofs.lemmas.List.Kept.{Contains-from_dedup}
use Rattle.std.proofs.lemmas.List.Sorted.{All-permutation, Contains-permutation, IsPermutation-sym}
use Rattle.std.proofs.lemmas.Map.Keys.{Less-from_sorted, sorted_from_all_adjacent}
use Rattle.std.proofs.lemmas.Option.{slice_get_within, get_or_from_slice_get}
use Rattle.std.proofs.lemmas.Slice.Eq.{bytes_eq-Decides}
use Rattle.pl_rows.specs.Rows.{rows_of, row_cmp, IsAscending, SameRows}
use Rattle.pl_rows.proofs.Places.{rows_of-push, width-rows_of}

-- the row that a slice holds
abbrev pub row_in : Bor (List ℕ) → List ℕ
row_in slice = slice.now

-- how slices of numbers compare
abbrev pub slices_cmp : Bor (List ℕ) → Bor (List ℕ) → Ordering
slices_cmp x y = slice_cmp nat_cmp x.now y.now

abbrev pub slices_eq : Bor (List ℕ) → Bor (List ℕ) → Bool
slices_eq x y = pointwise nat_eq x.now y.now

all_less-map : (x : Bor (List ℕ)) (xs : List (Bor (List ℕ))) →
    AllByRecursion (λ y. slices_cmp x y ≡ Less) xs →
    AllByRecursion (λ row. row_cmp x.now row ≡ Less) (map row_in xs)
all_less-map x [] h = h
all_less-map x (y ∷ ys) h = (h.0, all_less-map x ys h.1)

-- slices in strict order hold rows in strict order
ascending-map : (xs : List (Bor (List ℕ))) → IsStrictlySortedBy slices_cmp xs → IsAscending (map row_in xs)
unfolding IsStrictlySortedBy
ascending-map [] h = h
ascending-map (x ∷ xs) h = (all_less-map x xs h.0, ascending-map xs h.1)

Contains-map : (xs : List (Bor (List ℕ))) (x : Bor (List ℕ)) → Contains xs x → Contains (map row_in xs) x.now
Contains-map xs x (k, h, e) =
    let l = length-map xs row_in in
    (k, omega arith, get_or-map row_in xs k x x.now h ∙ ap row_in e)

-- a row that some slice holds
Contains-from_map : (xs : List (Bor (List ℕ))) (row : List ℕ) → Contains (map row_in xs) row →
    (x : Bor (List ℕ)) × Contains xs x × (x.now ≡ row)
Contains-from_map [] row (k, h, e) = absurd (omega arith)
Contains-from_map (x ∷ xs) row (zero, h, e) = (x, (0, omega arith, refl), e)
Contains-from_map (x ∷ xs) row (suc k, h, e) =
    let there = Contains-from_map xs row (k, omega arith, e) in
    (there.0, (suc there.1.0, omega arith, there.1.2), there.2)

-- after the sort and the removal of repeats the rows ascend
pub sorted_ascending : (ys zs : List (Bor (List ℕ))) → IsSorted slices_cmp ys →
    IsFiltered (DiffersFromLast slices_eq) [] ys zs → IsAscending (map row_in zs)
sorted_ascending ys zs s f =
    rw (dedup_is slices_eq ys zs f)
    (ascending-map _ (IsStrictlySortedBy-dedup (on_texts row_in) (λ x y. texts_ties x.now y.now) ys s))

-- and they are the same set of rows
pub sorted_same : (xs ys zs : List (Bor (List ℕ))) (rows : List (List ℕ)) → map row_in xs ≡ rows →
    IsPermutation xs ys → IsFiltered (DiffersFromLast slices_eq) [] ys zs → SameRows (map row_in zs) rows
sorted_same xs ys zs rows e p f row = rw (dedup_is slices_eq ys zs f, ← e) (kept, keeps)
  where
    kept : Contains (map row_in (dedup slices_eq ys)) row → Contains (map row_in xs) row
    kept h =
        let (x, held, is) = Contains-from_map (dedup slices_eq ys) row h in
        subst (λ r. Contains (map row_in xs) r) is
        (Contains-map xs x (Contains-permutation ys xs x (IsPermutation-sym xs ys p)
        (Contains-from_dedup slices_eq ys x held)))

    keeps : Contains (map row_in xs) row → Contains (map row_in (dedup slices_eq ys)) row
    keeps h =
        let (x, held, is) = Contains-from_map xs row h in
        let (k, y, within, at, same) = Any-dedup (on_texts_equal row_in) ys x
        (Contains-permutation xs ys x p held) in
        subst (λ r. Contains (map row_in (dedup slices_eq ys)) r)
        (sym ((bytes_eq-Decides x.now y.now).0 same) ∙ is)
        (Contains-map (dedup slices_eq ys) y (k, within, at))

-- each slice still has its width
pub sorted_width : (k : ℕ) (xs ys zs : List (Bor (List ℕ))) → All (λ x. length x.now ≡ k) xs →
    IsPermutation xs ys → IsFiltered (DiffersFromLast slices_eq) [] ys zs → All (λ x. length x.now ≡ k) zs
sorted_width k xs ys zs h p f =
    rw (dedup_is slices_eq ys zs f)
    (All-dedup slices_eq (λ x. length x.now ≡ k) ys (All-permutation (λ x. length x.now ≡ k) xs ys p h))

-- the slices hold rows of this width where the rows have it
pub width_from_map : (k : ℕ) (xs : List (Bor (List ℕ))) (rows : List (List ℕ)) → map row_in xs ≡ rows →
    All (λ row. length row ≡ k) rows → All (λ x. length x.now ≡ k) xs
width_from_map k xs rows e h i d l =
    let w = h i d.now (rw (← e, length-map xs row_in) l) in
    rw (← e, get_or-map row_in xs i d d.now l) at w

-- one more slice, of the next row
pub sliced_more : (xs : List (Bor (List ℕ))) (x : Bor (List ℕ)) (rows : List (List ℕ)) (i : ℕ) →
    map row_in xs ≡ take i rows → slice_get rows i ≡ Some x.now →
    map row_in (xs ++ x ∷ []) ≡ take (i + 1) rows
sliced_more xs x rows i e r =
    map_push row_in xs x ∙ (rw (
      e,
      take_more rows i [] (slice_get_within rows i x.now r),
      get_or_from_slice_get rows i x.now [] r,
    ) refl)

-- one more row, of the next slice
pub joined_more : (k i : ℕ) (slices : List (Bor (List ℕ))) (d : Bor (List ℕ)) (flat : List ℕ) →
    i < length slices → All (λ x. length x.now ≡ k) slices → length flat ≡ k * i →
    rows_of k i flat ≡ map row_in (take i slices) → rows_of k (i + 1) (flat ++ (get_or slices i d).now) ≡ map
    row_in (take (i + 1) slices)
joined_more k i slices d flat l w whole e =
    rows_of-push k i flat (get_or slices i d).now whole (w i d l) ∙
    (rw (take_more slices i d l, map_push, e) refl)

pub joined_whole : (k i : ℕ) (slices : List (Bor (List ℕ))) (d : Bor (List ℕ)) (flat : List ℕ) →
    i < length slices → All (λ x. length x.now ≡ k) slices → length flat ≡ k * i →
    length (flat ++ (get_or slices i d).now) ≡ k * (i + 1)
joined_whole k i slices d flat l w whole =
    let added = length-append flat (get_or slices i d).now in
    let wide = w i d l in
    grind arith

less_from_not_ge : (o : Ordering) → is_ge o ≡ false → o ≡ Less
less_from_not_ge Less e = refl
less_from_not_ge Equal e = absurd (false≢true (sym e))
less_from_not_ge Greater e = absurd (false≢true (sym e))

-- the step of a pass that finds each row below the next
pub ascending_more : (rows : List (List ℕ)) (i : ℕ) (a b : List ℕ) → 0 < i → slice_get rows (i - 1) ≡ Some a →
    slice_get rows i ≡ Some b → is_ge (row_cmp a b) ≡ false →
    ((k : ℕ) → k + 1 < i → row_cmp (get_or rows k []) (get_or rows (k + 1) []) ≡ Less) → (k : ℕ) →
    k + 1 < i + 1 → row_cmp (get_or rows k []) (get_or rows (k + 1) []) ≡ Less
ascending_more rows i a b l ra rb h before k m = elim (cases_lt (k + 1) i) [
  | inl n ↦ before k n
  | inr g ↦ (
      let first : k ≡ i - 1 = omega arith in
      let second : k + 1 ≡ i = omega arith in
      rw (second, first, get_or_from_slice_get rows (i - 1) a [] ra, get_or_from_slice_get rows i b [] rb)
      (less_from_not_ge _ h))
]

-- a row that isn't below the next one
pub not_ascending : (rows : List (List ℕ)) (i : ℕ) (a b : List ℕ) → 0 < i → slice_get rows (i - 1) ≡ Some a →
    slice_get rows i ≡ Some b → is_ge (row_cmp a b) ≡ true → IsAscending rows → ⊥
not_ascending rows i a b l ra rb h s =
    let less : row_cmp a b ≡ Less = rw (
      get_or_from_slice_get rows (i - 1) a [] ra,
      get_or_from_slice_get rows
          i b [] rb,
    ) at (Less-from_sorted row_cmp rows (i - 1) i [] s (omega arith)
    (slice_get_within rows i b rb)) in
    false≢true (rw less at h)

-- the pass is over
pub ascending_all : (rows : List (List ℕ)) (i : ℕ) → length rows ≤ i →
    ((k : ℕ) → k + 1 < i → row_cmp (get_or rows k []) (get_or rows (k + 1) []) ≡ Less) → IsAscending rows
ascending_all rows i l before = sorted_from_all_adjacent nat_list_cmp_total rows []
    (λ k h. before k (omega arith))

-- rows that are cut out of a flat list as arrays
pub first_chunks-rows_of : (k n : ℕ) (flat : List ℕ) → first_chunks k n flat ≡ rows_of k n flat
first_chunks-rows_of k zero flat = refl
first_chunks-rows_of k (suc n) flat = ap (λ rows. take k flat ∷ rows) (first_chunks-rows_of k n (drop k flat))

-- rows that are joined, and cut again
pub rows_of-joined : (k : ℕ) (rows : List (List ℕ)) → All (λ row. length row ≡ k) rows →
    rows_of k (length rows) (flat_map (λ row. row) rows) ≡ rows
rows_of-joined k [] w = refl
rows_of-joined k (row ∷ rows) w =
    let wide : length row ≡ k = All-head (λ r. length r ≡ k) row rows w in
    let rest = rows_of-joined k rows (All-tail (λ r. length r ≡ k) row rows w) in
    rw (take_at row (flat_map (λ r. r) rows) k wide, drop_at row (flat_map (λ r. r) rows) k wide)
    (ap (λ r. row ∷ r) rest)

-- after the sort of arrays and the removal of repeats
pub arrays_ascending : (ys zs : List (List ℕ)) → IsSorted row_cmp ys →
    IsFiltered (DiffersFromLast (pointwise nat_eq)) [] ys zs → IsAscending zs
arrays_ascending ys zs s f =
    rw (dedup_is (pointwise nat_eq) ys zs f) (IsStrictlySortedBy-dedup nat_list_cmp_total texts_ties ys s)

pub arrays_same : (xs ys zs : List (List ℕ)) → IsPermutation xs ys →
    IsFiltered (DiffersFromLast (pointwise nat_eq)) [] ys zs → SameRows zs xs
arrays_same xs ys zs p f row = rw (dedup_is (pointwise nat_eq) ys zs f) (kept, keeps)
  where
    kept : Contains (dedup (pointwise nat_eq) ys) row → Contains xs row
    kept h = Contains-permutation ys xs row (IsPermutation-sym xs ys p)
        (Contains-from_dedup (pointwise nat_eq) ys row h)

    keeps : Contains xs row → Contains (dedup (pointwise nat_eq) ys) row
    keeps h = Contains-dedup nat_list_eq_equiv (λ x y. (bytes_eq-Decides x y).0) ys row
        (Contains-permutation xs ys row p h)

pub arrays_width : (k : ℕ) (xs ys zs : List (List ℕ)) → All (λ row. length row ≡ k) xs → IsPermutation xs ys →
    IsFiltered (DiffersFromLast (pointwise nat_eq)) [] ys zs → All (λ row. length row ≡ k) zs
arrays_width k xs ys zs h p f =
    rw (dedup_is (pointwise nat_eq) ys zs f)
    (All-dedup (pointwise nat_eq) (λ row. length row ≡ k) ys
    (All-permutation (λ row. length row ≡ k) xs ys p h))

-- the rows of a flat list as arrays of its values
pub arrays_of : (k n : ℕ) (flat : List ℕ) (rows : List (List ℕ)) → 0 < k → length flat ≡ k * n →
    rows ≡ first_chunks k (length flat / k) flat → rows ≡ rows_of k n flat
arrays_of k n flat rows some whole e =
    let many : length flat / k ≡ n = ap (λ m. m / k) whole ∙ mul-div_cancel_left n some in
    e ∙ ap (λ m. first_chunks k m flat) many ∙ first_chunks-rows_of k n flat

-- what arrays are once they are sorted, freed of repeats and joined: rows in order, and the same set
pub record AreSortedRows (k n : ℕ) (flat out : List ℕ) (distinct : List (List ℕ)) : Type 0 where
  pub ascending : IsAscending (rows_of k (length distinct) out)
  pub same : SameRows (rows_of k (length distinct) out) (rows_of k n flat)

pub sorted_arrays : (k n : ℕ) (flat out : List ℕ) (xs ys zs distinct : List (List ℕ)) → 0 < k →
    length flat ≡ k * n → xs ≡ first_chunks k (length flat / k) flat → IsPermutation xs ys →
    IsSorted row_cmp ys → IsFiltered (DiffersFromLast (pointwise nat_eq)) [] ys zs → distinct ≡ zs →
    out ≡ flat_map (λ row. row) distinct → AreSortedRows k n flat out distinct
sorted_arrays k n flat out xs ys zs distinct some whole cut p sorted f e o =
    let rows : xs ≡ rows_of k n flat = arrays_of k n flat xs some whole cut in
    let wide : All (λ row. length row ≡ k) distinct =
    rw e (arrays_width k xs ys zs (rw rows (width-rows_of k n flat whole)) p f) in
    let again : rows_of k (length distinct) out ≡ distinct = ap (rows_of k (length distinct)) o ∙
    rows_of-joined k distinct wide in
    record {
      ascending = rw (again, e) (arrays_ascending ys zs sorted f);
      same = rw (again, e, ← rows) (arrays_same xs ys zs p f);
    }
