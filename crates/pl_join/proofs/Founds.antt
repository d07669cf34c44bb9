-- The rows whose keys are looked up one after another: which they are, and how many.
use Rattle.std.proofs.Common.{◌≡◌, ◌+◌, ◌-◌, ◌<◌, ◌≤◌, ◌||◌, ◌↔◌, ℕ, zero, suc, Bool, true, false}
use Rattle.std.proofs.Common.{List, [], ◌∷◌, ◌++◌, length, take, drop, filter, get_or, slice_range, All}
use Rattle.std.proofs.Common.{Contains, refl, sym, ap, ◌∙◌, subst, inl, inr, arith}
use Rattle.std.specs.List.{flat_map}
use Rattle.std.specs.Str.{bytes_eq}
use Rattle.std.specs.declared.cmp.Ordering.TheVariants.{Less}
use Rattle.std.proofs.lemmas.Bool.{cases_Bool, false_from_ne_true}
use Rattle.std.proofs.lemmas.Cmp.{nat_list_cmp_total}
use Rattle.std.proofs.lemmas.List.{length-append, length-take-le, length-drop, take_more}
use Rattle.std.proofs.lemmas.List.Concat.{flat_map-append}
use Rattle.std.proofs.lemmas.List.Elements.{All-head, All-tail, All-contains}
use Rattle.std.proofs.lemmas.List.Folds.{length-flat_map-take}
use Rattle.std.proofs.lemmas.List.Sums.{length-filter, count_by-le-length}
use Rattle.std.proofs.lemmas.Map.Keys.{sorted_tail}
use Rattle.std.proofs.lemmas.Map.Views.{All-after_first}
use Rattle.std.proofs.lemmas.Slice.Eq.{bytes_eq-Decides}
use Rattle.pl_rows.specs.Rows.{begins_with, row_cmp, IsAscending, SameRows, AreRows, AreRowsOf}
use Rattle.pl_rows.specs.declared.range.Range.{Range}
use Rattle.pl_rows.proofs.Canonical.{not_below_itself}
use Rattle.pl_join.specs.Found.{has_key, rows_in, IsRange, AreRanges, AreFound}
use Rattle.pl_join.proofs.Members.{Contains-filter, Contains-from_filter, Contains-flat_map}
use Rattle.pl_join.proofs.Members.{Contains-from_flat_map, has_row-Contains}

-- ---- how many

-- rows that pass one of two tests which no row passes both
count_either : (p q : List ℕ → Bool) (rows : List (List ℕ)) → ((row : List ℕ) → p row ≡ true → q row ≡ false)
    → length (filter (λ row. p row || q row) rows) ≡ length (filter p rows) + length (filter q rows)
count_either p q [] apart = refl
count_either p q (row ∷ rows) apart =
    let rest = count_either p q rows apart in
    elim (cases_Bool (p row)) [
      | inl y ↦ rw (y, apart row y) (omega (arith, rest))
      | inr n ↦ (elim (cases_Bool (q row)) [
        | inl t ↦ rw (n, t) (omega (arith, rest))
        | inr f ↦ rw (n, f) rest
      ])
    ]

filter_none : (rows : List (List ℕ)) → filter (λ row. false) rows ≡ []
filter_none [] = refl
filter_none (row ∷ rows) = filter_none rows

-- a test that all rows pass
pub filter_whole : (p : List ℕ → Bool) (rows : List (List ℕ)) → length (filter p rows) ≡ length rows
    → filter p rows ≡ rows
filter_whole p [] many = refl
filter_whole p (row ∷ rows) many = elim (cases_Bool (p row)) [
  | inl y ↦ rw y
      (ap (λ rs. row ∷ rs)
      (filter_whole p rows
      (let m : suc (length (filter p rows)) ≡ suc (length rows) = rw y at many in omega (arith, m))))
  | inr n ↦ absurd (let m : length (filter p rows) ≡ suc (length rows) = rw n at many in
      omega (arith, m, length-filter p rows, count_by-le-length p rows))
]

-- the first of ascending keys is none of the others
key_apart : (key : List ℕ) (keys : List (List ℕ)) → IsAscending (key ∷ keys) → Contains keys key → ⊥
key_apart key keys up h =
    not_below_itself row_cmp nat_list_cmp_total key
    (All-contains (λ q. row_cmp key q ≡ Less) keys key (All-after_first row_cmp key keys up) h)

-- as many rows begin with one of the keys as begin with each of them together
pub count_found : (width : ℕ) (keys rows : List (List ℕ)) → IsAscending keys
    → All (λ key. length key ≡ width) keys
    → length (flat_map (λ key. filter (begins_with key) rows) keys) ≡ length
    (filter (has_key keys width) rows)
count_found width [] rows up wide = ap length (sym (filter_none rows))
count_found width (key ∷ keys) rows up wide =
    let first : length key ≡ width = All-head (λ k. length k ≡ width) key keys wide in
    let rest = count_found width keys rows (sorted_tail row_cmp key keys up)
    (All-tail (λ k. length k ≡ width) key keys wide) in
    let apart : (row : List ℕ) → begins_with key row ≡ true → has_key keys width row ≡ false = λ row t.
    false_from_ne_true (has_key keys width row) (λ h.
    let same : take width row ≡ key = ap (λ n. take n row) (sym first)
    ∙ (bytes_eq-Decides (take (length key) row) key).0 t in
    key_apart key keys up (subst (Contains keys) same ((has_row-Contains keys (take width row)).0 h))) in
    let either : length (filter (λ row. begins_with key row || has_key keys width row) rows) ≡ length
    (filter (begins_with key) rows) + length (filter (has_key keys width) rows) =
    count_either (begins_with key) (has_key keys width) rows apart in
    let test : length (filter (has_key (key ∷ keys) width) rows) ≡ length
    (filter (λ row. begins_with key row || has_key keys width row) rows) =
    ap (λ n. length (filter (λ row. bytes_eq (take n row) key || has_key keys width row) rows)) (sym first) in
    length-append (filter (begins_with key) rows) (flat_map (λ k. filter (begins_with k) rows) keys)
    ∙ ap (λ n. length (filter (begins_with key) rows) + n) rest ∙ sym either ∙ sym test

-- ---- which

pub same_found : (width : ℕ) (keys rows : List (List ℕ)) → All (λ key. length key ≡ width) keys
    → SameRows (flat_map (λ key. filter (begins_with key) rows) keys) (filter (has_key keys width) rows)
same_found width keys rows wide row = (
  λ h. (let (key, among, held) = Contains-from_flat_map (λ k. filter (begins_with k) rows) keys row h in
      let (there, t) = Contains-from_filter (begins_with key) rows row held in
      let first : length key ≡ width = All-contains (λ k. length k ≡ width) keys key wide among in
      let same : key ≡ take width row =
      sym (ap (λ n. take n row) (sym first) ∙ (bytes_eq-Decides (take (length key) row) key).0 t) in
      Contains-filter (has_key keys width) rows row there
      ((has_row-Contains keys (take width row)).1 (subst (Contains keys) same among))),
  λ h. (let (there, t) = Contains-from_filter (has_key keys width) rows row h in
      let among : Contains keys (take width row) = (has_row-Contains keys (take width row)).0 t in
      let long : length (take width row) ≡ width = All-contains (λ k. length k ≡ width) keys
      (take width row) wide among in
      let begins : begins_with (take width row) row ≡ true =
      (bytes_eq-Decides (take (length (take width row)) row) (take width row)).1
      (ap (λ n. take n row) long) in
      Contains-flat_map (λ k. filter (begins_with k) rows) keys (take width row) row among
      (Contains-filter (begins_with (take width row)) rows row there begins)),
)

-- ---- the loops

-- how many rows a range has
pub length-range : (rows : List (List ℕ)) (from to : ℕ) → from ≤ to → to ≤ length rows
    → length (slice_range rows from to) ≡ to - from
length-range rows from to l m = length-take-le (to - from) (drop from rows)
    (omega (arith, length-drop from rows))

-- one range more
pub rows_in-more : (rows : List (List ℕ)) (ranges : List Range) (i : ℕ) (d : Range) → i < length ranges
    → rows_in rows (take (i + 1) ranges) ≡ rows_in rows (take i ranges)
    ++ slice_range rows (get_or ranges i d).from (get_or ranges i d).to
rows_in-more rows ranges i d l =
    ap (rows_in rows) (take_more ranges i d l)
    ∙ flat_map-append (λ (r : Range). slice_range rows r.from r.to) (take i ranges) (get_or ranges i d ∷ [])
    ∙ ap (λ rs. rows_in rows (take i ranges) ++ rs)
    (nothing_more (slice_range rows (get_or ranges i d).from (get_or ranges i d).to))
  where
    nothing_more : (xs : List (List ℕ)) → xs ++ [] ≡ xs
    nothing_more [] = refl
    nothing_more (x ∷ xs) = ap (λ ys. x ∷ ys) (nothing_more xs)

pub rows_in-most : (rows : List (List ℕ)) (ranges : List Range) (i : ℕ) (d : Range) → i < length ranges
    → AreRanges (length rows) ranges
    → length (rows_in rows (take i ranges)) + ((get_or ranges i d).to - (get_or ranges i d).from) ≤ length
    (rows_in rows ranges)
rows_in-most rows ranges i d l are =
    let most = length-flat_map-take (λ (r : Range). slice_range rows r.from r.to) ranges i d l in
    let is = are i d l in
    let long = length-range rows (get_or ranges i d).from (get_or ranges i d).to is.in_order is.within in
    omega (arith, most, long)

-- the rows of one key more
pub found_more : (rows keys : List (List ℕ)) (ranges : List Range) (i : ℕ) (key row : List ℕ) (range : Range)
    → i < length keys → get_or keys i row ≡ key
    → AreFound rows (take i keys) ranges → AreRowsOf key rows range.from range.to
    → slice_range rows range.from range.to ≡ filter (begins_with key) rows
    → AreFound rows (take (i + 1) keys) (ranges ++ range ∷ [])
found_more rows keys ranges i key row range l at found are all = record {
  ranges_are = push (IsRange (length rows)) ranges range found.ranges_are
      (record { in_order = are.in_order; within = are.within });
  rows_are =
      flat_map-append (λ (r : Range). slice_range rows r.from r.to) ranges (range ∷ [])
      ∙ ap (λ rs. rs ++ (slice_range rows range.from range.to ++ [])) found.rows_are
      ∙ ap (λ rs. flat_map F (take i keys) ++ (rs ++ [])) (all ∙ ap F (sym at))
      ∙ sym (ap (flat_map F) (take_more keys i row l)
      ∙ flat_map-append F (take i keys) (get_or keys i row ∷ []));
}
  where
    F : List ℕ → List (List ℕ)
    F k = filter (begins_with k) rows

    push : {X : Type 0} (P : X → Type 0) (xs : List X) (x : X) → All P xs → P x → All P (xs ++ x ∷ [])
    push P [] x all h zero d l = h
    push P [] x all h (suc k) d l = absurd (omega arith)
    push P (y ∷ ys) x all h zero d l = all 0 d (omega arith)
    push P (y ∷ ys) x all h (suc k) d l = push P ys x (λ j e m. all (suc j) e (omega arith)) h k d
        (omega arith)

-- ---- what the look-ups come to

pub found_most : (rows keys : List (List ℕ)) (ranges : List Range) (width : ℕ) → AreFound rows keys ranges
    → AreRows width keys → length (rows_in rows ranges) ≤ length rows
found_most rows keys ranges width found are =
    omega (
      arith,
      ap length found.rows_are,
      count_found width keys rows are.ascending are.width,
      length-filter (has_key keys width) rows,
      count_by-le-length (has_key keys width) rows,
    )

pub found_all : (rows keys : List (List ℕ)) (ranges : List Range) (width : ℕ) → AreFound rows keys ranges
    → AreRows width keys → length (rows_in rows ranges) ≡ length rows
    → filter (has_key keys width) rows ≡ rows
found_all rows keys ranges width found are all =
    filter_whole (has_key keys width) rows
    (sym (count_found width keys rows are.ascending are.width) ∙ sym (ap length found.rows_are) ∙ all)

pub found_same : (rows keys : List (List ℕ)) (ranges : List Range) (width : ℕ) (made : List (List ℕ))
    → AreFound rows keys ranges → AreRows width keys → SameRows made (rows_in rows ranges)
    → SameRows made (filter (has_key keys width) rows)
found_same rows keys ranges width made found are same row =
    let which = same_found width keys rows are.width row in
    let here = subst (λ rs. Contains made row ↔ Contains rs row) found.rows_are (same row) in
    (λ h. which.0 (here.0 h), λ h. here.1 (which.1 h))
