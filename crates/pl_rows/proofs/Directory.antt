-- The directory by first values, and what a look-up finds with it.
use Rattle.std.proofs.Common.{◌≡◌, ◌+◌, ◌-◌, ◌<◌, ◌≤◌, ℕ, zero, suc, min, Bool, true, false, List, [], ◌∷◌}
use Rattle.std.proofs.Common.{◌++◌, length, get_or, take, drop, replicate, refl, sym, ap, ◌∙◌, subst, inl}
use Rattle.std.proofs.Common.{inr, arith, slice_get, slice_range, Some, filter, IsTrue, ◌↔◌, count_by}
use Rattle.std.specs.declared.cmp.Ordering.{Ordering}
use Rattle.std.specs.declared.cmp.Ordering.TheVariants.{Less, Equal, Greater}
use Rattle.std.specs.Ordering.{is_lt, is_le}
use Rattle.std.proofs.lemmas.Bool.{cases_lt, cases_Bool, false≢true}
use Rattle.std.proofs.lemmas.Bool.Decides.{nat_tests}
use Rattle.std.proofs.lemmas.Cmp.{tied_itself, nat_list_cmp_total}
use Rattle.std.proofs.lemmas.List.{length-append, length-replicate, get_or_append_left, get_or-append_right}
use Rattle.std.proofs.lemmas.List.{get_or-replicate}
use Rattle.std.proofs.lemmas.Map.Keys.{Less-from_sorted}
use Rattle.std.proofs.lemmas.Map.Lookups.{exact_bytes}
use Rattle.std.proofs.lemmas.Option.{slice_get_within, get_or_from_slice_get, slice_get-get_or}
use Rattle.std.proofs.lemmas.Slice.Eq.{bytes_eq-Decides}
use Rattle.pl_rows.specs.Rows.{row_cmp, AreRows, AreRowsOf, begins_with, is_below}
use Rattle.pl_rows.proofs.Narrowing.{first_from_narrowed, count_by-narrowed}
use Rattle.pl_rows.specs.Layout.{comes_before, IsNarrowed, IsDirectory, IsBracket, IsFound}

-- what comes before a number by its first value comes before each key that begins with that number or a
-- greater one
before_key : (or_equal : Bool) (u v : ℕ) (rest row : List ℕ) → u ≤ v →
    comes_before false (u ∷ []) row ≡ true → comes_before or_equal (v ∷ rest) row ≡ true
before_key true u v rest [] l h = refl
before_key false u v rest [] l h = refl
before_key true u v rest (x ∷ row) l h = grind (arith, nat_tests)
before_key false u v rest (x ∷ row) l h = grind (arith, nat_tests)

-- what doesn't comes before no key that begins with a lesser one
after_key : (or_equal : Bool) (u v : ℕ) (rest row : List ℕ) → v < u →
    comes_before false (u ∷ []) row ≡ false → comes_before or_equal (v ∷ rest) row ≡ false
after_key or_equal u v rest [] l h = absurd (false≢true (sym h))
after_key true u v rest (x ∷ row) l h = grind (arith, nat_tests)
after_key false u v rest (x ∷ row) l h = grind (arith, nat_tests)

-- by its first value a row comes before a number, or doesn't
first_below : (v : ℕ) (row : List ℕ) → 0 < length row → get_or row 0 0 < v →
    comes_before false (v ∷ []) row ≡ true
first_below v [] l h = absurd (omega arith)
first_below v (x ∷ row) l h = grind (arith, nat_tests)

first_not_below : (v : ℕ) (row : List ℕ) → 0 < length row → v ≤ get_or row 0 0 →
    comes_before false (v ∷ []) row ≡ false
first_not_below v [] l h = absurd (omega arith)
first_not_below v (x ∷ row) l h = grind (arith, nat_tests)

-- first values don't fall
first_le : (a b : List ℕ) → row_cmp a b ≡ Less → get_or a 0 0 ≤ get_or b 0 0
first_le [] b h = omega arith
first_le (x ∷ a) [] h = cc
first_le (x ∷ a) (y ∷ b) h = grind (arith, nat_tests)

-- between which places the rows with a key are
pub bracketed : (key : List ℕ) (rows : List (List ℕ)) (starts : List ℕ) → 0 < length key →
    IsDirectory rows starts → get_or key 0 0 + 1 < length starts →
    IsBracket key rows (get_or starts (get_or key 0 0) 0) (get_or starts (get_or key 0 0 + 1) 0)
bracketed [] rows starts l d h = absurd (omega arith)
bracketed (v ∷ rest) rows starts l d h = record {
  in_order = in_order;
  within = high.0;
  below = record {
    before = λ i k. before_key false v v rest _ (omega arith) (low.1.before i k);
    after = λ i k m. after_key false (v + 1) v rest _ (omega arith) (high.1.after i k m);
  };
  at_most = record {
    before = λ i k. before_key true v v rest _ (omega arith) (low.1.before i k);
    after = λ i k m. after_key true (v + 1) v rest _ (omega arith) (high.1.after i k m);
  };
}
  where
    low : (get_or starts v 0 ≤ length rows) × IsNarrowed (comes_before false (v ∷ [])) rows
        (get_or starts v 0) (get_or starts v 0)
    low = d v (omega arith)

    high : (get_or starts (v + 1) 0 ≤ length rows) × IsNarrowed (comes_before false ((v + 1) ∷ [])) rows
        (get_or starts (v + 1) 0) (get_or starts (v + 1) 0)
    high = d (v + 1) h

    in_order : get_or starts v 0 ≤ get_or starts (v + 1) 0
    in_order = elim (cases_lt (get_or starts (v + 1) 0) (get_or starts v 0)) [
      | inr g ↦ g
      | inl m ↦ (
          let next = get_or starts (v + 1) 0 in
          let not_here = after_key false (v + 1) v [] (get_or rows next []) (omega arith)
          (high.1.after next (omega arith) (omega (arith, low.0))) in
          absurd (false≢true (sym not_here ∙ low.1.before next m)))
    ]

-- how far the directory is after the first i rows
pub record IsDirectoryUpTo (rows : List (List ℕ)) (limit : ℕ) (starts : List ℕ) (i : ℕ) : Type 0 where
  pub directory : IsDirectory rows starts
  pub room : length starts ≤ limit
  pub seen : length starts < limit → (k : ℕ) → k < i → get_or (get_or rows k []) 0 0 < length starts

pub directory_none : (rows : List (List ℕ)) (limit : ℕ) → IsDirectoryUpTo rows limit [] 0
directory_none rows limit = record {
  directory = λ v l. absurd (omega arith);
  room = omega arith;
  seen = λ h k l. absurd (omega arith);
}

-- a directory with n more entries, all for row i
pub directory_extended : (rows : List (List ℕ)) (starts : List ℕ) (n i : ℕ) → i ≤ length rows →
    IsDirectory rows starts → ((v : ℕ) → length starts ≤ v → v < length starts + n →
    IsNarrowed (comes_before false (v ∷ [])) rows i i) → IsDirectory rows (starts ++ replicate n i)
directory_extended rows starts n i within d more v l = elim (cases_lt v (length starts)) [
  | inl old ↦ (
      let e : get_or (starts ++ replicate n i) v 0 ≡ get_or starts v 0 =
      get_or_append_left starts (replicate n i) 0 v old in
      rw e (d v old))
  | inr new ↦ (
      let long : v < length starts + n =
      omega (arith, length-append starts (replicate n i), length-replicate n i) in
      let e : get_or (starts ++ replicate n i) v 0 ≡ i = get_or-append_right starts (replicate n i)
      (length starts) v 0 refl new ∙ get_or-replicate n (v - length starts) i 0 (omega arith) in
      rw e (within, more v new long))
]

-- the entries that row i brings
pub directory_more : (k : ℕ) (rows : List (List ℕ)) (limit : ℕ) (starts : List ℕ) (i : ℕ) (row : List ℕ) →
    0 < k → AreRows k rows → slice_get rows i ≡ Some row → IsDirectoryUpTo rows limit starts i →
    IsDirectoryUpTo rows limit (starts ++ replicate (min (get_or row 0 0 + 1) limit - length starts) i)
    (i + 1)
directory_more k rows limit starts i row some are r up = record {
  directory = directory;
  room = room;
  seen = seen;
}
  where
    within : i < length rows
    within = slice_get_within rows i row r

    here : get_or rows i [] ≡ row
    here = get_or_from_slice_get rows i row [] r

    n : ℕ
    n = min (get_or row 0 0 + 1) limit - length starts

    long : length (starts ++ replicate n i) ≡ length starts + n
    long = length-append starts (replicate n i) ∙ ap (λ m. length starts + m) (length-replicate n i)

    wide : (j : ℕ) → j < length rows → 0 < length (get_or rows j [])
    wide j l = omega (arith, are.width j [] l)

    rises : (j : ℕ) → i ≤ j → j < length rows → get_or row 0 0 ≤ get_or (get_or rows j []) 0 0
    rises j g l = elim (cases_lt i j) [
      | inl lt ↦ subst (λ a. get_or a 0 0 ≤ get_or (get_or rows j []) 0 0) here
          (first_le (get_or rows i []) (get_or rows j [])
          (Less-from_sorted row_cmp rows i j [] are.ascending lt l))
      | inr ge ↦ (let same : j ≡ i = omega arith in rw (same, here) (omega arith))
    ]

    directory : IsDirectory rows (starts ++ replicate n i)
    directory = directory_extended rows starts n i (omega (arith, within)) up.directory (λ v g l. record {
      before = λ j m. first_below v (get_or rows j []) (wide j (omega (arith, within)))
          (omega (arith, up.seen (omega arith) j m));
      after = λ j m o. first_not_below v (get_or rows j []) (wide j o) (omega (arith, rises j m o));
    })

    room : length (starts ++ replicate n i) ≤ limit
    room = omega (arith, long, up.room)

    seen : length (starts ++ replicate n i) < limit → (j : ℕ) → j < i + 1 →
        get_or (get_or rows j []) 0 0 < length (starts ++ replicate n i)
    seen h j l = elim (cases_lt j i) [
      | inl lt ↦ omega (arith, long, up.seen (omega (arith, long)) j lt)
      | inr ge ↦ (let same : j ≡ i = omega arith in rw (same, here) (omega (arith, long)))
    ]

-- where there is no directory, a row changes nothing
pub directory_idle : (rows : List (List ℕ)) (limit : ℕ) (starts : List ℕ) (i : ℕ) → limit ≤ 0 →
    IsDirectoryUpTo rows limit starts i → IsDirectoryUpTo rows limit starts (i + 1)
directory_idle rows limit starts i none up = record {
  directory = up.directory;
  room = up.room;
  seen = λ h j l. absurd (omega arith);
}

-- the last entry, past the greatest first value
pub directory_end : (k : ℕ) (rows : List (List ℕ)) (limit : ℕ) (starts : List ℕ) (count : ℕ) → 0 < k →
    AreRows k rows → count ≡ length rows → length starts < limit → IsDirectoryUpTo rows limit starts count →
    IsDirectory rows (starts ++ count ∷ [])
directory_end k rows limit starts count some are e room up =
    directory_extended rows starts 1 count (omega arith) up.directory (λ v g l. record {
      before = λ j m. first_below v _ (omega (arith, are.width j [] (omega arith)))
          (omega (arith, up.seen room j m));
      after = λ j m o. absurd (omega arith);
    })

-- the two tests of an order that a row's first values and a key have
is_le_not_lt : (o : Ordering) → is_lt o ≡ false → is_le o ≡ true → o ≡ Equal
is_le_not_lt Less h k = absurd (false≢true (sym h))
is_le_not_lt Equal h k = refl
is_le_not_lt Greater h k = absurd (false≢true k)

-- a row that has the key, by the counts of those below it and of those up to it
key_place : (key row : List ℕ) (place from to : ℕ) → IsTrue (comes_before false key row) ↔ (place < from) →
    IsTrue (comes_before true key row) ↔ (place < to) → (take (length key) row ≡ key) ↔
    ((from ≤ place) × (place < to))
key_place key row place from to below at_most = (has_place, has_key)
  where
    order : Ordering
    order = row_cmp (take (length key) row) key

    has_place : take (length key) row ≡ key → (from ≤ place) × (place < to)
    has_place e =
        let tied : order ≡ Equal = rw e (tied_itself nat_list_cmp_total key) in (
          elim (cases_lt place from) [
            | inr g ↦ g
            | inl l ↦ absurd (false≢true (sym (ap is_lt tied) ∙ below.1 l))
          ],
          at_most.0 (ap is_le tied),
        )

    not_below : from ≤ place → is_lt order ≡ false
    not_below g = elim (cases_Bool (is_lt order)) [
      | inr e ↦ e
      | inl e ↦ (let l = below.0 e in absurd (omega arith))
    ]

    has_key : (from ≤ place) × (place < to) → take (length key) row ≡ key
    has_key (g, l) = exact_bytes (take (length key) row) key (is_le_not_lt order (not_below g) (at_most.1 l))

pub found_rows : (key : List ℕ) (rows : List (List ℕ)) (from to : ℕ) → IsFound key rows from to →
    AreRowsOf key rows from to
found_rows key rows from to f = record {
  in_order = f.in_order;
  within = f.within;
  rows_are = λ place row r.
      key_place key row place from to (first_from_narrowed (comes_before false key) rows
      from f.below place row r)
      (first_from_narrowed (comes_before true key) rows to f.at_most place row r);
}

pub found_count : (key : List ℕ) (rows : List (List ℕ)) (from to : ℕ) → IsFound key rows from to →
    from ≡ count_by (is_below key) rows
found_count key rows from to f = sym
    (count_by-narrowed (is_below key) rows from (omega (arith, f.in_order, f.within)) f.below)

-- the part of a list in which a test holds, where it holds just there
part_is_filter : (p : List ℕ → Bool) (rows : List (List ℕ)) (from to : ℕ) → from ≤ to → to ≤ length rows →
    ((i : ℕ) → i < from → p (get_or rows i []) ≡ false) →
    ((i : ℕ) → from ≤ i → i < to → p (get_or rows i []) ≡ true) →
    ((i : ℕ) → to ≤ i → i < length rows → p (get_or rows i []) ≡ false) →
    take (to - from) (drop from rows) ≡ filter p rows
part_is_filter p [] from to o w before inside after =
    let e : from ≡ 0 = omega arith in
    let f : to ≡ 0 = omega arith in
    rw (e, f) refl
part_is_filter p (x ∷ rows) zero zero o w before inside after =
    let head : p x ≡ false = after 0 (omega arith) (omega arith) in
    rw head (part_is_filter p rows zero zero o (omega arith) (λ i l. absurd (omega arith))
    (λ i g l. absurd (omega arith)) (λ i g l. after (suc i) (omega arith) (omega arith)))
part_is_filter p (x ∷ rows) zero (suc to) o w before inside after =
    let head : p x ≡ true = inside 0 (omega arith) (omega arith) in
    let rest : take (to - 0) rows ≡ filter p rows = part_is_filter p rows zero to (omega arith) (omega arith)
    (λ i l. absurd (omega arith)) (λ i g l. inside (suc i) (omega arith) (omega arith))
    (λ i g l. after (suc i) (omega arith) (omega arith)) in
    let e : suc to - 0 ≡ suc to = omega arith in
    let e' : to - 0 ≡ to = omega arith in
    rw (head, e) (ap (λ r. x ∷ r) (rw e' at rest))
part_is_filter p (x ∷ rows) (suc from) zero o w before inside after = absurd (omega arith)
part_is_filter p (x ∷ rows) (suc from) (suc to) o w before inside after =
    let head : p x ≡ false = before 0 (omega arith) in
    let e : suc to - suc from ≡ to - from = omega arith in
    rw (head, e) (part_is_filter p rows from to (omega arith) (omega arith)
    (λ i l. before (suc i) (omega arith)) (λ i g l. inside (suc i) (omega arith) (omega arith))
    (λ i g l. after (suc i) (omega arith) (omega arith)))

-- they are all the rows with the key, in order
pub found_all : (key : List ℕ) (rows : List (List ℕ)) (from to : ℕ) → IsFound key rows from to →
    slice_range rows from to ≡ filter (begins_with key) rows
found_all key rows from to f = part_is_filter (begins_with key) rows from to f.in_order
    f.within before inside after
  where
    place_of : (i : ℕ) → i < length rows → (take (length key) (get_or rows i []) ≡ key) ↔
        ((from ≤ i) × (i < to))
    place_of i l = (found_rows key rows from to f).rows_are i (get_or rows i [])
        (slice_get-get_or rows i [] l)

    lacks : (i : ℕ) → ((take (length key) (get_or rows i []) ≡ key) → ⊥) →
        begins_with key (get_or rows i []) ≡ false
    lacks i h = elim (cases_Bool (begins_with key (get_or rows i []))) [
      | inr e ↦ e
      | inl e ↦ absurd (h ((bytes_eq-Decides (take (length key) (get_or rows i [])) key).0 e))
    ]

    before : (i : ℕ) → i < from → begins_with key (get_or rows i []) ≡ false
    before i l = lacks i (λ e. omega (arith, ((place_of i (omega (arith, f.in_order, f.within))).0 e).0))

    inside : (i : ℕ) → from ≤ i → i < to → begins_with key (get_or rows i []) ≡ true
    inside i g l = (bytes_eq-Decides (take (length key) (get_or rows i [])) key).1
        ((place_of i (omega (arith, f.within))).1 (g, l))

    after : (i : ℕ) → to ≤ i → i < length rows → begins_with key (get_or rows i []) ≡ false
    after i g l = lacks i (λ e. omega (arith, ((place_of i l).0 e).1))

-- a key of one value
pub one_key : (key : List ℕ) → length key ≡ 1 → get_or key 0 0 ∷ [] ≡ key
one_key [] h = absurd (omega arith)
one_key (x ∷ []) h = refl
one_key (x ∷ (y ∷ rest)) h = absurd (omega arith)
