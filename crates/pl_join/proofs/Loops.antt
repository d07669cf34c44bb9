-- The steps of the loops that push rows one after another into a flat list.
use Rattle.std.proofs.Common.{◌≡◌, ◌+◌, ◌*◌, ◌<◌, ◌≤◌, ◌≢◌, ◌↔◌, ◌==◌, ℕ, Bool, true, false, List, [], ◌∷◌}
use Rattle.std.proofs.Common.{◌++◌, length, map, filter, take, drop, get_or, slice_get, Some, refl, sym, ap}
use Rattle.std.proofs.Common.{◌∙◌, subst, arith, Result, IfOk, IsTrue, Contains}
use Rattle.std.specs.Bool.{Decides}
use Rattle.std.proofs.lemmas.Bool.Decides.{Decides-eqb, Decides-not, same_from_decides}
use Rattle.std.proofs.lemmas.List.{map_more, map_push, take_more, take_all, length-append, append-nil}
use Rattle.std.proofs.lemmas.List.{take-append-drop, length-take-le, length-drop}
use Rattle.std.proofs.lemmas.List.Elements.{filter_more, filter-append, All-filter}
use Rattle.std.proofs.lemmas.List.Kept.{IsStrictlySortedBy-filter}
use Rattle.std.proofs.lemmas.List.Sums.{length-filter, count_by-le-length}
use Rattle.std.proofs.lemmas.Option.{slice_get_within, get_or_from_slice_get}
use Rattle.std.specs.declared.alloc.AllocError.{AllocError}
use Rattle.pl_rows.specs.Rows.{Rows, AreRows, SameRows, rows_of, row_cmp}
use Rattle.pl_rows.proofs.Places.{rows_of-push}
use Rattle.pl_join.specs.declared.filters.Keep.{Keep}
use Rattle.pl_join.specs.declared.slot.Slot.{Slot}
use Rattle.pl_join.specs.declared.source.Source.{Source}
use Rattle.pl_join.specs.Relation.{Assignment, slot_value}
use Rattle.pl_join.specs.Source.{value_at, looked_at, differ, has_row, keeps_where, is_kept}
use Rattle.pl_join.proofs.Members.{has_row-Contains}

-- a row more in the flat list
pub whole_more : (arity count : ℕ) (flat row : List ℕ) → length flat ≡ arity * count → length row ≡ arity
    → length (flat ++ row) ≡ arity * (count + 1)
whole_more arity count flat row h w =
    let e : arity * (count + 1) ≡ arity * count + arity = grind arith in
    omega (arith, length-append flat row)

-- the row at i, and what is made of it, is pushed
pub mapped_more : (F : List ℕ → List ℕ) (arity i : ℕ) (rows : List (List ℕ)) (flat row : List ℕ)
    → slice_get rows i ≡ Some row → length flat ≡ arity * i → length (F row) ≡ arity
    → rows_of arity i flat ≡ map F (take i rows) → rows_of arity (i + 1) (flat ++ F row) ≡ map F
    (take (i + 1) rows)
mapped_more F arity i rows flat row at whole wide so_far =
    let within : i < length rows = slice_get_within rows i row at in
    let here : get_or rows i row ≡ row = get_or_from_slice_get rows i row row at in
    rows_of-push arity i flat (F row) whole wide ∙ ap (λ r. r ++ F row ∷ []) so_far
    ∙ sym (map_more F rows i row within ∙ ap (λ r. map F (take i rows) ++ F r ∷ []) here)

-- the row at i passes and is pushed
pub kept_more : (p : List ℕ → Bool) (arity count i : ℕ) (rows : List (List ℕ)) (flat row : List ℕ)
    → slice_get rows i ≡ Some row → length flat ≡ arity * count → length row ≡ arity → p row ≡ true
    → rows_of arity count flat ≡ filter p (take i rows)
    → rows_of arity (count + 1) (flat ++ row) ≡ filter p (take (i + 1) rows)
kept_more p arity count i rows flat row at whole wide passes so_far =
    let within : i < length rows = slice_get_within rows i row at in
    let here : get_or rows i row ≡ row = get_or_from_slice_get rows i row row at in
    let step : filter p (take (i + 1) rows) ≡ filter p (take i rows)
    ++ row ∷ [] = filter_more p rows i row within ∙ rw (here, passes) refl in
    rows_of-push arity count flat row whole wide ∙ ap (λ r. r ++ row ∷ []) so_far ∙ sym step

pub row_kept : (p : List ℕ → Bool) (i : ℕ) (rows before : List (List ℕ)) (row : List ℕ)
    → slice_get rows i ≡ Some row → p row ≡ true → before ≡ filter p (take i rows) → before
    ++ row ∷ [] ≡ filter p (take (i + 1) rows)
row_kept p i rows before row at passes so_far =
    let within : i < length rows = slice_get_within rows i row at in
    let here : get_or rows i row ≡ row = get_or_from_slice_get rows i row row at in
    ap (λ r. r ++ row ∷ []) so_far ∙ sym (filter_more p rows i row within ∙ rw (here, passes) refl)

-- the row at i doesn't pass, and nothing is pushed
pub left_out : (p : List ℕ → Bool) (i : ℕ) (rows : List (List ℕ)) (row : List ℕ) → slice_get rows i ≡ Some row
    → p row ≡ false → filter p (take (i + 1) rows) ≡ filter p (take i rows)
left_out p i rows row at fails =
    let within : i < length rows = slice_get_within rows i row at in
    let here : get_or rows i row ≡ row = get_or_from_slice_get rows i row row at in
    filter_more p rows i row within ∙ rw (here, fails) (append-nil (filter p (take i rows)))

-- the table that was made has the rows that were wanted
pub same_along : (result : Result Rows AllocError) (made wanted : List (List ℕ)) → made ≡ wanted
    → IfOk result (λ t. SameRows t.rows made) → IfOk result (λ t. SameRows t.rows wanted)
same_along result made wanted e h = subst (λ rows. IfOk result (λ (t : Rows). SameRows t.rows rows)) e h

-- all rows were gone through
pub kept_all : (p : List ℕ → Bool) (arity n count i : ℕ) (rows : List (List ℕ)) (flat : List ℕ) → n ≡ arity
    → length rows ≤ i → rows_of arity count flat ≡ filter p (take i rows)
    → rows_of n count flat ≡ filter p rows
kept_all p arity n count i rows flat e l so_far = ap (λ k. rows_of k count flat) e ∙ so_far
    ∙ ap (filter p) (take_all i rows l)

-- two sources that differ in a row, and two that don't
pub differs : (a b : Source) (row : List ℕ) (x y : ℕ) → x ≡ value_at row a → y ≡ value_at row b → x ≢ y
    → differ a b row ≡ true
differs a b row x y e f n =
    (Decides-not (value_at row a == value_at row b) (Decides-eqb (value_at row a) (value_at row b))).1
    (λ s. n (e ∙ s ∙ sym f))

pub no_difference : (a b : Source) (row : List ℕ) (x y : ℕ) → x ≡ value_at row a → y ≡ value_at row b → x ≡ y
    → differ a b row ≡ false
no_difference a b row x y e f s =
    let same : (value_at row a == value_at row b) ≡ true = (Decides-eqb (value_at row a) (value_at row b)).1
    (sym e ∙ s ∙ f) in
    rw same refl

-- what a look-up says of a row
pub kept_is : (keep : Keep) (others : List (List ℕ)) (sources : List Source) (row values : List ℕ)
    (found answer : Bool) → values ≡ looked_at sources row → IsTrue found ↔ Contains others values
    → answer ≡ keeps_where keep found → answer ≡ is_kept keep others sources row
kept_is keep others sources row values found answer e h a =
    let here : Decides found (Contains others (looked_at sources row)) =
    subst (λ v. Decides found (Contains others v)) e h in
    let same : has_row others (looked_at sources row) ≡ found =
    same_from_decides _ _ (has_row-Contains others (looked_at sources row)) here in
    a ∙ sym (ap (keeps_where keep) same)

-- behind rows that are all kept, one that is kept too, and one that is not
pub all_kept_more : (p : List ℕ → Bool) (i : ℕ) (rows : List (List ℕ)) (row : List ℕ)
    → slice_get rows i ≡ Some row → p row ≡ true → filter p (take i rows) ≡ take i rows
    → filter p (take (i + 1) rows) ≡ take (i + 1) rows
all_kept_more p i rows row at passes so_far =
    let within : i < length rows = slice_get_within rows i row at in
    let here : get_or rows i row ≡ row = get_or_from_slice_get rows i row row at in
    let step : filter p (take (i + 1) rows) ≡ filter p (take i rows)
    ++ row ∷ [] = filter_more p rows i row within ∙ rw (here, passes) refl in
    step ∙ ap (λ r. r ++ row ∷ []) so_far
    ∙ sym (take_more rows i row within ∙ ap (λ r. take i rows ++ r ∷ []) here)

pub left_out_first : (p : List ℕ → Bool) (i : ℕ) (rows : List (List ℕ)) (row : List ℕ)
    → slice_get rows i ≡ Some row → p row ≡ false → filter p (take i rows) ≡ take i rows
    → filter p (take (i + 1) rows) ≡ take i rows
left_out_first p i rows row at fails so_far = left_out p i rows row at fails ∙ so_far

-- where a row is left out, fewer are kept
pub fewer_kept : (p : List ℕ → Bool) (i : ℕ) (rows : List (List ℕ)) → i < length rows
    → filter p (take (i + 1) rows) ≡ take i rows → length (filter p rows) < length rows
fewer_kept p i rows l front =
    let parts : filter p rows ≡ take i rows ++ filter p (drop (i + 1) rows) =
    ap (filter p) (sym (take-append-drop (i + 1) rows))
    ∙ filter-append p (take (i + 1) rows) (drop (i + 1) rows)
    ∙ ap (λ xs. xs ++ filter p (drop (i + 1) rows)) front in
    omega (
      arith,
      ap length parts,
      length-append (take i rows) (filter p (drop (i + 1) rows)),
      length-take-le i rows (omega arith),
      length-filter p (drop (i + 1) rows),
      count_by-le-length p (drop (i + 1) rows),
      length-drop (i + 1) rows,
    )

-- the rows of a table that are kept are the rows of a table
pub are_rows-filter : (p : List ℕ → Bool) (arity : ℕ) (rows : List (List ℕ)) → AreRows arity rows
    → AreRows arity (filter p rows)
are_rows-filter p arity rows are = record {
  width = All-filter p (λ row. length row ≡ arity) rows are.width;
  ascending = IsStrictlySortedBy-filter row_cmp p rows are.ascending;
}

-- equal lists have the same set of rows
pub same_rows : (xs ys : List (List ℕ)) → xs ≡ ys → SameRows xs ys
same_rows xs ys e row = rw e (λ h. h, λ h. h)

-- one slot's source more
pub sources_more : (classes : List ℕ) (sources : List Source) (slots : List Slot) (i : ℕ) (source : Source)
    (d : Slot) (f : Assignment) → i < length slots → looked_at sources (map f classes) ≡ map (slot_value f)
    (take i slots) → value_at (map f classes) source ≡ slot_value f (get_or slots i d)
    → looked_at (sources ++ source ∷ []) (map f classes) ≡ map (slot_value f) (take (i + 1) slots)
sources_more classes sources slots i source d f l so_far here =
    map_push (value_at (map f classes)) sources source
    ∙ ap (λ values. values ++ value_at (map f classes) source ∷ []) so_far
    ∙ ap (λ value. map (slot_value f) (take i slots) ++ value ∷ []) here
    ∙ sym (map_more (slot_value f) slots i d l)

-- the row at i passes, and what is made of it is pushed
pub kept_mapped_more : (F : List ℕ → List ℕ) (p : List ℕ → Bool) (arity count i : ℕ) (rows : List (List ℕ))
    (flat row : List ℕ) → slice_get rows i ≡ Some row → length flat ≡ arity * count → length (F row) ≡ arity
    → p row ≡ true → rows_of arity count flat ≡ map F (filter p (take i rows))
    → rows_of arity (count + 1) (flat ++ F row) ≡ map F (filter p (take (i + 1) rows))
kept_mapped_more F p arity count i rows flat row at whole wide passes so_far =
    let within : i < length rows = slice_get_within rows i row at in
    let here : get_or rows i row ≡ row = get_or_from_slice_get rows i row row at in
    let step : filter p (take (i + 1) rows) ≡ filter p (take i rows)
    ++ row ∷ [] = filter_more p rows i row within ∙ rw (here, passes) refl in
    rows_of-push arity count flat (F row) whole wide ∙ ap (λ r. r ++ F row ∷ []) so_far
    ∙ sym (ap (map F) step ∙ map_push F (filter p (take i rows)) row)

-- the first values of a row are what the sources give, one more
pub fits_more : (row values : List ℕ) (sources : List Source) (i : ℕ) (d : Source) → i < length row
    → i < length sources → take i row ≡ looked_at (take i sources) values
    → get_or row i 0 ≡ value_at values (get_or sources i d)
    → take (i + 1) row ≡ looked_at (take (i + 1) sources) values
fits_more row values sources i d l m so_far here =
    take_more row i 0 l ∙ ap (λ front. front ++ get_or row i 0 ∷ []) so_far
    ∙ ap (λ value. looked_at (take i sources) values ++ value ∷ []) here
    ∙ sym (map_more (value_at values) sources i d m)

-- the number at i passes or doesn't
pub number_kept : (p : ℕ → Bool) (xs chosen : List ℕ) (i : ℕ) → i < length xs → p (get_or xs i 0) ≡ true
    → chosen ≡ filter p (take i xs) → chosen ++ get_or xs i 0 ∷ [] ≡ filter p (take (i + 1) xs)
number_kept p xs chosen i l passes so_far = ap (λ front. front ++ get_or xs i 0 ∷ []) so_far
    ∙ sym (filter_more p xs i 0 l ∙ rw passes refl)

pub number_left : (p : ℕ → Bool) (xs chosen : List ℕ) (i : ℕ) → i < length xs → p (get_or xs i 0) ≡ false
    → chosen ≡ filter p (take i xs) → chosen ≡ filter p (take (i + 1) xs)
number_left p xs chosen i l fails so_far = so_far
    ∙ sym (filter_more p xs i 0 l ∙ rw fails (append-nil (filter p (take i xs))))
