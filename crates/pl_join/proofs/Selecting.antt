-- The tests that decide which rows a selection keeps.
use Rattle.std.proofs.Common.{◌≡◌, ◌+◌, ◌<◌, ◌&&◌, ◌≤◌, ℕ, Bool, true, List, [], ◌∷◌, ◌++◌, length}
use Rattle.std.proofs.Common.{filter, take, get_or, All, refl, sym, ap, ◌∙◌, slice_index, arith}
use Rattle.std.specs.Bool.{Decides}
use Rattle.std.proofs.lemmas.Bool.Decides.{Decides-eqb, same_from_decides}
use Rattle.std.proofs.lemmas.List.{length-map, length-take-le, map_more, take_all, take_more}
use Rattle.std.proofs.lemmas.List.Elements.{All-head, All-tail}
use Rattle.std.proofs.lemmas.List.Folds.{list_all-append}
use Rattle.std.proofs.lemmas.Slice.Eq.{bytes_eq-Decides}
use Rattle.pl_join.specs.declared.source.Source.{Source}
use Rattle.pl_join.specs.declared.source.Source.TheVariants.{Column}
use Rattle.pl_join.specs.declared.selection.Test.{Test}
use Rattle.pl_join.specs.Source.{value_at, picked, looked_at, fits_slots, passes, passes_all}
use Rattle.pl_join.proofs.Joining.{same_parts}
use Rattle.pl_join.proofs.Loops.{fits_more}

-- the row begins with what the first sources give, and one source more
record FitsMore (row values : List ℕ) (sources : List Source) (i : ℕ) (d : Source) : Type 0 where
  pub before : take i row ≡ looked_at (take i sources) values
  pub here : get_or row i 0 ≡ value_at values (get_or sources i d)

fits_less : (row values : List ℕ) (sources : List Source) (i : ℕ) (d : Source) → i < length row
    → i < length sources → take (i + 1) row ≡ looked_at (take (i + 1) sources) values
    → FitsMore row values sources i d
fits_less row values sources i d l m e =
    let parts : take i row ++ get_or row i 0 ∷ [] ≡ looked_at (take i sources) values
    ++ value_at values (get_or sources i d) ∷ [] =
    sym (take_more row i 0 l) ∙ e ∙ map_more (value_at values) sources i d m in
    let long : length (take i row) ≡ length (looked_at (take i sources) values) =
    omega (
      arith,
      length-take-le i row (omega arith),
      length-map (take i sources) (value_at values),
      length-take-le i sources (omega arith),
    ) in
    let (before, last) = same_parts (take i row) (looked_at (take i sources) values) (get_or row i 0 ∷ [])
    (value_at values (get_or sources i d) ∷ []) long parts in
    record { before = before; here = cc }

-- a test more, of the source at i
pub test_more : (tests : List Test) (test : Test) (row values : List ℕ) (sources : List Source) (i : ℕ)
    (d : Source) → i < length row → i < length sources → test.column ≡ i
    → value_at row test.source ≡ value_at values (get_or sources i d)
    → Decides (passes_all tests row) (take i row ≡ looked_at (take i sources) values)
    → Decides (passes_all (tests ++ test ∷ []) row)
    (take (i + 1) row ≡ looked_at (take (i + 1) sources) values)
test_more tests test row values sources i d l m at value so_far = (forth, back)
  where
    step : passes_all (tests ++ test ∷ []) row ≡ (passes_all tests row && (passes row test && true))
    step = list_all-append (passes row) tests (test ∷ [])

    tested : Decides (passes row test) (get_or row i 0 ≡ value_at values (get_or sources i d))
    tested = (
      λ t. ap (λ k. get_or row k 0) (sym at)
          ∙ (Decides-eqb (slice_index row test.column) (value_at row test.source)).0 t ∙ value,
      λ e. (Decides-eqb (slice_index row test.column) (value_at row test.source)).1
          (ap (λ k. get_or row k 0) at ∙ e ∙ sym value),
    )

    first_of_both : (a b : Bool) → (a && (b && true)) ≡ true → a ≡ true
    first_of_both a b h = grind arith

    second_of_both : (a b : Bool) → (a && (b && true)) ≡ true → b ≡ true
    second_of_both a b h = grind arith

    both : (a b : Bool) → a ≡ true → b ≡ true → (a && (b && true)) ≡ true
    both a b h k = grind arith

    forth : passes_all (tests ++ test ∷ []) row ≡ true
        → take (i + 1) row ≡ looked_at (take (i + 1) sources) values
    forth h =
        fits_more row values sources i d l m (so_far.0 (first_of_both _ _ (sym step ∙ h)))
        (tested.0 (second_of_both _ _ (sym step ∙ h)))

    back : take (i + 1) row ≡ looked_at (take (i + 1) sources) values
        → passes_all (tests ++ test ∷ []) row ≡ true
    back e =
        let parts : FitsMore row values sources i d = fits_less row values sources i d l m e in
        step ∙ both _ _ (so_far.1 parts.before) (tested.1 parts.here)

-- no test more, where the source at i is the value at i itself
pub test_left : (tests : List Test) (source : Source) (row values : List ℕ) (sources : List Source) (i : ℕ)
    (d : Source) → i < length row → i < length sources → source ≡ Column i
    → value_at row source ≡ value_at values (get_or sources i d)
    → Decides (passes_all tests row) (take i row ≡ looked_at (take i sources) values)
    → Decides (passes_all tests row) (take (i + 1) row ≡ looked_at (take (i + 1) sources) values)
test_left tests source row values sources i d l m is value so_far =
    let here : get_or row i 0 ≡ value_at values (get_or sources i d) = sym (ap (value_at row) is) ∙ value in (
      λ h. fits_more row values sources i d l m (so_far.0 h) here,
      λ e. so_far.1 (let parts : FitsMore row values sources i d = fits_less row values sources i d l m e in
          parts.before),
    )

-- the tests of all sources
pub tests_are : (tests : List Test) (row : List ℕ) (sources : List Source) (columns : List ℕ) (i : ℕ)
    → length row ≤ i → length sources ≤ i → Decides (passes_all tests row)
    (take i row ≡ looked_at (take i sources) (picked columns row))
    → passes_all tests row ≡ fits_slots sources columns row
tests_are tests row sources columns i l m so_far =
    let rows : take i row ≡ row = take_all i row l in
    let wanted : looked_at (take i sources) (picked columns row) ≡ looked_at sources (picked columns row) =
    ap (λ s. looked_at s (picked columns row)) (take_all i sources m) in
    same_from_decides _ _ (λ h. sym rows ∙ so_far.0 h ∙ wanted, λ e. so_far.1 (rows ∙ e ∙ sym wanted))
    (bytes_eq-Decides row (looked_at sources (picked columns row)))

-- tests that say the same of each row keep the same rows
pub filter_agree : {X : Type 0} (p q : X → Bool) (rows : List X) → All (λ row. p row ≡ q row) rows
    → filter p rows ≡ filter q rows
filter_agree p q [] same = refl
filter_agree p q (row ∷ rows) same =
    let first : p row ≡ q row = All-head (λ r. p r ≡ q r) row rows same in
    let rest : filter p rows ≡ filter q rows = filter_agree p q rows
    (All-tail (λ r. p r ≡ q r) row rows same) in
    rw (first, rest) refl
