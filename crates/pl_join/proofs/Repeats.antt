-- Rows that are appended one after another, but for those that repeat the last one.
use Rattle.std.proofs.Common.{◌≡◌, ◌+◌, ◌-◌, ◌*◌, ◌<◌, ℕ, zero, suc, List, [], ◌∷◌, ◌++◌, length, map, take}
use Rattle.std.proofs.Common.{drop, get_or, slice_get, Some, Contains, sym, ap, ◌∙◌, subst, inl, inr, arith}
use Rattle.std.proofs.Common.{Result, IfOk}
use Rattle.std.specs.declared.alloc.AllocError.{AllocError}
use Rattle.std.proofs.lemmas.List.{take-append-drop, length-take-le, map_more}
use Rattle.std.proofs.lemmas.List.Elements.{Contains-append_left, Contains-push, Contains-push_cases}
use Rattle.std.proofs.lemmas.Option.{slice_get_within, get_or_from_slice_get}
use Rattle.std.proofs.lemmas.Result.{IfOk-weaker}
use Rattle.pl_rows.specs.Rows.{Rows, SameRows, rows_of}
use Rattle.pl_rows.proofs.Places.{rows_of-push}

-- the row that the flat list ends with is one of its rows
last_held : (k count : ℕ) (flat row : List ℕ) → length flat ≡ k * count → length row ≡ k → 0 < count
    → drop (length flat - length row) flat ≡ row → Contains (rows_of k count flat) row
last_held k zero flat row whole wide some last = absurd (omega arith)
last_held k (suc n) flat row whole wide some last =
    let many : k * suc n ≡ k * n + k = grind arith in
    let front : List ℕ = take (length flat - length row) flat in
    let parts : front ++ row ≡ flat = ap (λ xs. front ++ xs) (sym last)
    ∙ take-append-drop (length flat - length row) flat in
    let filled : length front ≡ k * n =
    omega (arith, length-take-le (length flat - length row) flat (omega arith)) in
    let count : n + 1 ≡ suc n = omega arith in
    let rows : rows_of k (suc n) flat ≡ rows_of k n front ++ row ∷ [] =
    sym (ap (λ c. rows_of k c flat) count) ∙ ap (rows_of k (n + 1)) (sym parts)
    ∙ rows_of-push k n front row filled wide in
    subst (λ (all : List (List ℕ)). Contains all row) (sym rows) (Contains-push (rows_of k n front) row)

-- a row that is there already adds none
pub held_already : (k count : ℕ) (flat row : List ℕ) → length flat ≡ k * count → length row ≡ k → 0 < count
    → drop (length flat - length row) flat ≡ row → SameRows (rows_of k count flat)
    (rows_of k count flat ++ row ∷ [])
held_already k count flat row whole wide some last other = (
  λ h. Contains-append_left (rows_of k count flat) (row ∷ []) other h,
  λ h. elim (Contains-push_cases (rows_of k count flat) row other h) [
    | inl m ↦ m
    | inr e ↦ subst (Contains (rows_of k count flat)) e (last_held k count flat row whole wide some last)
  ],
)

same_trans : (xs ys zs : List (List ℕ)) → SameRows xs ys → SameRows ys zs → SameRows xs zs
same_trans xs ys zs a b row = (λ h. (b row).0 ((a row).0 h), λ h. (a row).1 ((b row).1 h))

same_push : (xs ys : List (List ℕ)) (row : List ℕ) → SameRows xs ys
    → SameRows (xs ++ row ∷ []) (ys ++ row ∷ [])
same_push xs ys row same other = (through xs ys (λ r. (same r).0), through ys xs (λ r. (same r).1))
  where
    through : (xs ys : List (List ℕ)) → ((r : List ℕ) → Contains xs r → Contains ys r)
        → Contains (xs ++ row ∷ []) other → Contains (ys ++ row ∷ []) other
    through xs ys f h = elim (Contains-push_cases xs row other h) [
      | inl m ↦ Contains-append_left ys (row ∷ []) other (f other m)
      | inr e ↦ subst (Contains (ys ++ row ∷ [])) e (Contains-push ys row)
    ]

-- what is made of the row at i is appended
pub same_more : (F : List ℕ → List ℕ) (i : ℕ) (rows before after : List (List ℕ)) (row made : List ℕ)
    → slice_get rows i ≡ Some row → made ≡ F row → SameRows before (map F (take i rows))
    → SameRows after (before ++ made ∷ []) → SameRows after (map F (take (i + 1) rows))
same_more F i rows before after row made at em so_far appended =
    let within : i < length rows = slice_get_within rows i row at in
    let here : get_or rows i row ≡ row = get_or_from_slice_get rows i row row at in
    let step : map F (take i rows) ++ made ∷ [] ≡ map F (take (i + 1) rows) =
    ap (λ r. map F (take i rows) ++ r ∷ []) (em ∙ sym (ap F here)) ∙ sym (map_more F rows i row within) in
    subst (SameRows after) step
    (same_trans after (before ++ made ∷ []) (map F (take i rows) ++ made ∷ []) appended
    (same_push before (map F (take i rows)) made so_far))

-- the table that was made of the rows has them
pub same_made : (result : Result Rows AllocError) (rows wanted : List (List ℕ)) → SameRows rows wanted
    → IfOk result (λ t. SameRows t.rows rows) → IfOk result (λ t. SameRows t.rows wanted)
same_made result rows wanted same h =
    IfOk-weaker result (λ (t : Rows). SameRows t.rows rows) (λ (t : Rows). SameRows t.rows wanted)
    (λ t a. same_trans t.rows rows wanted a same) h
