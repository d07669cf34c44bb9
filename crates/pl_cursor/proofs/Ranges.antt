-- Parts of a list, from one place up to another.
use Rattle.std.proofs.Common.{◌≡◌, ◌+◌, ◌-◌, ◌<◌, ◌≤◌, ℕ, suc, List, [], ◌∷◌, ◌++◌, length, get_or, take}
use Rattle.std.proofs.Common.{drop, Contains, slice_get, slice_range, Some, refl, sym, ap, ◌∙◌, arith}
use Rattle.std.proofs.Math.Seq.{take-add}
use Rattle.std.proofs.lemmas.List.{drop_more, drop-drop, get_or-take, get_or-drop, length-take, length-drop}
use Rattle.std.proofs.lemmas.Option.{slice_get_within, get_or_from_slice_get, slice_get-get_or}

-- a part of a list begins with the element at its first place
pub range_first : {X : Type 0} (rows : List X) (from to : ℕ) (row : X) → from < to
    → slice_get rows from ≡ Some row → slice_range rows from to ≡ row ∷ slice_range rows (from + 1) to
range_first rows from to row l at =
    let within : from < length rows = slice_get_within rows from row at in
    let here : get_or rows from row ≡ row = get_or_from_slice_get rows from row row at in
    let count : to - from ≡ suc (to - (from + 1)) = omega arith in
    rw (count, drop_more rows from row within, here) refl

-- where the first place is not before the last one, there is nothing
pub range_none : {X : Type 0} (rows : List X) (from to : ℕ) → to ≤ from → slice_range rows from to ≡ []
range_none rows from to l = let count : to - from ≡ 0 = omega arith in rw count refl

-- up to a place, and from there on
pub range_split : {X : Type 0} (rows : List X) (from place to : ℕ) → from ≤ place → place ≤ to
    → slice_range rows from to ≡ slice_range rows from place ++ slice_range rows place to
range_split rows from place to l h =
    let count : to - from ≡ (place - from) + (to - place) = omega arith in
    let on : from + (place - from) ≡ place = omega arith in
    ap (λ n. take n (drop from rows)) count ∙ take-add (place - from) (to - place) (drop from rows)
    ∙ ap (λ r. take (place - from) (drop from rows) ++ take (to - place) r)
    (drop-drop (place - from) from rows ∙ ap (λ n. drop n rows) on)

-- what is there stands at a place between
pub range_place : {X : Type 0} (rows : List X) (from to : ℕ) (row : X)
    → Contains (slice_range rows from to) row → (i : ℕ) × (from ≤ i) × (i < to)
    × (slice_get rows i ≡ Some row)
range_place rows from to row (k, l, e) =
    let within : from + k < length rows =
    omega (arith, length-take (to - from) (drop from rows), length-drop from rows) in
    let short : k < to - from = omega (arith, length-take (to - from) (drop from rows)) in
    let here : get_or rows (from + k) row ≡ row = sym (get_or-drop from rows k row)
    ∙ sym (get_or-take (to - from) (drop from rows) k row short) ∙ e in
    (from + k, omega arith, omega arith, slice_get-get_or rows (from + k) row within ∙ ap Some here)

-- and what stands there is there
pub range_holds : {X : Type 0} (rows : List X) (from to i : ℕ) (row : X) → from ≤ i → i < to
    → slice_get rows i ≡ Some row → Contains (slice_range rows from to) row
range_holds rows from to i row l h at =
    let within : i < length rows = slice_get_within rows i row at in
    let short : i - from < to - from = omega arith in
    let on : from + (i - from) ≡ i = omega arith in (
      i - from,
      omega (arith, length-take (to - from) (drop from rows), length-drop from rows),
      get_or-take (to - from) (drop from rows) (i - from) row short ∙ get_or-drop from rows (i - from) row
          ∙ ap (λ n. get_or rows n row) on ∙ get_or_from_slice_get rows i row row at,
    )
