-- The keys that some rows have, and what a range of rows says of one.
use Rattle.std.proofs.Common.{◌≡◌, ◌<◌, ℕ, List, [], length, map, take, get_or, sym, ap, ◌∙◌, subst, arith}
use Rattle.std.proofs.Common.{Contains, le_refl, slice_get, Some}
use Rattle.std.proofs.lemmas.List.{length-map, get_or-map}
use Rattle.std.proofs.lemmas.Option.{slice_get-get_or}
use Rattle.pl_rows.specs.Rows.{AreRowsOf}

pub found-has : (key : List ℕ) (rows : List (List ℕ)) (from to width : ℕ) → length key ≡ width →
    AreRowsOf key rows from to → from < to → Contains (map (take width) rows) key
found-has key rows from to width w are some =
    let last = are.within in
    let within : from < length rows = omega arith in
    let row : List ℕ = get_or rows from [] in
    let begins : take (length key) row ≡ key =
    (are.rows_are from row (slice_get-get_or rows from [] within)).1 (le_refl from, some) in (
      from,
      omega (arith, within, length-map rows (take width)),
      get_or-map (take width) rows from [] key
          within ∙ ap (λ n. take n row) (sym w) ∙ begins,
    )

pub has-found : (key : List ℕ) (rows : List (List ℕ)) (from to width : ℕ) → length key ≡ width →
    AreRowsOf key rows from to → Contains (map (take width) rows) key → from < to
has-found key rows from to width w are (k, l, e) =
    let within : k < length rows = omega (arith, l, length-map rows (take width)) in
    let row : List ℕ = get_or rows k [] in
    let begins : take (length key) row ≡ key = ap (λ n. take n row) w ∙
    sym (get_or-map (take width) rows k [] key within) ∙ e in
    let between = (are.rows_are k row (slice_get-get_or rows k [] within)).0 begins in
    let low = between.0 in
    let high = between.1 in
    omega arith
