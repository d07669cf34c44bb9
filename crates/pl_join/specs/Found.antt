-- The rows of an index whose keys are some rows.
use Rattle.std.specs.Prelude.{◌≡◌, ◌≤◌, ℕ, Bool, List, length, take, filter, slice_range, All}
use Rattle.std.specs.List.{flat_map}
use Rattle.pl_rows.specs.Rows.{begins_with}
use Rattle.pl_rows.specs.declared.range.Range.{Range}
use Rattle.pl_join.specs.Source.{has_row}

-- whether the row's first values are one of the keys
abbrev pub has_key : List (List ℕ) → ℕ → List ℕ → Bool
has_key keys width row = has_row keys (take width row)

-- the rows in some ranges of places
abbrev pub rows_in : List (List ℕ) → List Range → List (List ℕ)
rows_in rows ranges = flat_map (λ range. slice_range rows range.from range.to) ranges

-- a range of so many places
pub record IsRange (count : ℕ) (range : Range) : Type 0 where
  pub in_order : range.from ≤ range.to
  pub within : range.to ≤ count

abbrev pub AreRanges : ℕ → List Range → Type 0
AreRanges count ranges = All (IsRange count) ranges

-- the ranges have, one key after another, the rows that begin with it
pub record AreFound (rows keys : List (List ℕ)) (ranges : List Range) : Type 0 where
  pub ranges_are : AreRanges (length rows) ranges
  pub rows_are : rows_in rows ranges ≡ flat_map (λ key. filter (begins_with key) rows) keys
