-- How a table's rows lie in memory, and how a bisection narrows them.
use Rattle.std.specs.Prelude.{◌≡◌, ◌*◌, ◌+◌, ◌-◌, Option, Some, IfSome, nat_eq, ◌<◌, ◌≤◌, ◌^◌, ℕ, Bool, true}
use Rattle.std.specs.Prelude.{false, List, [], ◌∷◌, slice_index, length, take, All, if◌then◌else◌}
use Rattle.std.specs.Prelude.{slice_index_or}
use Rattle.std.specs.Ordering.{is_lt, is_le}
use Rattle.indexmap.specs.IndexMap.{IndexMap, get}
use Rattle.pl_rows.specs.declared.range.Range.{Range}
use Rattle.pl_rows.specs.declared.bisect.Bound.{Bound}
use Rattle.pl_rows.specs.declared.bisect.Bound.TheVariants.{Below, AtMost}
use Rattle.pl_rows.specs.Rows.{Rows, rows_of, row_cmp, IsAscending}

-- the flat list has just these rows, and they are a table's
pub record IsLaidOut (arity count : ℕ) (flat : List ℕ) : Type 0 where
  pub whole : length flat ≡ arity * count
  pub ascending : IsAscending (rows_of arity count flat)
  pub values : All (λ value. value < 2 ^ 32) flat

-- whether a bound takes the rows too that begin with the prefix
abbrev pub takes_equal : Bound → Bool
takes_equal Below = false
takes_equal AtMost = true

-- the row's first values are below the prefix, or at most the prefix
abbrev pub comes_before : Bool → List ℕ → List ℕ → Bool
comes_before or_equal prefix row =
    let order = row_cmp (take (length prefix) row) prefix in if or_equal then is_le order else is_lt order

-- the rows before `low` pass a test, and those from `high` on don't
pub record IsNarrowed (passes : List ℕ → Bool) (rows : List (List ℕ)) (low high : ℕ) : Type 0 where
  pub before : (i : ℕ) → i < low → passes (slice_index_or rows i []) ≡ true
  pub after : (i : ℕ) → high ≤ i → i < length rows → passes (slice_index_or rows i []) ≡ false

-- for each number below the directory's length, how many rows have a lesser first value: these are the first
-- ones
abbrev pub IsDirectory : List (List ℕ) → List ℕ → Type 0
IsDirectory rows starts =
    (value : ℕ) → value < length starts →
    (slice_index starts value ≤ length rows) × IsNarrowed (comes_before false (value ∷ [])) rows
    (slice_index starts value) (slice_index starts value)

-- the rows whose first values are the key stand somewhere from one place up to another
pub record IsBracket (key : List ℕ) (rows : List (List ℕ)) (from to : ℕ) : Type 0 where
  pub in_order : from ≤ to
  pub within : to ≤ length rows
  pub below : IsNarrowed (comes_before false key) rows from to
  pub at_most : IsNarrowed (comes_before true key) rows from to

-- just the rows whose first values are the key stand from one place up to another
pub record IsFound (key : List ℕ) (rows : List (List ℕ)) (from to : ℕ) : Type 0 where
  pub in_order : from ≤ to
  pub within : to ≤ length rows
  pub below : IsNarrowed (comes_before false key) rows from from
  pub at_most : IsNarrowed (comes_before true key) rows to to

-- two values of a key as one number
abbrev pub pair_number : ℕ → ℕ → ℕ
pair_number first second = first * 2 ^ 32 + second

-- the first value of the row at a place
abbrev pub first_at : List (List ℕ) → ℕ → ℕ
first_at rows place = slice_index (slice_index_or rows place []) 0

-- the row at a place and the one 64 places before it have one first value, and so have the rows between them
abbrev pub EndsLongRun : List (List ℕ) → ℕ → Type 0
EndsLongRun rows place =
    (64 ≤ place) × (place < length rows) × (first_at rows place ≡ first_at rows (place - 64))

-- more than 64 rows have one first value
abbrev pub HasLongRun : List (List ℕ) → Type 0
HasLongRun rows = (place : ℕ) × EndsLongRun rows place

-- each range of the map is that of just the rows that begin with its two values
abbrev pub AreRangesOfPairs : {S : Type 0} → List (List ℕ) → IndexMap ℕ Range S → Type 0
AreRangesOfPairs rows pairs =
    (first second : ℕ) → second < 2 ^ 32 → (range : Range) →
    get nat_eq pairs (pair_number first second) ≡ Some range →
    IsFound (first ∷ second ∷ []) rows range.from range.to

-- what an index keeps: keys no longer than the rows, a directory of the table's first values, and maybe the
-- ranges of rows that begin with two values
pub record IsIndexed {S : Type 0} (table : Rows) (width : ℕ) (starts : List ℕ)
    (pairs : Option (IndexMap ℕ Range S)) : Type 0 where
  pub within : width ≤ table.arity
  pub directory : IsDirectory table.rows starts
  pub ranges : IfSome pairs (λ map. AreRangesOfPairs table.rows map)
