-- Rows of numbers, the order in which a table keeps them, and the set that a table stands for.
use Rattle.std.specs.Prelude.{◌≡◌, ◌↔◌, ℕ, zero, suc, Bool, List, [], ◌∷◌, length, take, drop, All, Contains}
use Rattle.std.specs.Prelude.{Some, IsTrue, slice_get, ◌<◌, ◌≤◌}
use Rattle.std.specs.declared.cmp.Ordering.{Ordering}
use Rattle.std.specs.Ordering.{is_lt, nat_cmp}
use Rattle.std.specs.Str.{bytes_eq}
use Rattle.std.specs.Cmp.Lexicographic.{slice_cmp}
use Rattle.std.specs.List.Sorted.{IsStrictlySortedBy}

-- a table as its callers see it: how many values each row has, and the rows
pub record Rows : Type 0 where
  pub arity : ℕ
  pub rows : List (List ℕ)

-- the rows that lie one after another in a flat list: so many rows, with `arity` values each
abbrev pub rows_of : ℕ → ℕ → List ℕ → List (List ℕ)
rows_of arity zero flat = []
rows_of arity (suc count) flat = take arity flat ∷ rows_of arity count (drop arity flat)

-- the lexicographic order of rows: the first place where they differ decides
abbrev pub row_cmp : List ℕ → List ℕ → Ordering
row_cmp = slice_cmp nat_cmp

-- each row is below all later ones; so no row repeats
abbrev pub IsAscending : List (List ℕ) → Type 0
IsAscending rows = IsStrictlySortedBy row_cmp rows

-- these are the rows of a table: all of one width, in ascending order
pub record AreRows (arity : ℕ) (rows : List (List ℕ)) : Type 0 where
  pub width : All (λ row. length row ≡ arity) rows
  pub ascending : IsAscending rows

-- two lists have the same set of rows, whatever their order and their repeats
abbrev pub SameRows : List (List ℕ) → List (List ℕ) → Type 0
SameRows rows others = (row : List ℕ) → Contains rows row ↔ Contains others row

-- the row's first values, as many as the prefix has, are below the prefix
abbrev pub is_below : List ℕ → List ℕ → Bool
is_below prefix row = is_lt (row_cmp (take (length prefix) row) prefix)

-- the row's first values, as many as the prefix has, are the prefix
abbrev pub begins_with : List ℕ → List ℕ → Bool
begins_with prefix row = bytes_eq (take (length prefix) row) prefix

-- the rows that pass a test are just the first so many
abbrev pub AreFirst : (List ℕ → Bool) → List (List ℕ) → ℕ → Type 0
AreFirst passes rows count =
    (place : ℕ) (row : List ℕ) → slice_get rows place ≡ Some row → IsTrue (passes row) ↔ (place < count)

-- the rows whose first values are the key are just those from one place up to another
pub record AreRowsOf (key : List ℕ) (rows : List (List ℕ)) (from to : ℕ) : Type 0 where
  pub in_order : from ≤ to
  pub within : to ≤ length rows
  pub rows_are : (place : ℕ) (row : List ℕ) → slice_get rows place ≡ Some row →
      (take (length key) row ≡ key) ↔ ((from ≤ place) × (place < to))

-- a table with an index over its first values: the table, and how many values a key has
pub record IndexedRows : Type 0 where
  pub table : Rows
  pub width : ℕ
