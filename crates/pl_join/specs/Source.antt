-- Where the values of slots and classes stand in a row, and which rows are picked and kept by them.
use Rattle.std.specs.Prelude.{◌≡◌, ◌<◌, ◌==◌, ◌++◌, ℕ, Bool, not, List, length, drop, map, filter, All}
use Rattle.std.specs.Prelude.{Contains, slice_index}
use Rattle.std.specs.List.{AllPairs, list_any, list_all}
use Rattle.std.specs.Str.{bytes_eq}
use Rattle.pl_rows.specs.Rows.{Rows, AreRows, begins_with}
use Rattle.pl_join.specs.declared.filters.Keep.{Keep}
use Rattle.pl_join.specs.declared.filters.Keep.TheVariants.{Found, Missing}
use Rattle.pl_join.specs.declared.slot.Slot.{Slot}
use Rattle.pl_join.specs.declared.slot.Slot.TheVariants.{Class}
use Rattle.pl_join.specs.Relation.{ClassRows, Assignment, AreDistinct, slot_value, has_class, classes_in}
use Rattle.pl_join.specs.declared.source.Source.{Source}
use Rattle.pl_join.specs.declared.source.Source.TheVariants.{Fixed, Column}
use Rattle.pl_join.specs.declared.selection.Test.{Test}

-- the value that a source has in a row
abbrev pub value_at : List ℕ → Source → ℕ
value_at row (Fixed value) = value
value_at row (Column column) = slice_index row column

-- a source of rows with so many columns
abbrev pub IsWithin : ℕ → Source → Type 0
IsWithin arity source = (column : ℕ) → source ≡ Column column → column < arity

-- the values of some columns of a row
abbrev pub picked : List ℕ → List ℕ → List ℕ
picked columns row = map (slice_index row) columns

-- the values of some sources in a row
abbrev pub looked_at : List Source → List ℕ → List ℕ
looked_at sources row = map (value_at row) sources

-- whether the row is among the rows
abbrev pub has_row : List (List ℕ) → List ℕ → Bool
has_row rows row = list_any (bytes_eq row) rows

-- whether the two sources differ in a row
abbrev pub differ : Source → Source → List ℕ → Bool
differ a b row = not (value_at row a == value_at row b)

-- whether a row is kept whose values were found, or weren't
abbrev pub keeps_where : Keep → Bool → Bool
keeps_where Found found = found
keeps_where Missing found = not found

-- whether a row is kept, by whether the values of the sources are a row of the others
abbrev pub is_kept : Keep → List (List ℕ) → List Source → List ℕ → Bool
is_kept keep rows sources row = keeps_where keep (has_row rows (looked_at sources row))

-- whether the values of the columns, put where the sources say, are the row itself
abbrev pub fits_slots : List Source → List ℕ → List ℕ → Bool
fits_slots sources columns row = bytes_eq row (looked_at sources (picked columns row))

-- the number in a slot: its value or its class
abbrev pub number_in : Slot → ℕ
number_in = slot_value (λ c. c)

-- the slots are just classes, and these rise
pub record AreRisingClasses (slots : List Slot) : Type 0 where
  pub just : slots ≡ map Class (map number_in slots)
  pub rising : AllPairs (λ a b. a < b) (map number_in slots)

-- the slots are just the classes of the order that stand in them, in this order
abbrev pub StandInOrder : List ℕ → List Slot → Type 0
StandInOrder order slots = slots ≡ map Class (classes_in order slots)

-- the numbers below the limit, rising
pub record AreNumbersBelow (limit : ℕ) (numbers : List ℕ) : Type 0 where
  pub rising : AllPairs (λ a b. a < b) numbers
  pub below : All (λ c. c < limit) numbers
  pub all : (c : ℕ) → c < limit → Contains numbers c

-- whether the row has a test's value in its column
abbrev pub passes : List ℕ → Test → Bool
passes row test = slice_index row test.column == value_at row test.source

-- whether the row passes all tests
abbrev pub passes_all : List Test → List ℕ → Bool
passes_all tests row = list_all (passes row) tests

-- a test of rows with so many columns
pub record IsTestOf (arity : ℕ) (test : Test) : Type 0 where
  pub column : test.column < arity
  pub source : IsWithin arity test.source

-- the relation of some classes and rows
abbrev pub of_rows : List ℕ → List (List ℕ) → ClassRows
of_rows classes rows = record { classes = classes; rows = rows }

-- what the fields of a relation keep: distinct classes below 64, and a table with one column for each of them
pub record IsKept (classes : List ℕ) (table : Rows) : Type 0 where
  pub arity : table.arity ≡ length classes
  pub distinct : AreDistinct classes
  pub below : All (λ c. c < 64) classes
  pub rows : AreRows (length classes) table.rows

-- which columns of the rows of slots have the values of the classes
pub record ArePlacesOf (slots : List Slot) (classes columns : List ℕ) : Type 0 where
  pub len : length columns ≡ length classes
  pub within : All (λ column. column < length slots) columns
  pub values : (f : Assignment) → picked columns (map (slot_value f) slots) ≡ map f classes

-- the classes of an order that stand in the slots, and where they stand
pub record IsGathered (slots : List Slot) (order classes columns : List ℕ) : Type 0 where
  pub classes_are : classes ≡ classes_in order slots
  pub places : ArePlacesOf slots classes columns

-- the classes that are among the others, in their order; `without` has those that aren't
abbrev pub shared_with : List ℕ → List ℕ → List ℕ
shared_with classes others = filter (λ c. has_class others c) classes

-- a row, and behind it another without its first `width` values
abbrev pub glued : ℕ → List ℕ → List ℕ → List ℕ
glued width row other = row ++ drop width other

-- the rows that join a row: behind it each row whose first values are the row's in the columns, without these
-- values
abbrev pub joined_with : List (List ℕ) → List ℕ → List ℕ → List (List ℕ)
joined_with others columns row = map (glued (length columns) row)
    (filter (begins_with (picked columns row)) others)
