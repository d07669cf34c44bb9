-- Lists of types: the number that each distinct one has, and where the tables of the types of all parameters
-- are.
use Rattle.std.specs.Prelude.{◌≡◌, ℕ, ◌+◌, ◌<◌, ◌≤◌, cond, List, [], ◌∷◌, length, map, take, All, Some}
use Rattle.std.specs.Prelude.{slice_get, slice_index}
use Rattle.std.specs.Borrow.{Bor}
use Rattle.std.specs.BTreeMap.{BTreeMap, get}
use Rattle.std.specs.Cmp.Lexicographic.{slice_cmp}
use Rattle.std.specs.List.{flat_map, range_with_len}
use Rattle.std.specs.Ordering.{nat_cmp}
use Rattle.std.specs.declared.cmp.Ordering.{Ordering}
use Rattle.std.proofs.Common.{get_or}
use Rattle.pl_rows.specs.Rows.{Rows}
use Rattle.pl_task.specs.declared.data.ObjectDef.{ObjectDef}
use Rattle.pl_task.specs.declared.data.Parameter.{Parameter}
use Rattle.pl_task.specs.declared.data.Schema.{Schema}
use Rattle.pl_task.specs.declared.task.Task.{Task}
use Rattle.pl_normal.specs.Guards.{has_some_type, types_at}
use Rattle.pl_normal.specs.Tables.{IsTypeTable}

-- ---- lists and their numbers

-- what borrowed lists are
abbrev pub lists_of : List (Bor (List ℕ)) → List (List ℕ)
lists_of lists = map (λ (list : Bor (List ℕ)). list.now) lists

-- the list at a place, and the empty one where there is none
abbrev pub list_at : List (List ℕ) → ℕ → List ℕ
list_at lists i = get_or lists i []

-- the number is one of those that were given, and the first list that has it is equal to the one at this
-- place
pub record IsNumberOf (lists : List (List ℕ)) (firsts : List ℕ) (place number : ℕ) : Type 0 where
  pub within : number < length firsts
  pub same : list_at lists (slice_index firsts number) ≡ list_at lists place

-- numbers for the lists, and for each number the place of the first list that has it
pub record IsNumbering (lists : List (List ℕ)) (numbers firsts : List ℕ) : Type 0 where
  pub many : length numbers ≡ length lists
  pub places : All (λ f. f < length lists) firsts
  pub each : (i : ℕ) → i < length lists → IsNumberOf lists firsts i (slice_index numbers i)

-- borrowed lists are compared by what they are
abbrev pub list_cmp : Bor (List ℕ) → Bor (List ℕ) → Ordering
list_cmp a b = slice_cmp nat_cmp a.now b.now

-- the numbers that were given, by their lists
pub record AreKnown (lists : List (List ℕ)) (known : BTreeMap (Bor (List ℕ)) ℕ)
    (firsts : List ℕ) : Type 0 where
  pub places : All (λ f. f < length lists) firsts
  pub within : (list : Bor (List ℕ)) (number : ℕ) → get list_cmp known list ≡ Some number
      → number < length firsts
  pub right : (list : Bor (List ℕ)) (number : ℕ) → get list_cmp known list ≡ Some number
      → list_at lists (slice_index firsts number) ≡ list.now

-- the new list goes on from the old one
pub record GoesOn (old new : List ℕ) : Type 0 where
  pub longer : length old ≤ length new
  pub same : (k : ℕ) → k < length old → slice_index new k ≡ slice_index old k

-- ---- the types of parameters and objects

-- the types that each object was declared with
abbrev pub object_types : List ObjectDef → List (List ℕ)
object_types objects = map (λ (o : ObjectDef). o.types) objects

-- the types of each parameter
abbrev pub parameter_types : List Parameter → List (List ℕ)
parameter_types parameters = map (λ (p : Parameter). p.types) parameters

abbrev pub schema_types : Schema → List (List ℕ)
schema_types schema = parameter_types schema.parameters

-- the types of the parameters of all schemas, one after another
abbrev pub all_types : List Schema → List (List ℕ)
all_types schemas = flat_map schema_types schemas

-- where those of each of the first schemas begin
pub record AreStarts (schemas : List Schema) (count : ℕ) (starts : List ℕ) : Type 0 where
  pub many : length starts ≡ count
  pub each : (i : ℕ) → i < count → slice_index starts i ≡ length (all_types (take i schemas))

-- ---- tables

-- the object, if it has one of the types
abbrev pub of_kind : Task → List ℕ → ℕ → List ℕ
of_kind task types object = cond (has_some_type task types object) (object ∷ []) []

-- the objects below a bound that have one of the types
abbrev pub objects_below : Task → List ℕ → ℕ → List ℕ
objects_below task types count = flat_map (of_kind task types) (range_with_len 0 count)

-- the tables of the lists of types that have the first numbers
pub record AreTypeTables (task : Task) (lists : List (List ℕ)) (firsts : List ℕ) (count : ℕ)
    (tables : List Rows) : Type 0 where
  pub many : length tables ≡ count
  pub each : (k : ℕ) (d : Rows) → k < count → IsTypeTable task (list_at lists (slice_index firsts k))
      (get_or tables k d)

-- the table of these types is the one whose number stands at this place
pub record IsTableAt (task : Task) (types : List ℕ) (numbers : List ℕ) (tables : List Rows)
    (place : ℕ) : Type 0 where
  pub numbered : place < length numbers
  pub within : slice_index numbers place < length tables
  pub table : (d : Rows) → IsTypeTable task types (get_or tables (slice_index numbers place) d)

-- for each parameter of each schema the table of its types: parameters are numbered through all schemas
pub record AreKindTables (task : Task) (starts numbers : List ℕ) (tables : List Rows) : Type 0 where
  pub many : length starts ≡ length task.schemas
  pub each : (i : ℕ) (s : Schema) (p : ℕ) → slice_get task.schemas i ≡ Some s → p < length s.parameters →
      IsTableAt task (types_at s.parameters p) numbers tables (slice_index starts i + p)
