-- What the functions inside promise each other: a reading gives its value where there is no fault, else the
-- first one.
use Rattle.std.specs.Prelude.{◌≡◌, ◌≤◌, ◌++◌, ℕ, List, map, length, slice_get, Option, Some, None, Result, Ok}
use Rattle.std.specs.Prelude.{Err, ⊤}
use Rattle.pl_names.specs.Names.{number_among}
use Rattle.pl_task.specs.declared.data.Parameter.{Parameter}
use Rattle.pl_text.specs.Trees.{Tree, word, list, Trees, end, more, members}
use Rattle.pl_names.specs.Names.{texts, number_among}
use Rattle.pl_check.specs.declared.items.OpenItems.{OpenItems}
use Rattle.pl_check.specs.declared.items.TypedItem.{TypedItem}
use Rattle.pl_check.specs.declared.reading.Fault.{Fault}
use Rattle.pl_check.specs.declared.reading.ReadEnd.{ReadEnd}
use Rattle.pl_check.specs.declared.reading.ReadEnd.TheVariants as read_end
use Rattle.pl_check.specs.declared.scope.Scope.{Scope as ScopeKept}
use Rattle.pl_check.specs.declared.role.FileRole.{FileRole}
use Rattle.pl_check.specs.declared.fault.CheckEnd.{CheckEnd}
use Rattle.pl_check.specs.declared.fault.CheckEnd.TheVariants as check_end
use Rattle.pl_check.specs.FirstFault.{IsTextFaultOf, in_file}
use Rattle.pl_check.specs.FaultLists.{first}
use Rattle.pl_check.specs.declared.terms.Declared.{Declared}
use Rattle.pl_check.specs.Known.{Known}
use Rattle.pl_check.specs.Terms.{Scope}
use Rattle.pl_check.specs.TypedLists.{Item, type_numbers, group_types, typed_items}

-- how a reading of forms with these faults may end that gives no value: by the first fault, or out of memory
abbrev pub Refuses : List Fault → ReadEnd → Type 0
Refuses faults (read_end.Fault fault) = first faults ≡ Some fault
Refuses faults (read_end.Memory error) = ⊤

-- a reading of forms with these faults: where there is none, a value with P
abbrev pub Reads : {A : Type 0} → List Fault → (A → Type 0) → Result A ReadEnd → Type 0
Reads faults P (Ok value) = (first faults ≡ None) × P value
Reads faults P (Err stop) = Refuses faults stop

-- a reading that ended only since memory was short
abbrev pub IsMemory : ReadEnd → Type 0
IsMemory (read_end.Fault fault) = ⊥
IsMemory (read_end.Memory error) = ⊤

-- what a scope keeps
abbrev pub scope_in : ScopeKept → Scope
scope_in scope = record { text = scope.text.now; known = scope.known.now; parameters = scope.parameters.now }

-- how the end of a reading of a file's forms ends the check of the file
abbrev pub check_end_of : FileRole → ReadEnd → CheckEnd
check_end_of file (read_end.Fault fault) = check_end.Fault (in_file file fault)
check_end_of file (read_end.Memory error) = check_end.Memory error

-- how a reading of a file may end that gives no forms: by its text fault, or out of memory
abbrev pub EndsReading : FileRole → List ℕ → CheckEnd → Type 0
EndsReading file bytes (check_end.Fault fault) = IsTextFaultOf file bytes fault
EndsReading file bytes (check_end.Memory error) = ⊤

-- an item of a typed list with the numbers of its types
pub record Numbered : Type 0 where
  pub name : List ℕ
  pub numbers : List ℕ

abbrev pub numbered : List (List ℕ) → Item → Numbered
numbered types item = record { name = item.name; numbers = type_numbers types item.types }

-- an item as it is kept
abbrev pub numbered_in : TypedItem → Numbered
numbered_in item = record { name = item.name.now; numbers = item.types.items }

-- the parameter that an item is
abbrev pub as_parameter : Numbered → Parameter
as_parameter item = record { name = item.name; types = item.numbers }

-- items of these names with the types of a group
abbrev pub grouped : List (List ℕ) → List ℕ → List Numbered
grouped names numbers = map (λ name. record { name = name; numbers = numbers }) names

-- What a walk over a typed list gives in the end, where these are the elements that are left: the items that
-- are done, those of the open group with the types that follow, and those of the elements.
abbrev pub items_from : List ℕ → List (List ℕ) → OpenItems → List Tree → List Numbered
items_from text types walk rest =
    map numbered_in walk.items.items ++
    (grouped (texts walk.open.items) (type_numbers types (group_types text walk.after_dash rest)) ++
    map (numbered types) (typed_items text walk.after_dash rest))

abbrev mutual
  -- No list of the tree has more elements than the longest file has bytes.
  pub HasFew : Tree → Type 0
  HasFew (word span) = ⊤
  HasFew (list span inner) = (length (members inner) ≤ 16777216) × HaveFew inner

  pub HaveFew : Trees → Type 0
  HaveFew end = ⊤
  HaveFew (more tree rest) = HasFew tree × HaveFew rest

-- what a look-up of a predicate gives
abbrev pub IsFound : Known → List ℕ → Option Declared → Type 0
IsFound known name None = number_among known.predicates name ≡ None
IsFound known name (Some found) =
    (number_among known.predicates name ≡ Some found.number) ×
    (slice_get known.arities found.number ≡ Some found.arity)
