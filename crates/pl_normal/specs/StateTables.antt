-- The state that the tables of fluent predicates stand for.
use Rattle.std.specs.Prelude.{◌≡◌, ◌<◌, ℕ, Bool, true, false, bytes_eq, List, length, Contains, Option, Some}
use Rattle.std.specs.Prelude.{None, slice_get}
use Rattle.std.specs.List.{list_any}
use Rattle.std.proofs.Common.{get_or}
use Rattle.pl_rows.specs.Rows.{Rows, AreRows}
use Rattle.pl_task.specs.declared.data.Atom.{Atom}
use Rattle.pl_task.specs.declared.data.PredicateDef.{PredicateDef}
use Rattle.pl_task.specs.declared.task.Task.{Task}
use Rattle.pl_task.specs.States.{State, initial}
use Rattle.pl_task.specs.WellFormed.{is_fluent}

-- whether an atom is true, by the table of its predicate; in the initial state where there is no table
abbrev pub is_true_by : Task → Atom → Option (Option Rows) → Bool
is_true_by task a None = initial task a
is_true_by task a (Some None) = initial task a
is_true_by task a (Some (Some table)) = list_any (bytes_eq a.objects) table.rows

-- an atom of a predicate that has a table is true where the table has its row, and every other atom where
-- it is so initially
unfoldable pub state_of_tables : Task → List (Option Rows) → State
state_of_tables task tables a = is_true_by task a (slice_get tables a.predicate)

-- the rows of a table are ascending, and are of objects of the task
pub record HasObjectRows (objects : ℕ) (table : Rows) : Type 0 where
  pub rows : AreRows table.arity table.rows
  pub within : (row : List ℕ) (x : ℕ) → Contains table.rows row → Contains row x → x < objects

-- the table has rows of objects, each as long as the atoms of the predicate
pub record IsTableFor (task : Task) (predicate : ℕ) (table : Rows) : Type 0 where
  pub arity : (d : PredicateDef) → slice_get task.predicates predicate ≡ Some d → table.arity ≡ d.arity
  pub objects : HasObjectRows (length task.objects) table

-- a static predicate has no table, and a fluent one has one
abbrev pub HasTable : Task → ℕ → Option Rows → Type 0
HasTable task predicate None = is_fluent task.schemas predicate ≡ false
HasTable task predicate (Some table) = (is_fluent task.schemas predicate ≡ true) × IsTableFor task predicate
    table

-- one place for each predicate, with the table of a fluent one
pub record AreTables (task : Task) (tables : List (Option Rows)) : Type 0 where
  pub many : length tables ≡ length task.predicates
  pub each : (p : ℕ) (d : Option Rows) → p < length tables → HasTable task p (get_or tables p d)
