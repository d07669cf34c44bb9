-- The atoms that no step changes, as tables made once a task.
use Rattle.std.specs.Prelude.{◌≡◌, ◌↔◌, ℕ, true, List, length, Contains, IsTrue, Some, slice_get}
use Rattle.pl_rows.specs.Rows.{Rows, AreRows}
use Rattle.pl_task.specs.declared.data.PredicateDef.{PredicateDef}
use Rattle.pl_task.specs.declared.task.Task.{Task}
use Rattle.pl_task.specs.States.{State, initial}
use Rattle.pl_state.specs.Layout.{atom_of}

-- the table has, in ascending order, the lists of objects with which the predicate's atom is true in the
-- state
pub record IsAtomTable (s : State) (predicate arity : ℕ) (table : Rows) : Type 0 where
  pub wide : table.arity ≡ arity
  pub rows_are : AreRows arity table.rows
  pub members : (row : List ℕ) → Contains table.rows row ↔ IsTrue (s (atom_of predicate row))

-- these are tables for the first n predicates, and that of a static one has its initial atoms
pub record AreStaticUpTo (task : Task) (n : ℕ) (tables : List Rows) : Type 0 where
  pub many : length tables ≡ n
  pub each : (p : ℕ) (d : PredicateDef) (table : Rows) → slice_get task.predicates p ≡ Some d →
      d.is_static ≡ true →
      slice_get tables p ≡ Some table → IsAtomTable (initial task) p d.arity table

-- these are the tables of the static atoms: one for each predicate of the task
abbrev pub AreStaticAtoms : Task → List Rows → Type 0
AreStaticAtoms task tables = AreStaticUpTo task (length task.predicates) tables
