-- The true atoms of a state as tables, one for each fluent predicate.
use Rattle.std.specs.Prelude.{◌≡◌, ℕ, ◌<◌, true, false, List, length, Option, Some, None, slice_get}
use Rattle.pl_rows.specs.Rows.{Rows}
use Rattle.pl_task.specs.declared.data.PredicateDef.{PredicateDef}
use Rattle.pl_task.specs.declared.task.Task.{Task}
use Rattle.pl_task.specs.States.{State}
use Rattle.pl_state.specs.Layout.{AreTrueRows}

-- the table has the predicate's atoms that are true in the state
pub record IsTableOf (objects : ℕ) (s : State) (predicate arity : ℕ) (table : Rows) : Type 0 where
  pub wide : table.arity ≡ arity
  pub true_rows : AreTrueRows objects s predicate arity table.rows

-- a static predicate has no table, and a fluent one has the table of its true atoms
pub record HasItsTable (objects : ℕ) (s : State) (predicate : ℕ) (d : PredicateDef)
    (tables : List (Option Rows)) : Type 0 where
  pub static : d.is_static ≡ true → slice_get tables predicate ≡ Some None
  pub fluent : d.is_static ≡ false → (table : Rows) × (slice_get tables predicate ≡ Some (Some table)) ×
      IsTableOf objects s predicate d.arity table

-- these are the tables of the first n predicates
pub record AreTablesUpTo (task : Task) (s : State) (n : ℕ) (tables : List (Option Rows)) : Type 0 where
  pub many : length tables ≡ n
  pub each : (p : ℕ) (d : PredicateDef) → p < n → slice_get task.predicates p ≡ Some d →
      HasItsTable (length task.objects) s p d tables

-- these are the tables of the state: one place for each predicate of the task
abbrev pub AreTablesOf : Task → State → List (Option Rows) → Type 0
AreTablesOf task s tables = AreTablesUpTo task s (length task.predicates) tables
