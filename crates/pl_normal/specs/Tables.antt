-- The tables that no state changes: those of static predicates, and those of the types of parameters.
use Rattle.std.specs.Prelude.{◌≡◌, ◌≢◌, ◌++◌, ◌↔◌, ◌<◌, ◌==◌, ℕ, cond, true, false, IsTrue, List, [], ◌∷◌}
use Rattle.std.specs.Prelude.{length, Contains, Option, Some, None, slice_get}
use Rattle.std.specs.List.{flat_map}
use Rattle.std.proofs.Common.{get_or}
use Rattle.pl_rows.specs.Rows.{Rows, AreRows}
use Rattle.pl_task.specs.declared.data.Atom.{Atom}
use Rattle.pl_task.specs.declared.data.PredicateDef.{PredicateDef}
use Rattle.pl_task.specs.declared.task.Task.{Task}
use Rattle.pl_task.specs.WellFormed.{is_fluent}
use Rattle.pl_normal.specs.Query.{is_of_kind}

abbrev pub row_atom : ℕ → List ℕ → Atom
row_atom predicate row = record { predicate = predicate; objects = row }

-- the rows of the table are those of the initial atoms of the predicate
pub record IsAtomTable (task : Task) (predicate : ℕ) (table : Rows) : Type 0 where
  pub arity : (d : PredicateDef) → slice_get task.predicates predicate ≡ Some d → table.arity ≡ d.arity
  pub rows : AreRows table.arity table.rows
  pub atoms : (row : List ℕ) → Contains table.rows row ↔ Contains task.init (row_atom predicate row)

-- a static predicate has its table, and a fluent one none
abbrev pub IsStatic : Task → ℕ → Option Rows → Type 0
IsStatic task predicate None = is_fluent task.schemas predicate ≡ true
IsStatic task predicate (Some table) = (is_fluent task.schemas predicate ≡ false)
    × IsAtomTable task predicate table

-- what the predicates have, by their numbers
pub record AreStatics (task : Task) (tables : List (Option Rows)) : Type 0 where
  pub many : length tables ≡ length task.predicates
  pub each : (p : ℕ) (d : Option Rows) → p < length tables → IsStatic task p (get_or tables p d)

-- the row of an atom of the predicate
abbrev pub row_about : ℕ → Atom → List (List ℕ)
row_about predicate a = cond (a.predicate == predicate) (a.objects ∷ []) []

abbrev pub rows_about : ℕ → List Atom → List (List ℕ)
rows_about predicate atoms = flat_map (row_about predicate) atoms

-- the rows that are gathered for a predicate have its arity, and are those of the atoms so far, in their
-- order
abbrev pub gathered : PredicateDef → ℕ → List Atom → Rows
gathered d predicate atoms = record { arity = d.arity; rows = rows_about predicate atoms }

-- for each static predicate the rows of its atoms are gathered
pub record AreGathered (predicates : List PredicateDef) (atoms : List Atom)
    (builders : List Rows) : Type 0 where
  pub many : length builders ≡ length predicates
  pub each : (p : ℕ) (d : PredicateDef) (b : Rows) → slice_get predicates p ≡ Some d → d.is_static ≡ true
      → get_or builders p b ≡ gathered d p atoms

-- a row more at one place, and nothing else
pub record AddsRow (old new : List Rows) (place : ℕ) (row : List ℕ) : Type 0 where
  pub many : length new ≡ length old
  pub arity : (b : Rows) → (get_or new place b).arity ≡ (get_or old place b).arity
  pub rows : (b : Rows) → (get_or new place b).rows ≡ (get_or old place b).rows ++ row ∷ []
  pub others : (k : ℕ) (b : Rows) → k ≢ place → get_or new k b ≡ get_or old k b

-- the rows of the table are those of the objects that have one of the types
pub record IsTypeTable (task : Task) (types : List ℕ) (table : Rows) : Type 0 where
  pub arity : table.arity ≡ 1
  pub rows : AreRows 1 table.rows
  pub objects : (row : List ℕ) → Contains table.rows row ↔ IsTrue (is_of_kind task types row)
