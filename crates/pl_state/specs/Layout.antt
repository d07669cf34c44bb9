-- The words of a state: for each fluent predicate the number of its true atoms, then their objects in
-- ascending order.
use Rattle.std.specs.Prelude.{◌≡◌, ◌↔◌, ℕ, suc, ◌<◌, ◌^◌, List, [], ◌∷◌, ◌++◌, length, Contains, All, IsTrue}
use Rattle.std.specs.Prelude.{false, Some, slice_get, if◌then◌else◌}
use Rattle.std.specs.List.{flat_map}
use Rattle.pl_rows.specs.Rows.{AreRows}
use Rattle.pl_task.specs.declared.data.PredicateDef.{PredicateDef}
use Rattle.pl_task.specs.declared.task.Task.{Task}
use Rattle.pl_task.specs.States.{State}
pub use Rattle.pl_task.specs.Atoms.{atom_of}

-- the number of rows, then the rows one after another
abbrev pub part_of : List (List ℕ) → List ℕ
part_of rows = length rows ∷ flat_map (λ row. row) rows

-- the parts of the fluent ones of these predicates, the first of which has the number p; `rows q` are those
-- of predicate q
abbrev pub parts_from : (ℕ → List (List ℕ)) → ℕ → List PredicateDef → List ℕ
parts_from rows p [] = []
parts_from rows p (d ∷ ds) = (if d.is_static then [] else part_of (rows p)) ++ parts_from rows (suc p) ds

-- the rows are, in ascending order, the lists of objects with which the predicate's atom is true
pub record AreTrueRows (objects : ℕ) (s : State) (predicate arity : ℕ) (rows : List (List ℕ)) : Type 0 where
  pub table : AreRows arity rows
  pub members : (row : List ℕ) → Contains rows row ↔ IsTrue (s (atom_of predicate row))
  pub within : All (λ (row : List ℕ). All (λ o. o < objects) row) rows
  pub few : length rows < 2 ^ 32

-- the words lay out the fluent atoms of the state, all of which are atoms of the task
pub record IsLayoutOf (task : Task) (s : State) (words : List ℕ) : Type 0 where
  pub rows : ℕ → List (List ℕ)
  pub words_are : words ≡ parts_from rows 0 task.predicates
  pub true_rows : (p : ℕ) (d : PredicateDef) → slice_get task.predicates p ≡ Some d → d.is_static ≡ false →
      AreTrueRows (length task.objects) s p d.arity (rows p)
