-- What it is to append the part of a predicate, and which rows a step's effects name.
use Rattle.std.specs.Prelude.{◌≡◌, ℕ, ◌<◌, ◌≤◌, ◌+◌, ◌-◌, ◌⊎◌, Bool, true, false, List, [], ◌∷◌, ◌++◌, length}
use Rattle.std.specs.Prelude.{map, take, drop, All, Contains, Option, Some, None, MatchOption, slice_get}
use Rattle.std.specs.Prelude.{slice_index_or, bytes_eq, if◌then◌else◌}
use Rattle.std.specs.List.{flat_map, list_any}
use denote.Ref.{Bor}
use Rattle.pl_rows.specs.Rows.{IsAscending}
use Rattle.pl_rows.specs.Layout.{comes_before, IsNarrowed}
use Rattle.pl_task.specs.declared.data.Atom.{Atom}
use Rattle.pl_task.specs.declared.data.Lifted.{Lifted}
use Rattle.pl_task.specs.declared.data.PredicateDef.{PredicateDef}
use Rattle.pl_task.specs.declared.task.Task.{Task}
use Rattle.pl_task.specs.declared.data.Term.{Term}
use Rattle.pl_task.specs.declared.data.Term.TheVariants as term
use Rattle.pl_task.specs.States.{State, state_of, value_of, atom_at, changed}
use Rattle.pl_state.specs.Layout.{atom_of, part_of, AreTrueRows}

-- the new words are the old ones and the part of the predicate's atoms that are true in the state
pub record AppendsPart (objects : ℕ) (s : State) (predicate arity : ℕ) (old new : List ℕ) : Type 0 where
  pub rows : List (List ℕ)
  pub words_are : new ≡ old ++ part_of rows
  pub true_rows : AreTrueRows objects s predicate arity rows

-- an atom that, if it is of the predicate, has so many objects, all of the task
pub record IsAtomAt (objects predicate arity : ℕ) (a : Atom) : Type 0 where
  pub wide : a.predicate ≡ predicate → length a.objects ≡ arity
  pub within : a.predicate ≡ predicate → All (λ o. o < objects) a.objects

-- a parameter has an argument among so many
abbrev pub HasValue : ℕ → Term → Type 0
HasValue count t = (n : ℕ) → t ≡ term.Parameter n → n < count

-- the objects of an effect's atom under the arguments
abbrev pub row_under : List ℕ → Lifted → List ℕ
row_under args e = map (value_of args) e.terms

-- the effect has so many terms, and its parameters have arguments
pub record HasRow (args : List ℕ) (arity : ℕ) (e : Lifted) : Type 0 where
  pub many : length e.terms ≡ arity
  pub values : All (HasValue (length args)) e.terms

-- if the effect is of the predicate, it has a row of objects of the task
pub record IsEffectAt (objects : ℕ) (args : List ℕ) (predicate arity : ℕ) (e : Lifted) : Type 0 where
  pub row : e.predicate ≡ predicate → HasRow args arity e
  pub within : e.predicate ≡ predicate → All (λ o. o < objects) (row_under args e)

-- whether some effect names the atom of the predicate with this row
abbrev pub is_named : List ℕ → ℕ → List Lifted → List ℕ → Bool
is_named args predicate effects row = state_of (map (atom_at args) effects) (atom_of predicate row)

-- whether the row is at most the row of an effect
abbrev pub is_done : List ℕ → Option (Bor Lifted) → List ℕ → Bool
is_done args None row = false
is_done args (Some last) row = comes_before true (row_under args last.now) row

-- of the named rows that are not done, the effect's is the least
pub record IsNextNamed (args : List ℕ) (predicate : ℕ) (done : List ℕ → Bool) (effects : List Lifted)
    (e : Lifted) : Type 0 where
  pub held : Contains effects e
  pub of_predicate : e.predicate ≡ predicate
  pub past : done (row_under args e) ≡ false
  pub least : (row : List ℕ) → is_named args predicate effects row ≡ true → done row ≡ false →
      comes_before false (row_under args e) row ≡ false

-- the effect with the next named row, or none where all are done
abbrev pub IsNext : List ℕ → ℕ → (List ℕ → Bool) → List Lifted → Option (Bor Lifted) → Type 0
IsNext args predicate done effects next =
    MatchOption next ((row : List ℕ) → is_named args predicate effects row ≡ true → done row ≡ true)
    (λ e. IsNextNamed args predicate done effects e.now)

-- whether the row is among these after the deletes and adds
abbrev pub is_row_after : List ℕ → ℕ → List Lifted → List Lifted → List (List ℕ) → List ℕ → Bool
is_row_after args predicate deletes adds rows row =
    changed (λ a. list_any (bytes_eq a.objects) rows) (map (atom_at args) deletes) (map (atom_at args) adds)
    (atom_of predicate row)

-- the new words are the old ones and the rows after the deletes and adds, ascending; so many
pub record AppendsRows (args : List ℕ) (predicate arity : ℕ) (deletes adds : List Lifted)
    (rows : List (List ℕ)) (count : ℕ) (old new : List ℕ) : Type 0 where
  pub after : List (List ℕ)
  pub words_are : new ≡ old ++ flat_map (λ row. row) after
  pub many : count ≡ length after
  pub ascending : IsAscending after
  pub wide : All (λ row. length row ≡ arity) after
  pub members : (row : List ℕ) →
      (Contains after row → is_row_after args predicate deletes adds rows row ≡ true) ×
      (is_row_after args predicate deletes adds rows row ≡ true → Contains after row)

-- the rows from one place up to another
abbrev pub rows_between : ℕ → ℕ → List (List ℕ) → List (List ℕ)
rows_between from to rows = take (to - from) (drop from rows)

-- whether this row stands at the place
pub record StandsAt (rows : List (List ℕ)) (place : ℕ) (row : List ℕ) : Type 0 where
  pub within : place < length rows
  pub is : slice_index_or rows place [] ≡ row

-- the rows up to a given one are appended, then this one if it is added; then it is done
pub record AppendsUpTo (rows : List (List ℕ)) (row : List ℕ) (added : Bool) (done next more : ℕ)
    (old new : List ℕ) : Type 0 where
  pub place : ℕ
  pub from : done ≤ place
  pub to : place ≤ length rows
  pub narrowed : IsNarrowed (comes_before false row) rows place place
  pub words_are : new ≡ old ++ flat_map (λ r. r)
      (rows_between done place rows ++ (if added then row ∷ [] else []))
  pub many : more ≡ (place - done) + (if added then 1 else 0)
  pub next_is : (StandsAt rows place row × (next ≡ place + 1)) ⊎
      ((StandsAt rows place row → ⊥) × (next ≡ place))

-- each effect is of the task: it has a row for its predicate, of objects of the task
abbrev pub AreEffects : Task → List ℕ → List Lifted → Type 0
AreEffects task args effects = (p : ℕ) (d : PredicateDef) → slice_get task.predicates p ≡ Some d →
    All (IsEffectAt (length task.objects) args p d.arity) effects
