-- Sets of fluent atoms: a set is the list of its atoms in one fixed order.
use Rattle.std.specs.Prelude.{◌≡◌, ℕ, ◌<◌, ◌≤◌, List, ◌∷◌, length, All, AllPairs, true}
use Rattle.std.specs.declared.cmp.Ordering.TheVariants.{Less}
use Rattle.pl_rows.specs.Rows.{row_cmp}
use Rattle.pl_task.specs.declared.data.Atom.{Atom}
use Rattle.pl_task.specs.declared.task.Task.{Task}
use Rattle.pl_task.specs.States.{State}
use Rattle.pl_state.specs.StateOf.{is_fluent_in}
use Rattle.pl_registry.specs.Novelty.{HasAll}

-- an atom as one list of numbers: its predicate, then its objects
abbrev pub key_of : Atom → List ℕ
key_of a = a.predicate ∷ a.objects

-- the order of atoms: by predicate, then by the objects, the first place where they differ decides
abbrev pub IsBelow : Atom → Atom → Type 0
IsBelow a b = row_cmp (key_of a) (key_of b) ≡ Less

-- 1 to k atoms, each below the later ones; so no two are one atom
pub record IsAtomSet (k : ℕ) (set : List Atom) : Type 0 where
  pub some : 0 < length set
  pub few : length set ≤ k
  pub ascending : AllPairs IsBelow set

-- a set of 1 to k atoms of the state, all fluent
pub record IsSetOf (task : Task) (k : ℕ) (s : State) (set : List Atom) : Type 0 where
  pub atoms : IsAtomSet k set
  pub fluent : All (λ (a : Atom). is_fluent_in task a.predicate ≡ true) set
  pub has : HasAll s set
