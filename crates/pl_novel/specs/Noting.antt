-- Which sets of fluent atoms are noted, and what noting those of a state answers and leaves.
use Rattle.std.specs.Prelude.{◌≡◌, ◌≢◌, ◌↔◌, ◌⊎◌, ℕ, ◌≤◌, List, All, AllPairs, Contains}
use Rattle.pl_task.specs.declared.data.Atom.{Atom}
use Rattle.pl_task.specs.declared.task.Task.{Task}
use Rattle.pl_task.specs.Instance.{Instance}
use Rattle.pl_task.specs.States.{State, result_of}
use Rattle.pl_novel.specs.AtomSets.{IsAtomSet, IsSetOf}

-- the width, and the sets that are noted
pub record Noted : Type 0 where
  pub width : ℕ
  pub sets : List (List Atom)

abbrev pub IsNoted : Noted → List Atom → Type 0
IsNoted noted set = Contains noted.sets set

-- they are sets of 1 to `width` atoms, each once, and the width is 1 or 2
pub record AreNoted (noted : Noted) : Type 0 where
  pub some : 1 ≤ noted.width
  pub few : noted.width ≤ 2
  pub atom_sets : All (IsAtomSet noted.width) noted.sets
  pub once : AllPairs (λ (a b : List Atom). a ≢ b) noted.sets

-- a set of the state's fluent atoms is not noted
pub record HasNewSet (task : Task) (noted : Noted) (s : State) : Type 0 where
  pub set : List Atom
  pub of_state : IsSetOf task noted.width s set
  pub unnoted : IsNoted noted set → ⊥

-- noted are the sets that were, and all sets of the state's fluent atoms
pub record NotesState (task : Task) (s : State) (old new : Noted) : Type 0 where
  pub same_width : new.width ≡ old.width
  pub sets_are : (set : List Atom) → IsNoted new set ↔ (IsNoted old set ⊎ IsSetOf task old.width s set)

-- all sets of the state's fluent atoms are noted
abbrev pub AreAllNoted : Task → Noted → State → Type 0
AreAllNoted task noted s = (set : List Atom) → IsSetOf task noted.width s set → IsNoted noted set

-- the step leads to the state, applicable or not, from one whose sets are all noted
pub record FollowsNoted (task : Task) (noted : Noted) (s : State) (step : Instance) : Type 0 where
  pub parent : State
  pub leads : s ≡ result_of task parent step
  pub parent_noted : AreAllNoted task noted parent
