-- New states under a width (Lipovetzky and Geffner 2012).
use Rattle.std.specs.Prelude.{ℕ, ◌<◌, ◌≤◌, IsTrue, List, length, All}
use Rattle.pl_task.specs.declared.data.Atom.{Atom}
use Rattle.pl_task.specs.declared.task.Task.{Task}
use Rattle.pl_task.specs.States.{State}
use Rattle.pl_task.specs.WellFormed.{is_fluent}

-- each of the atoms is true in the state
abbrev pub HasAll : State → List Atom → Type 0
HasAll s atoms = All (λ a. IsTrue (s a)) atoms

-- 1 to k fluent atoms of the state are together in none of the states seen; a repeated atom counts as one
pub record IsNovel (task : Task) (k : ℕ) (seen : List State) (s : State) : Type 0 where
  pub atoms : List Atom
  pub some : 0 < length atoms
  pub few : length atoms ≤ k
  pub fluent : All (λ (a : Atom). IsTrue (is_fluent task.schemas a.predicate)) atoms
  pub has : HasAll s atoms
  pub unseen : All (λ t. HasAll t atoms → ⊥) seen

abbrev pub IsStale : Task → ℕ → List State → State → Type 0
IsStale task k seen s = IsNovel task k seen s → ⊥
