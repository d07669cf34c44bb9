-- A queue of marked numbers.
use Rattle.std.specs.Prelude.{◌≡◌, ℕ, ◌+◌, Bool, true, false, not, List, ◌++◌, ◌↔◌, length, All, Contains}
use Rattle.std.specs.Prelude.{count_by}
use Rattle.std.proofs.Common.{get_or}

-- the queue holds the marked numbers, and is as long as there are marks
pub record IsMarking (marks : List Bool) (queue : List ℕ) : Type 0 where
  pub total : length queue + count_by not marks ≡ length marks
  pub marked : (k : ℕ) → (get_or marks k false ≡ true) ↔ Contains queue k

-- the new queue is the old one with some of the numbers appended
abbrev pub Grows : List ℕ → List ℕ → List ℕ → Type 0
Grows numbers old new = (rest : List ℕ) × (new ≡ old ++ rest) × All (Contains numbers) rest
