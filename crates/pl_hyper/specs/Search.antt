-- What the search for the next ear rests on.
use Rattle.std.specs.Prelude.{◌≡◌, ◌≢◌, ◌<◌, ◌≤◌, ◌↔◌, ℕ, List, length, Contains, slice_index}
use Rattle.std.specs.Int.{bit_at}
use Rattle.pl_hyper.specs.Edges.{Holds}
use Rattle.pl_hyper.specs.Ears.{IsEar}

-- two of the remaining edges hold the class
pub record IsShared (edges remaining : List ℕ) (class : ℕ) : Type 0 where
  pub one : ℕ
  pub other : ℕ
  pub apart : one ≢ other
  pub one_remains : Contains remaining one
  pub other_remains : Contains remaining other
  pub one_holds : Holds edges one class
  pub other_holds : Holds edges other class

-- the bits of `shared` are the classes that two of the remaining edges hold
abbrev pub AreShared : List ℕ → List ℕ → ℕ → Type 0
AreShared edges remaining shared = (class : ℕ) → (bit_at shared class ≡ 1) ↔ IsShared edges remaining class

-- a remaining edge other than `edge` that holds all of the classes
pub record IsParent (edges remaining : List ℕ) (edge classes parent : ℕ) : Type 0 where
  pub remains : Contains remaining parent
  pub apart : edge ≢ parent
  pub serves : (class : ℕ) → bit_at classes class ≡ 1 → Holds edges parent class

-- the least-numbered of them
pub record IsFirstParent (edges remaining : List ℕ) (edge classes parent : ℕ) : Type 0 where
  pub is_parent : IsParent edges remaining edge classes parent
  pub least : (f : ℕ) → IsParent edges remaining edge classes f → parent ≤ f

-- the first ear that stands at `from` or behind it among the remaining edges, and its least-numbered parent
pub record IsEarAt (edges remaining : List ℕ) (from place parent : ℕ) : Type 0 where
  pub within : place < length remaining
  pub is_ear : IsEar edges remaining (slice_index remaining place) parent
  pub least_parent : (f : ℕ) → IsEar edges remaining (slice_index remaining place) f → parent ≤ f
  pub none_before : (k f : ℕ) → from ≤ k → k < place → IsEar edges remaining (slice_index remaining k) f → ⊥
