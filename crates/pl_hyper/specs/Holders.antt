-- Which of the remaining edges hold a class, as words: a block is 64 edges that stand next to each other, and
-- bit `k` of a word is for the k-th of them.
use Rattle.std.specs.Prelude.{◌≡◌, ◌≤◌, ◌<◌, ◌+◌, ◌*◌, ◌^◌, ◌↔◌, ℕ, List, length, slice_index, Contains}
use Rattle.std.specs.Int.{bit_at}
use Rattle.pl_hyper.specs.Edges.{Holds}
use Rattle.pl_hyper.specs.Search.{IsShared}

-- the word of each class in each block is the edges that hold it, and `present` has the remaining edges of
-- each block
pub record AreHolders (edges remaining words present : List ℕ) : Type 0 where
  pub many : length words ≡ 64 * length present
  pub few : 64 * length present ≤ 2 ^ 32
  pub all_edges : length edges ≤ 64 * length present
  pub holds : (block place class : ℕ) → place < 64 → class < 64 →
      (bit_at (slice_index words (block * 64 + class)) place ≡ 1) ↔ Holds edges (block * 64 + place) class
  pub remains : (block place : ℕ) → place < 64 →
      (bit_at (slice_index present block) place ≡ 1) ↔ Contains remaining (block * 64 + place)

-- the same of the first edges alone
pub record AreFilled (edges : List ℕ) (count : ℕ) (words present : List ℕ) : Type 0 where
  pub many : length words ≡ 64 * length present
  pub holds : (block place class : ℕ) → place < 64 → class < 64 →
      (bit_at (slice_index words (block * 64 + class)) place ≡ 1)
      ↔ ((block * 64 + place < count) × Holds edges (block * 64 + place) class)
  pub remains : (block place : ℕ) → place < 64 →
      (bit_at (slice_index present block) place ≡ 1) ↔ (block * 64 + place < count)

-- an edge of a block remains and holds all of the classes
pub record IsHolder (words present : List ℕ) (classes block place : ℕ) : Type 0 where
  pub remains : bit_at (slice_index present block) place ≡ 1
  pub holds : (class : ℕ) → bit_at classes class ≡ 1 →
      bit_at (slice_index words (block * 64 + class)) place ≡ 1

-- `shared` are the classes that two of the remaining edges hold, but for those asked about: `holder` holds
-- them, and another remaining edge may
pub record AreSharedBut (edges remaining : List ℕ) (holder asked shared : ℕ) : Type 0 where
  pub holder_remains : Contains remaining holder
  pub holder_holds : (class : ℕ) → bit_at asked class ≡ 1 → Holds edges holder class
  pub still_in : (class : ℕ) → bit_at asked class ≡ 1 → bit_at shared class ≡ 1
  pub others : (class : ℕ) → (bit_at asked class ≡ 1 → ⊥) →
      (bit_at shared class ≡ 1) ↔ IsShared edges remaining class
