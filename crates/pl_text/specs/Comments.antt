-- Comments: each begins with `;` and ends before the next end of line, byte 10.
use Rattle.std.specs.Prelude.{◌≡◌, ◌≢◌, ℕ, ◌<◌, ◌≤◌, ◌==◌, cond, List, [], ◌∷◌, length, slice_get, Some}

-- Position p stands in a comment: some position up to p holds `;`, and no byte 10 stands from there to p.
pub record IsCommented (bytes : List ℕ) (p : ℕ) : Type 0 where
  pub start : ℕ
  pub begins : slice_get bytes start ≡ Some 59
  pub up_to : start ≤ p
  pub in_file : p < length bytes
  pub unbroken : (q : ℕ) → start ≤ q → q ≤ p → slice_get bytes q ≢ Some 10

-- Position p holds this byte, outside comments.
abbrev pub HoldsByte : List ℕ → ℕ → ℕ → Type 0
HoldsByte bytes p b = (slice_get bytes p ≡ Some b) × (IsCommented bytes p → ⊥)

abbrev mutual
  -- the bytes of a file, each commented one as a blank
  pub shown : List ℕ → List ℕ
  shown [] = []
  shown (b ∷ bytes) = cond (b == 59) (32 ∷ hidden bytes) (b ∷ shown bytes)

  -- the same of what follows a byte inside a comment
  pub hidden : List ℕ → List ℕ
  hidden [] = []
  hidden (b ∷ bytes) = cond (b == 10) (10 ∷ shown bytes) (32 ∷ hidden bytes)
