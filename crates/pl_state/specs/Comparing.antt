-- Words that are compared group by group.
use Rattle.std.specs.Prelude.{◌≡◌, ℕ, ◌<◌, ◌≤◌, List, slice_index}

-- the words at the places from the first on, and before the second, are the same
abbrev pub AgreeBetween : ℕ → ℕ → List ℕ → List ℕ → Type 0
AgreeBetween from to xs ys = (i : ℕ) → from ≤ i → i < to → slice_index xs i ≡ slice_index ys i
