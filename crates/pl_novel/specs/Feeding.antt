-- What a pair of numbers feeds a hasher: both as one number.
use Rattle.std.specs.Prelude.{ℕ, ◌+◌, ◌*◌, ◌^◌, List, slice_index}
use Rattle.std.specs.Hash as fed

-- two numbers as one, the first the lower half
abbrev pub joined : ℕ → ℕ → ℕ
joined first second = first + second * 2 ^ 64

abbrev pub fed_pair : List ℕ → List (List ℕ)
fed_pair pair = fed.u128 (joined (slice_index pair 0) (slice_index pair 1))
