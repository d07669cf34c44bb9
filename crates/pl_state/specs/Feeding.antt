-- What a packed state feeds a hasher: the number of its words, then four words at a time as one number.
use Rattle.std.specs.Prelude.{ℕ, ◌+◌, ◌*◌, ◌^◌, List, [], ◌∷◌, ◌++◌, length}
use Rattle.std.specs.Hash as fed
use Rattle.std.specs.List.{flat_map}

-- four words as one number, the first the lowest
abbrev pub four_words : ℕ → ℕ → ℕ → ℕ → ℕ
four_words a b c d = a + b * 2 ^ 32 + c * 2 ^ 64 + d * 2 ^ 96

-- four words at a time, and those that are left one by one
abbrev pub fed_fours : List ℕ → List (List ℕ)
fed_fours (a ∷ b ∷ c ∷ d ∷ words) = fed.u128 (four_words a b c d) ++ fed_fours words
fed_fours (a ∷ b ∷ c ∷ []) = flat_map fed.u32 (a ∷ b ∷ c ∷ [])
fed_fours (a ∷ b ∷ []) = flat_map fed.u32 (a ∷ b ∷ [])
fed_fours (a ∷ []) = flat_map fed.u32 (a ∷ [])
fed_fours [] = []

-- the number of words, then the words
abbrev pub fed_words : List ℕ → List (List ℕ)
fed_words words = fed.usize (length words) ++ fed_fours words
