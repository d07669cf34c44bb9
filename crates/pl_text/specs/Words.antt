-- Words are compared without regard to the case of ASCII letters.
use Rattle.std.specs.Prelude.{ℕ, ◌+◌, Bool, ◌&&◌, nat_le, if◌then◌else◌, List, map}

-- a letter `A` to `Z`
abbrev pub is_capital : ℕ → Bool
is_capital b = nat_le 65 b && nat_le b 90

-- a letter `A` to `Z` as the small letter, any other byte as it is
abbrev pub folded_byte : ℕ → ℕ
folded_byte b = if nat_le 65 b && nat_le b 90 then b + 32 else b

-- the word with its letters small
abbrev pub folded : List ℕ → List ℕ
folded word = map folded_byte word
