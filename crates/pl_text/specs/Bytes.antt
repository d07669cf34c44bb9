-- The kinds of bytes that a file is made of.
use Rattle.std.specs.Prelude.{ℕ, Bool, ◌||◌, ◌&&◌, not, ◌==◌, nat_le}

-- a blank, a tab, the ends of lines
abbrev pub is_blank : ℕ → Bool
is_blank b = (nat_le 9 b && nat_le b 13) || (b == 32)

-- `(` or `)`
abbrev pub is_bracket : ℕ → Bool
is_bracket b = (b == 40) || (b == 41)

-- a printed ASCII character other than `(`, `)` and `;`
abbrev pub is_word_byte : ℕ → Bool
is_word_byte b = nat_le 33 b && nat_le b 126 && not (is_bracket b) && not (b == 59)

-- a byte that may stand in comments alone
abbrev pub is_bad_byte : ℕ → Bool
is_bad_byte b = not (is_blank b || is_bracket b || is_word_byte b)
