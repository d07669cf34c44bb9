-- What a reading meets at a place, and how far it goes.
use Rattle.std.specs.Prelude.{◌≡◌, ◌≢◌, ℕ, ◌+◌, ◌==◌, true, cond, List, [], ◌∷◌}
use Rattle.pl_text.specs.declared.scan.Kind.{Kind}
use Rattle.pl_text.specs.declared.scan.Kind.TheVariants.{Open, Close, Comment, Word, Blank, Bad}
use Rattle.pl_text.specs.Bytes.{is_blank, is_word_byte, is_bad_byte}

-- how many bytes stand before the first end of line
abbrev pub line_length : List ℕ → ℕ
line_length [] = 0
line_length (b ∷ bytes) = cond (b == 10) 0 (line_length bytes + 1)

-- The byte is of this kind.
abbrev pub IsOfKind : ℕ → Kind → Type 0
IsOfKind b Open = b ≡ 40
IsOfKind b Close = b ≡ 41
IsOfKind b Comment = b ≡ 59
IsOfKind b Word = is_word_byte b ≡ true
IsOfKind b Blank = is_blank b ≡ true
IsOfKind b Bad = (is_bad_byte b ≡ true) × (b ≢ 59)
