-- The line and the column of a place in a file, both from 1. A line ends with a byte 10.
use Rattle.std.specs.Prelude.{ℕ, ◌+◌, ◌==◌, not, List, take, count_by}
use Rattle.std.specs.List.{suffix_len}

-- 1 plus the ends of lines before the place
abbrev pub line_of : List ℕ → ℕ → ℕ
line_of bytes at = count_by (λ b. b == 10) (take at bytes) + 1

-- 1 plus the bytes between the last end of line before the place, or the start of the file, and the place
abbrev pub column_of : List ℕ → ℕ → ℕ
column_of bytes at = suffix_len (λ b. not (b == 10)) (take at bytes) + 1
