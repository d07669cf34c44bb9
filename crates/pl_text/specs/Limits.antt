-- How large a file may be, and how deep its lists may nest.
use Rattle.std.specs.Prelude.{ℕ}

-- how many bytes a file may have
abbrev pub most_bytes : ℕ
most_bytes = 16777216

-- how many lists may stand open at one place of a file
abbrev pub most_open : ℕ
most_open = 200
