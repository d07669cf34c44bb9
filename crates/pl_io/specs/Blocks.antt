-- Output that is gathered into blocks: what of it was sent on to a sink, and what is held back.
use Rattle.std.specs.Prelude.{◌≡◌, ℕ, List, ◌++◌, Option}
use Rattle.std.specs.Io.KnownBytes.{Appends}
use Rattle.pl_io.specs.declared.blocks.Blocks.{Blocks}

-- how many bytes a block has
abbrev pub block_bytes : ℕ
block_bytes = 65536

-- the bytes that are held back
abbrev pub held_of : Blocks → List ℕ
held_of blocks = blocks.held.items

-- Of the bytes that were held back and then the new ones, a front was written in its order, and the rest is
-- left.
pub record SendsOn (old new : Option (List ℕ)) (held bytes left : List ℕ) : Type 0 where
  pub sent : List ℕ
  pub put : Appends old new sent
  pub rest : held ++ bytes ≡ sent ++ left
