-- Calls that are interrupted leave the known bytes as they were.
use Rattle.std.proofs.Common.{ℕ, ◌++◌, List, Some, None, ◌∙◌, sym, ap}
use Rattle.std.specs.Prelude.{Option}
use Rattle.std.specs.Io.KnownBytes.{Appends, Consumes, Keeps}
use Rattle.std.proofs.KnownBytes.{Keeps-refl, Keeps-trans}

pub Consumes-after : (old mid new : Option (List ℕ)) (bytes : List ℕ) → Keeps old mid → Consumes mid new bytes
    → Consumes old new bytes
Consumes-after None mid new bytes kept taken = tt
Consumes-after (Some xs) None new bytes kept taken = absurd kept
Consumes-after (Some xs) (Some ys) None bytes kept taken = absurd taken
Consumes-after (Some xs) (Some ys) (Some zs) bytes kept taken = sym kept ∙ taken

pub Appends-between : (old mid new last : Option (List ℕ)) (bytes : List ℕ) →
    Keeps old mid → Appends mid new bytes
    → Keeps new last → Appends old last bytes
Appends-between None mid new last bytes kept put flushed = tt
Appends-between (Some xs) None new last bytes kept put flushed = absurd kept
Appends-between (Some xs) (Some ys) None last bytes kept put flushed = absurd put
Appends-between (Some xs) (Some ys) (Some zs) None bytes kept put flushed = absurd flushed
Appends-between (Some xs) (Some ys) (Some zs) (Some ws) bytes kept put flushed =
    flushed ∙ put ∙ ap (λ (l : List ℕ). l ++ bytes) kept

pub ruleset kept = (Keeps-refl, Keeps-trans, Consumes-after, Appends-between)
