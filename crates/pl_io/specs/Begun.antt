-- The names that a shelf in memory notes.
use Rattle.std.specs.Prelude.{ℕ, List, map, Option, option_map}
use Rattle.pl_io.specs.declared.begun.Begun.{Begun}

-- the names in their order, where they are told
abbrev pub names_in : Begun → Option (List (List ℕ))
names_in begun = option_map (λ names. map (λ name. name.items) names.items) begun.names
