-- A hypergraph as a list of edges. An edge is a set of classes, and bit `c` of its number says whether it
-- holds class `c`.
use Rattle.std.specs.Prelude.{◌≡◌, ℕ, List, length, slice_index}
use Rattle.std.specs.Int.{bit_at}
use Rattle.std.specs.List.{range_with_len}

-- the edge numbered `edge` holds the class
abbrev pub Holds : List ℕ → ℕ → ℕ → Type 0
Holds edges edge class = bit_at (slice_index edges edge) class ≡ 1

-- the numbers of all edges, rising
abbrev pub edge_numbers : List ℕ → List ℕ
edge_numbers edges = range_with_len 0 (length edges)
