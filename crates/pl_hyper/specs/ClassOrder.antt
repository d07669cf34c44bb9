-- The order of the classes that a removal of ears gives.
use Rattle.std.specs.Prelude.{◌≡◌, ◌==◌, ◌++◌, ◌<◌, ℕ, List, [], ◌∷◌, length, map, reverse, not, slice_index}
use Rattle.std.specs.Prelude.{Contains}
use Rattle.std.specs.Int.{bit_at}
use Rattle.std.specs.List.{filter, flat_map, range_with_len}
use Rattle.pl_hyper.specs.Edges.{Holds}
use Rattle.pl_hyper.specs.Ears.{Removal}

-- some edge holds the class
abbrev pub IsClass : List ℕ → ℕ → Type 0
IsClass edges class = (e : ℕ) × (e < length edges) × Holds edges e class

-- the classes below a bound that an edge holds, rising
abbrev pub classes_below : ℕ → ℕ → List ℕ
classes_below bound edge = filter (λ class. bit_at edge class == 1) (range_with_len 0 bound)

-- the classes of an edge, rising
unfoldable pub classes_of : ℕ → List ℕ
classes_of edge = classes_below 64 edge

-- the edges in the order in which they are walked: the core, and then the removed ones, the last removed
-- first
abbrev pub walk_order : Removal → List ℕ
walk_order plan = plan.core ++ reverse (map (λ ear. ear.edge) plan.removed)

-- the elements of a list, each at its first appearance alone
abbrev pub first_appearances : List ℕ → List ℕ
first_appearances [] = []
first_appearances (x ∷ xs) = x ∷ filter (λ y. not (y == x)) (first_appearances xs)

-- the classes in the order in which the walk over the edges meets them
abbrev pub class_order : Removal → List ℕ
class_order plan = first_appearances (flat_map (λ e. classes_of (slice_index plan.edges e)) (walk_order plan))

-- one of these edges holds the class
abbrev pub IsHeldBy : List ℕ → List ℕ → ℕ → Type 0
IsHeldBy edges some class = (e : ℕ) × Contains some e × Holds edges e class

-- wherever the walk is cut in two, the classes of the edges that it walked stand in the order before the
-- others
abbrev pub BeginsWithWalked : Removal → List ℕ → Type 0
BeginsWithWalked plan order = (walked rest : List ℕ) (i j : ℕ) → walk_order plan ≡ walked ++ rest →
    i < length order → j < length order
    → IsHeldBy plan.edges walked (slice_index order i) →
    (IsHeldBy plan.edges walked (slice_index order j) → ⊥) → i < j
