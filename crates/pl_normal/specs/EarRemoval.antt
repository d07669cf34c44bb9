-- The removal of ears as a function of the edges: the removal that `Rattle.pl_hyper.specs.Ears` describes,
-- which is the only one.
use Rattle.std.specs.Prelude.{ℕ, zero, suc, ◌==◌, Bool, not, ◌&&◌, ◌||◌, List, [], ◌∷◌, ◌++◌, Option, Some}
use Rattle.std.specs.Prelude.{None, length, slice_index, bit_and}
use Rattle.std.specs.List.{find, list_all}
use Rattle.pl_hyper.specs.Edges.{edge_numbers}
use Rattle.pl_hyper.specs.Ears.{Removal, without}
use Rattle.pl_hyper.specs.declared.ear.Ear.{Ear}

-- whether the third set has each class that the first shares with the second
abbrev pub serves : ℕ → ℕ → ℕ → Bool
serves edge other parent = bit_and (bit_and edge other) parent == bit_and edge other

-- whether the parent is another edge that has each class which the edge shares with the remaining others
abbrev pub is_parent : List ℕ → List ℕ → ℕ → ℕ → Bool
is_parent edges remaining edge parent =
    not (edge == parent)
    && list_all (λ other. (other == edge) || serves (slice_index edges edge) (slice_index edges other)
    (slice_index edges parent)) remaining

abbrev pub ear_or : ℕ → Option ℕ → Option Ear → Option Ear
ear_or edge None other = other
ear_or edge (Some parent) other = Some (record { edge = edge; parent = parent })

-- the first of some edges that a remaining one serves, with the first that does
abbrev pub first_ear_among : List ℕ → List ℕ → List ℕ → Option Ear
first_ear_among edges remaining [] = None
first_ear_among edges remaining (e ∷ es) = ear_or e (find (is_parent edges remaining e) remaining)
    (first_ear_among edges remaining es)

-- a removal that is under way: the ears that were removed, and the edges that remain
pub record Underway : Type 0 where
  pub removed : List Ear
  pub remaining : List ℕ

abbrev pub without_ear : Underway → Option Ear → Underway
without_ear under None = under
without_ear under (Some ear) =
    record { removed = under.removed ++ ear ∷ []; remaining = without ear.edge under.remaining }

-- at most so many ears are removed, each the first of those that remain
abbrev pub ears_removed : List ℕ → ℕ → Underway → Underway
ears_removed edges zero under = under
ears_removed edges (suc n) under = ears_removed edges n
    (without_ear under (first_ear_among edges under.remaining under.remaining))

abbrev pub removal_at : List ℕ → Underway → Removal
removal_at edges under = record { edges = edges; removed = under.removed; core = under.remaining }

-- the ears that are removed until none remains, and the core
unfoldable pub ear_removal : List ℕ → Removal
ear_removal edges = removal_at edges
    (ears_removed edges (length edges) (record { removed = []; remaining = edge_numbers edges }))
