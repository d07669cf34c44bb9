-- The types of names, gathered from the items of typed lists into a list for each name.
use Rattle.std.specs.Prelude.{Vec, ◌≡◌, ◌<◌, ◌≤◌, ◌++◌, ℕ, List, [], length, map, filter, bytes_eq}
use Rattle.std.specs.Prelude.{slice_index_or}
use Rattle.std.specs.List.{flat_map}
use Rattle.std.specs.Global.{Global}
use Rattle.pl_check.specs.Reading.{Numbered}
use Rattle.pl_check.specs.Stated.{types_of}
use Rattle.pl_check.specs.TypedLists.{Item}

-- the lists as they are kept
abbrev pub lists_in : List (Vec ℕ Global) → List (List ℕ)
lists_in lists = map (λ (list : Vec ℕ Global). list.items) lists

-- the numbers of all items of this name, in their order
abbrev pub numbers_of : List ℕ → List Numbered → List ℕ
numbers_of name items = flat_map (λ (i : Numbered). i.numbers)
    (filter (λ (i : Numbered). bytes_eq i.name name) items)

-- each list has the numbers of all items of its name added
pub record AreAdded (names : List (List ℕ)) (items : List Numbered) (old new : List (List ℕ)) : Type 0 where
  pub count : length new ≡ length old
  pub each : (k : ℕ) → k < length names →
      slice_index_or new k [] ≡ slice_index_or old k [] ++ numbers_of (slice_index_or names k []) items

-- the lists from a place on are those of the types of the names, as the items state them
pub record AreLeft (types : List (List ℕ)) (items : List Item) (names lists : List (List ℕ)) (place : ℕ) :
    Type 0 where
  pub count : length lists ≡ length names
  pub each : (k : ℕ) → place ≤ k → k < length names →
      slice_index_or lists k [] ≡ types_of types items (slice_index_or names k [])
