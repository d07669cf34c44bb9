-- Names in a list: the number of each, and the names by first appearance.
use Rattle.std.specs.Prelude.{◌≡◌, ℕ, suc, cond, not, List, [], ◌∷◌, map, Option, Some, None, option_map}
use Rattle.std.specs.Prelude.{Contains}
use Rattle.std.specs.Borrow.{Bor}
use Rattle.std.specs.List.{filter}
use Rattle.std.specs.Str.{bytes_eq}

-- the bytes of borrowed names
abbrev pub texts : List (Bor (List ℕ)) → List (List ℕ)
texts list = map (λ (name : Bor (List ℕ)). name.now) list

-- the number of a name: its first place in the list, counted from 0
abbrev pub number_among : List (List ℕ) → List ℕ → Option ℕ
number_among [] name = None
number_among (first ∷ names) name = cond (bytes_eq first name) (Some 0)
    (option_map suc (number_among names name))

-- the names of a list, each at its first appearance alone
abbrev pub first_appearances : List (List ℕ) → List (List ℕ)
first_appearances [] = []
first_appearances (name ∷ names) = name ∷ filter (λ other. not (bytes_eq other name))
    (first_appearances names)
