-- The relations that were handed in for the nodes of a recipe, beside those that stand in their places now.
use Rattle.std.specs.Prelude.{List, [], ◌∷◌, Option, None, Some}
use Rattle.pl_join.specs.Relation.{ClassRows}

-- what was handed in for a node: the origin that is kept, and otherwise what stands there now
abbrev pub handed : Option ClassRows → Option ClassRows → Option ClassRows
handed (Some origin) now = Some origin
handed None now = now

-- the same for all nodes
abbrev pub handed_in : List (Option ClassRows) → List (Option ClassRows) → List (Option ClassRows)
handed_in origins [] = []
handed_in [] (now ∷ nodes) = now ∷ handed_in [] nodes
handed_in (origin ∷ origins) (now ∷ nodes) = handed origin now ∷ handed_in origins nodes
