-- The walk over the nodes, in which a cursor reads their tables: the root first, then the others from the
-- last to the first.
use Rattle.std.specs.Prelude.{ℕ, List, [], ◌∷◌, reverse, IsTrue, map}
use Rattle.std.specs.List.{flat_map, list_any}
use Rattle.pl_rows.specs.Rows.{begins_with}
use Rattle.pl_join.specs.Relation.{Assignment}
use Rattle.pl_reduce.specs.Nodes.{Node, key_classes, new_classes}

-- the nodes in the order in which they are walked
abbrev pub walk_of : List Node → List Node
walk_of [] = []
walk_of (root ∷ others) = root ∷ reverse others

-- the classes in the order in which the walk meets them
abbrev pub classes_along : List Node → List ℕ
classes_along walk = flat_map new_classes walk

-- the node has a row with the values that the assignment gives to its key
abbrev pub GoesOn : Assignment → Node → Type 0
GoesOn f node = IsTrue (list_any (begins_with (map f (key_classes node))) node.relation.rows)
