-- The stages of a reduced join: the nodes of its walk that bring classes.
use Rattle.std.specs.Prelude.{◌+◌, ℕ, cond, List, [], ◌∷◌, length, map}
use Rattle.pl_reduce.specs.Nodes.{Node, ReducedJoin, key_classes, new_classes}
use Rattle.pl_reduce.specs.Walk.{walk_of}
use Rattle.pl_reduce.specs.Layout.{place_in, brings}
use Rattle.pl_cursor.specs.Answers.{Stage}

-- the stage of a node before which the walk meets so many classes
abbrev pub stage_of : List ℕ → ℕ → Node → Stage
stage_of classes from node = record {
  from = from;
  keys = map (place_in classes) (key_classes node);
  rows = node.relation.rows;
}

-- the stages of a part of the walk, before which it meets so many classes
abbrev pub stages_from : List ℕ → ℕ → List Node → List Stage
stages_from classes from [] = []
stages_from classes from (node ∷ nodes) =
    cond (brings node)
    (stage_of classes from node ∷ stages_from classes (from + length (new_classes node)) nodes)
    (stages_from classes from nodes)

-- the stages of a join
unfoldable pub stages_of : ReducedJoin → List Stage
stages_of join = stages_from join.classes 0 (walk_of join.nodes)
