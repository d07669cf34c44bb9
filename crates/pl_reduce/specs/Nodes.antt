-- The nodes of a join that was reduced along a removal of ears: node 0 is the root, and the others are the
-- removed edges.
use Rattle.std.specs.Prelude.{ℕ, List, [], length, map, take, drop, slice_index_or}
use Rattle.pl_rows.specs.Rows.{Rows, IndexedRows}
use Rattle.pl_join.specs.Relation.{ClassRows}

-- a node: its relation, and how many of its classes a node that is walked before it holds; these are its
-- first ones
pub record Node : Type 0 where
  pub relation : ClassRows
  pub width : ℕ

-- a reduced join as its callers see it: the class order, and the nodes by their numbers
pub record ReducedJoin : Type 0 where
  pub classes : List ℕ
  pub nodes : List Node

-- the node with a number
abbrev pub node_at : List Node → ℕ → Node
node_at nodes number = slice_index_or nodes number
    (record { relation = record { classes = []; rows = [] }; width = 0 })

abbrev pub relations_of : List Node → List ClassRows
relations_of nodes = map (λ node. node.relation) nodes

-- the classes of a node that a node walked before it holds: a row is looked up by their values
abbrev pub key_classes : Node → List ℕ
key_classes node = take node.width node.relation.classes

-- the classes that no node walked before it holds
abbrev pub new_classes : Node → List ℕ
new_classes node = drop node.width node.relation.classes

-- the table of a node, and with the index of its key
abbrev pub table_of : Node → Rows
table_of node = record { arity = length node.relation.classes; rows = node.relation.rows }

abbrev pub indexed_of : Node → IndexedRows
indexed_of node = record { table = table_of node; width = node.width }
