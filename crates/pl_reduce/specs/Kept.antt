-- What the fields of a reduced join keep.
use Rattle.std.specs.Prelude.{◌≡◌, ◌<◌, ℕ, List, length, map}
use Rattle.pl_join.specs.Relation.{ClassRows, IsRelation}
use Rattle.pl_join.specs.Keyed.{KeyedRows}
use Rattle.pl_hyper.specs.Ears.{Removal}
use Rattle.pl_reduce.specs.Nodes.{Node, ReducedJoin, node_at}
use Rattle.pl_reduce.specs.Plan.{relation_at}
use Rattle.pl_reduce.specs.Arranged.{node_for}
use Rattle.pl_reduce.specs.Reduced.{IsReduced}
use Rattle.pl_reduce.specs.Layout.{LayoutView, IsLayoutOf}
use Rattle.pl_reduce.specs.declared.reduced.Stored.{Stored}
use Rattle.pl_reduce.specs.declared.reduced.Stored.TheVariants.{Own, Lent}
use Rattle.pl_reduce.specs.declared.reduced.StoredLayout.{StoredLayout}
use Rattle.pl_reduce.specs.declared.reduced.StoredLayout.TheVariants.{Own as OwnLayout, Lent as LentLayout}

-- the relation of a stored node, with its key
abbrev pub keyed_of : Stored → KeyedRows
keyed_of (Own keyed) = keyed
keyed_of (Lent keyed) = keyed.now

-- a stored node as its callers see it
abbrev pub node_of : Stored → Node
node_of stored = record { relation = (keyed_of stored).relation; width = (keyed_of stored).width }

abbrev pub layout_of : StoredLayout → LayoutView
layout_of (OwnLayout layout) = layout
layout_of (LentLayout layout) = layout.now

-- the join of stored nodes
abbrev pub join_of : LayoutView → List Stored → ReducedJoin
join_of layout nodes = record { classes = layout.classes; nodes = map node_of nodes }

-- the whole is reduced, and its layout is that of the join
pub record IsKept (layout : LayoutView) (nodes : List Stored) : Type 0 where
  pub reduced : IsReduced (join_of layout nodes)
  pub laid : IsLayoutOf (join_of layout nodes) layout

-- the relations are stored as nodes, one after another
pub record AreStored (plan : Removal) (relations : List ClassRows) (stored : List Stored) : Type 0 where
  pub many : length stored ≡ length relations
  pub nodes : (i : ℕ) → i < length relations → node_at (map node_of stored) i ≡ node_for plan i
      (relation_at relations i)
  pub relations_are : (i : ℕ) → i < length relations → IsRelation (relation_at relations i)
