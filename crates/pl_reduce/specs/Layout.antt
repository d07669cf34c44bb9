-- What a walk over a join reads beside the tables: where it stops, and at which place each class stands. It
-- is the same for all joins over one plan.
use Rattle.std.specs.Prelude.{◌≡◌, ◌-◌, ◌==◌, ℕ, zero, suc, Bool, cond, nat_lt, List, [], ◌∷◌, length, map}
use Rattle.std.specs.Prelude.{take, filter, Contains, slice_index, slice_index_or}
use Rattle.std.specs.List.{range_with_len}
use Rattle.pl_hyper.specs.Ears.{Removal}
use Rattle.pl_hyper.specs.ClassOrder.{class_order}
use Rattle.pl_reduce.specs.declared.layout.Stop.{Stop}
use Rattle.pl_reduce.specs.Nodes.{Node, ReducedJoin, node_at}
use Rattle.pl_reduce.specs.Walk.{walk_of, classes_along}
use Rattle.pl_reduce.specs.Plan.{AreColumns}

-- a layout as its callers see it: the class order, the stops of the walk, and for each number below 64 the
-- place of the class that has it
pub record LayoutView : Type 0 where
  pub classes : List ℕ
  pub stops : List Stop
  pub places : List ℕ

-- at which place a class stands
abbrev pub place_in : List ℕ → ℕ → ℕ
place_in [] c = 0
place_in (k ∷ ks) c = cond (k == c) 0 (suc (place_in ks c))

-- whether a node has classes that no node walked before it holds
abbrev pub brings : Node → Bool
brings node = nat_lt node.width (length node.relation.classes)

-- the number of the node that is walked at a step: of so many nodes the root first, then the others from the
-- last to the first
abbrev pub number_walked : ℕ → ℕ → ℕ
number_walked many zero = 0
number_walked many (suc step) = many - suc step

abbrev pub node_walked : List Node → ℕ → Node
node_walked nodes step = node_at nodes (number_walked (length nodes) step)

-- how many classes the walk meets before a step
abbrev pub met_before : List Node → ℕ → ℕ
met_before nodes step = length (classes_along (take step (walk_of nodes)))

-- the stop at the node that is walked at a step
abbrev pub stop_of : List Node → ℕ → Stop
stop_of nodes step = record {
  node = number_walked (length nodes) step;
  width = (node_walked nodes step).width;
  from = met_before nodes step;
}

-- the stops from a step on, so many steps long: those at the nodes that bring classes
abbrev pub stops_from : List Node → ℕ → ℕ → List Stop
stops_from nodes step many = map (stop_of nodes)
    (filter (λ s. brings (node_walked nodes s)) (range_with_len step many))

-- the stops of the walk over the nodes
unfoldable pub stops_of : List Node → List Stop
stops_of nodes = stops_from nodes 0 (length nodes)

-- the stop at a place
abbrev pub stop_at : List Stop → ℕ → Stop
stop_at stops t = slice_index_or stops t (record { node = 0; width = 0; from = 0 })

-- each class stands at the place that is written for it
pub record ArePlaces (classes places : List ℕ) : Type 0 where
  pub many : length places ≡ 64
  pub are : (c : ℕ) → Contains classes c → slice_index places c ≡ place_in classes c

-- the layout of a reduced join
pub record IsLayoutOf (join : ReducedJoin) (layout : LayoutView) : Type 0 where
  pub classes : layout.classes ≡ join.classes
  pub stops : layout.stops ≡ stops_of join.nodes
  pub places : ArePlaces join.classes layout.places

-- the layout of each join over a plan
pub record IsLayoutFor (plan : Removal) (layout : LayoutView) : Type 0 where
  pub classes : layout.classes ≡ class_order plan
  pub stops : (nodes : List Node) → AreColumns plan nodes → layout.stops ≡ stops_of nodes
  pub places : ArePlaces layout.classes layout.places

-- what is read of the node that is walked at a step
pub record IsSeen (nodes : List Node) (step node width arity : ℕ) : Type 0 where
  pub node_is : node ≡ number_walked (length nodes) step
  pub width_is : width ≡ (node_walked nodes step).width
  pub arity_is : arity ≡ length (node_walked nodes step).relation.classes
