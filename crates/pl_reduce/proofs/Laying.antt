-- The steps of the loop that lays out the stops of a plan, and that a plan's layout is that of each join over
-- it.
use Rattle.std.proofs.Common.{◌≡◌, ◌+◌, ◌-◌, ◌<◌, ◌≤◌, ℕ, zero, suc, List, [], ◌∷◌, ◌++◌, length, map, filter}
use Rattle.std.specs.Int.{bit_at}
use Rattle.std.specs.Prelude.{slice_index}
use Rattle.std.proofs.Common.{◌↔◌, ◌==◌, Bool, All, get_or, refl, sym, ap, ◌∙◌, subst, arith}
use Rattle.std.proofs.lemmas.List.{append_assoc, append-nil, length-drop, length-map, get_or-map}
use Rattle.std.proofs.lemmas.List.Sums.{length-filter, count_by-le-length}
use Rattle.std.proofs.lemmas.List.Elements.{All-filter}
use Rattle.pl_hyper.specs.declared.ear.Ear.{Ear}
use Rattle.pl_hyper.specs.Ears.{Removal, IsRemoval, IsWalkable}
use Rattle.pl_hyper.specs.ClassOrder.{class_order, IsHeldBy}
use Rattle.pl_reduce.specs.declared.layout.Stop.{Stop}
use Rattle.pl_reduce.specs.Nodes.{Node, ReducedJoin, node_at}
use Rattle.pl_reduce.specs.Walk.{walk_of, classes_along}
use Rattle.pl_reduce.specs.Plan.{core_order, edge_holds, edge_order, AreColumns}
use Rattle.pl_reduce.specs.Arranged.{key_width}
use Rattle.pl_reduce.specs.Layout.{LayoutView, IsLayoutOf, IsLayoutFor, IsSeen, number_walked, node_walked}
use Rattle.pl_reduce.specs.Layout.{ArePlaces, met_before, stop_of, stops_from, stops_of}
use Rattle.pl_reduce.proofs.Columns.{columns}
use Rattle.pl_reduce.proofs.EdgeSets.{core_of_set}
use Rattle.pl_reduce.proofs.Stopping.{met_more, met_within, is_bringing, not_bringing, stop_next, stop_none}
use Rattle.pl_reduce.proofs.Stopping.{all_stops}

-- the stops of the first steps of the walk are laid out
pub record IsLaidUpTo (nodes : List Node) (stops : List Stop) (from step : ℕ) : Type 0 where
  pub met : from ≡ met_before nodes step
  pub laid : stops ++ stops_from nodes step (length nodes - step) ≡ stops_of nodes

abbrev pub AreLaidUpTo : Removal → List Stop → ℕ → ℕ → Type 0
AreLaidUpTo plan stops from step = (nodes : List Node) → AreColumns plan nodes
    → IsLaidUpTo nodes stops from step

pub laid_none : (plan : Removal) → AreLaidUpTo plan [] 0 0
laid_none plan nodes are =
    let all : length nodes - 0 ≡ length nodes = omega arith in
    record { met = refl; laid = ap (stops_from nodes 0) all ∙ sym (all_stops nodes) }

-- the classes that were met after a step
met_next : (nodes : List Node) (stops : List Stop) (from step node width arity : ℕ)
    → IsLaidUpTo nodes stops from step → IsSeen nodes step node width arity → step < length nodes
    → from + (arity - width) ≡ met_before nodes (step + 1)
met_next nodes stops from step node width arity laid seen l =
    let more = met_more nodes step l in
    let new = length-drop (node_walked nodes step).width (node_walked nodes step).relation.classes in
    omega (arith, more, new, laid.met, seen.width_is, seen.arity_is)

walked_within : (plan : Removal) (nodes : List Node) (step : ℕ) → AreColumns plan nodes
    → step ≤ length plan.removed → step < length nodes
walked_within plan nodes step are l = let many = are.many in omega arith

-- a node brings classes: a stop more
pub laid_more : (plan : Removal) (stops : List Stop) (from step node width arity : ℕ)
    → AreLaidUpTo plan stops from step
    → ((nodes : List Node) → AreColumns plan nodes → IsSeen nodes step node width arity)
    → step ≤ length plan.removed → width < arity
    → AreLaidUpTo plan (stops ++ record { node = node; width = width; from = from } ∷ [])
    (from + (arity - width)) (step + 1)
laid_more plan stops from step node width arity laid seen l brought nodes are =
    let it = seen nodes are in
    let was = laid nodes are in
    let within : step < length nodes = walked_within plan nodes step are l in
    let left : length nodes - step ≡ suc (length nodes - (step + 1)) = omega arith in
    let bringing = is_bringing (node_walked nodes step) (omega (arith, it.width_is, it.arity_is)) in
    let stop : Stop = record { node = node; width = width; from = from } in
    let rest : List Stop = stops_from nodes (step + 1) (length nodes - (step + 1)) in
    let same : stop ≡ stop_of nodes step =
    λ i. record { node = it.node_is i; width = it.width_is i; from = was.met i } in
    let next : stops_from nodes step (length nodes - step) ≡ stop ∷ rest =
    ap (stops_from nodes step) left ∙ stop_next nodes step (length nodes - (step + 1)) bringing
    ∙ ap (λ s. s ∷ rest) (sym same) in
    record {
      met = met_next nodes stops from step node width arity was it within;
      laid = append_assoc stops (stop ∷ []) rest ∙ ap (λ ss. stops ++ ss) (sym next) ∙ was.laid;
    }

-- a node brings none
pub laid_same : (plan : Removal) (stops : List Stop) (from step node width arity : ℕ)
    → AreLaidUpTo plan stops from step
    → ((nodes : List Node) → AreColumns plan nodes → IsSeen nodes step node width arity)
    → step ≤ length plan.removed → arity ≤ width → AreLaidUpTo plan stops from (step + 1)
laid_same plan stops from step node width arity laid seen l wide nodes are =
    let it = seen nodes are in
    let was = laid nodes are in
    let within : step < length nodes = walked_within plan nodes step are l in
    let left : length nodes - step ≡ suc (length nodes - (step + 1)) = omega arith in
    let none = not_bringing (node_walked nodes step) (omega (arith, it.width_is, it.arity_is)) in
    let next : stops_from nodes step (length nodes - step) ≡ stops_from nodes (step + 1)
    (length nodes - (step + 1)) = ap (stops_from nodes step) left
    ∙ stop_none nodes step (length nodes - (step + 1)) none in
    let met = met_next nodes stops from step node width arity was it within in
    record {
      met = omega (arith, met);
      laid = ap (λ ss. stops ++ ss) (sym next) ∙ was.laid;
    }

-- the walk is at its end
pub laid_all : (plan : Removal) (stops : List Stop) (from step : ℕ) → AreLaidUpTo plan stops from step
    → length plan.removed < step → (nodes : List Node) → AreColumns plan nodes → stops ≡ stops_of nodes
laid_all plan stops from step laid l nodes are =
    let many = are.many in
    let none : length nodes - step ≡ 0 = omega arith in
    sym (append-nil stops) ∙ ap (λ n. stops ++ stops_from nodes step n) (sym none) ∙ (laid nodes are).laid

-- ---- there is room

-- the nodes of a plan, without rows
abbrev ear_node : Removal → Ear → Node
ear_node plan ear = record {
  relation = record { classes = edge_order plan ear.edge; rows = [] };
  width = length (filter (edge_holds plan ear.parent) (edge_order plan ear.edge));
}

abbrev plan_nodes : Removal → List Node
plan_nodes plan = record { relation = record { classes = core_order plan; rows = [] }; width = 0 }
    ∷ map (ear_node plan) plan.removed

ear_node_at : (plan : Removal) (i : ℕ) (d : Ear) → i < length plan.removed
    → node_at (plan_nodes plan) (suc i) ≡ ear_node plan (get_or plan.removed i d)
ear_node_at plan i d l = get_or-map (ear_node plan) plan.removed i d
    (record { relation = record { classes = []; rows = [] }; width = 0 }) l

plan_columns : (plan : Removal) → AreColumns plan (plan_nodes plan)
plan_columns plan = record {
  many = ap suc (length-map plan.removed (ear_node plan));
  root = refl;
  root_width = refl;
  ears = λ i d l. ap (λ (n : Node). n.relation.classes) (ear_node_at plan i d l);
  widths = λ i d l. ap (λ (n : Node). n.width) (ear_node_at plan i d l);
}

-- no more classes are met than there are
pub room : (plan : Removal) (stops : List Stop) (from step node width arity : ℕ) → IsRemoval plan
    → IsWalkable plan → length (class_order plan) ≤ 64 → AreLaidUpTo plan stops from step
    → ((nodes : List Node) → AreColumns plan nodes → IsSeen nodes step node width arity)
    → step ≤ length plan.removed → from + (arity - width) ≤ 64
room plan stops from step node width arity removal walkable few laid seen l =
    let nodes : List Node = plan_nodes plan in
    let are : AreColumns plan nodes = plan_columns plan in
    let order : class_order plan ≡ classes_along (walk_of nodes) =
    (columns plan nodes removal walkable are).order in
    let met = met_next nodes stops from step node width arity (laid nodes are) (seen nodes are)
    (walked_within plan nodes step are l) in
    omega (arith, met, met_within nodes (step + 1), ap length order, few)

-- ---- what is read of a node

pub seen_is : (plan : Removal) (edges : List ℕ) (ears : List Ear) (held slice : List ℕ)
    (node step width arity : ℕ) → edges ≡ plan.edges → ears ≡ plan.removed → slice ≡ held
    → arity ≡ length held → node ≡ number_walked (length ears + 1) step
    → node ≤ length ears
    → ((nodes : List Node) → AreColumns plan nodes → held ≡ (node_at nodes node).relation.classes)
    → width ≡ key_width (record { edges = edges; removed = ears; core = [] }) node slice
    → (nodes : List Node) → AreColumns plan nodes → IsSeen nodes step node width arity
seen_is plan edges ears held slice node step width arity ee er es ea number l classes w nodes are =
    let long = ap length er in
    let many = are.many in
    let all : length ears + 1 ≡ length nodes = omega arith in
    let same : node ≡ number_walked (length nodes) step = number ∙ ap (λ m. number_walked m step) all in
    record {
      node_is = same;
      width_is = w ∙ ap (key_width (record { edges = edges; removed = ears; core = [] }) node) es
          ∙ ap (λ xs. key_width (record { edges = xs; removed = ears; core = [] }) node held) ee
          ∙ ap (λ xs. key_width (record { edges = plan.edges; removed = xs; core = [] }) node held) er
          ∙ ap (key_width (record { edges = plan.edges; removed = plan.removed; core = [] }) node)
          (classes nodes are)
          ∙ width_at node (omega arith)
          ∙ ap (λ n. (node_at nodes n).width) same;
      arity_is = ea ∙ ap length (classes nodes are)
          ∙ ap (λ n. length (node_at nodes n).relation.classes) same;
    }
  where
    none : Ear
    none = record { edge = 0; parent = 0 }

    width_at : (n : ℕ) → n ≤ length plan.removed
        → key_width (record { edges = plan.edges; removed = plan.removed; core = [] }) n
        (node_at nodes n).relation.classes ≡ (node_at nodes n).width
    width_at zero h = sym are.root_width
    width_at (suc i) h = ap (λ cs. length (filter (edge_holds plan (get_or plan.removed i none).parent) cs))
        (are.ears i none (omega arith)) ∙ sym (are.widths i none (omega arith))

-- the classes of a node, as a part of the class order
pub root_set : (plan : Removal) (order edges core : List ℕ) (set : ℕ) → order ≡ class_order plan
    → edges ≡ plan.edges → core ≡ plan.core
    → ((c : ℕ) → (bit_at set c ≡ 1) ↔ IsHeldBy edges core c) → (nodes : List Node) → AreColumns plan nodes
    → filter (λ c. bit_at set c == 1) order ≡ (node_at nodes 0).relation.classes
root_set plan order edges core set eo ee ec held nodes are =
    core_of_set plan order edges core set eo ee ec held ∙ sym are.root

pub ear_set : (plan : Removal) (edges : List ℕ) (ears : List Ear) (i : ℕ) → edges ≡ plan.edges
    → ears ≡ plan.removed → i < length plan.removed → (nodes : List Node) → AreColumns plan nodes
    → filter (λ c. bit_at (slice_index edges (get_or ears i (record { edge = 0; parent = 0 })).edge) c == 1)
    (class_order plan) ≡ (node_at nodes (suc i)).relation.classes
ear_set plan edges ears i ee er l nodes are =
    let none : Ear = record { edge = 0; parent = 0 } in
    ap (λ es. filter (λ c. bit_at (slice_index es (get_or ears i none).edge) c == 1) (class_order plan)) ee
    ∙ ap (λ xs. edge_order plan (get_or xs i none).edge) er ∙ sym (are.ears i none l)

-- a part of some classes
pub part_few : (test : ℕ → Bool) (classes part slice : List ℕ) → slice ≡ part → part ≡ filter test classes
    → length classes ≤ 64 → length slice ≤ 64
part_few test classes part slice es ep few =
    omega (
      arith,
      ap length es,
      ap length ep,
      length-filter test classes,
      count_by-le-length test classes,
      few,
    )

pub part_below : (test : ℕ → Bool) (classes part slice : List ℕ) → slice ≡ part → part ≡ filter test classes
    → All (λ c. c < 64) classes → All (λ c. c < 64) slice
part_below test classes part slice es ep below = subst (All (λ c. c < 64)) (sym (es ∙ ep))
    (All-filter test (λ c. c < 64) classes below)

-- ---- the layout of a join

pub layout_is : (plan : Removal) (join : ReducedJoin) (layout : LayoutView) → IsLayoutFor plan layout
    → layout.classes ≡ join.classes → AreColumns plan join.nodes → IsLayoutOf join layout
layout_is plan join layout is same are = record {
  classes = same;
  stops = is.stops join.nodes are;
  places = subst (λ cs. ArePlaces cs layout.places) same is.places;
}
