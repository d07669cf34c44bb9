-- The stages of a reduced join are those at the stops of its walk.
use Rattle.std.proofs.Common.{◌≡◌, ◌+◌, ◌<◌, ◌≤◌, ℕ, zero, suc, cond, List, [], ◌∷◌, length, map}
use Rattle.std.proofs.Common.{drop, slice_index, All, refl, sym, ap, ◌∙◌, subst, inl, inr, arith}
use Rattle.std.proofs.lemmas.Bool.{cases_lt}
use Rattle.std.proofs.lemmas.List.{drop_all, length-drop, length-map, get_or-map}
use Rattle.std.proofs.lemmas.List.Elements.{All-cons, All-nil}
use Rattle.pl_reduce.specs.declared.layout.Stop.{Stop}
use Rattle.pl_reduce.specs.Nodes.{Node, ReducedJoin, node_at, new_classes}
use Rattle.pl_reduce.specs.Walk.{walk_of, classes_along}
use Rattle.pl_reduce.specs.Reduced.{IsReduced}
use Rattle.pl_reduce.specs.Layout.{LayoutView, IsLayoutOf, node_walked, number_walked, met_before}
use Rattle.pl_reduce.specs.Layout.{stops_from, stops_of, stop_of, stop_at}
use Rattle.pl_reduce.proofs.Stopping.{length-walk_of, walked, met_more, met_within, is_bringing, not_bringing}
use Rattle.pl_reduce.proofs.Stopping.{stop_next, stop_none, all_stops}
use Rattle.pl_cursor.specs.declared.layout.Layout.{Layout}
use Rattle.pl_cursor.specs.Answers.{Stage, stage_at}
use Rattle.pl_cursor.specs.Stages.{stage_of, stages_from, stages_of}
use Rattle.pl_cursor.specs.Kept.{IsStop, IsLayout}
use Rattle.pl_cursor.proofs.Stops.{narrow_join}

-- the stage at a stop
abbrev stage_for : ReducedJoin → Stop → Stage
stage_for join stop = stage_of join.classes stop.from (node_at join.nodes stop.node)

-- the stages of what is left of the walk at a step, whose first node brings classes, and whose first node
-- brings none
first_stage : (join : ReducedJoin) (step many : ℕ) → step < length join.nodes
    → (node_walked join.nodes step).width < length (node_walked join.nodes step).relation.classes
    → stages_from join.classes (met_before join.nodes (step + 1)) (drop (step + 1) (walk_of join.nodes))
    ≡ map (stage_for join) (stops_from join.nodes (step + 1) many)
    → stages_from join.classes (met_before join.nodes step) (drop step (walk_of join.nodes))
    ≡ map (stage_for join) (stops_from join.nodes step (suc many))
first_stage join step many l brought others =
    let node : Node = node_walked join.nodes step in
    let from : ℕ = met_before join.nodes step in
    let rest : List Node = drop (step + 1) (walk_of join.nodes) in
    let bringing = is_bringing node brought in
    ap (stages_from join.classes from) (walked join.nodes step l)
    ∙ ap (λ b. cond b
    (stage_of join.classes from node ∷ stages_from join.classes (from + length (new_classes node)) rest)
    (stages_from join.classes from rest)) bringing
    ∙ ap (λ n. stage_of join.classes from node ∷ stages_from join.classes n rest)
    (sym (met_more join.nodes step l))
    ∙ ap (λ ss. stage_of join.classes from node ∷ ss) others
    ∙ ap (map (stage_for join)) (sym (stop_next join.nodes step many bringing))

no_stage_first : (join : ReducedJoin) (step many : ℕ) → step < length join.nodes
    → length (node_walked join.nodes step).relation.classes ≤ (node_walked join.nodes step).width
    → stages_from join.classes (met_before join.nodes (step + 1)) (drop (step + 1) (walk_of join.nodes))
    ≡ map (stage_for join) (stops_from join.nodes (step + 1) many)
    → stages_from join.classes (met_before join.nodes step) (drop step (walk_of join.nodes))
    ≡ map (stage_for join) (stops_from join.nodes step (suc many))
no_stage_first join step many l wide others =
    let node : Node = node_walked join.nodes step in
    let from : ℕ = met_before join.nodes step in
    let rest : List Node = drop (step + 1) (walk_of join.nodes) in
    let none = not_bringing node wide in
    let more = met_more join.nodes step l in
    let same : from ≡ met_before join.nodes (step + 1) =
    omega (arith, more, length-drop node.width node.relation.classes) in
    ap (stages_from join.classes from) (walked join.nodes step l)
    ∙ ap (λ b. cond b
    (stage_of join.classes from node ∷ stages_from join.classes (from + length (new_classes node)) rest)
    (stages_from join.classes from rest)) none
    ∙ ap (λ n. stages_from join.classes n rest) same
    ∙ others
    ∙ ap (map (stage_for join)) (sym (stop_none join.nodes step many none))

-- the stages of what is left of the walk at a step are those at the stops from there on
stages_left : (join : ReducedJoin) (many step : ℕ) → step + many ≡ length join.nodes
    → stages_from join.classes (met_before join.nodes step) (drop step (walk_of join.nodes))
    ≡ map (stage_for join) (stops_from join.nodes step many)
stages_left join zero step e =
    ap (stages_from join.classes (met_before join.nodes step))
    (drop_all step (walk_of join.nodes) (omega (arith, length-walk_of join.nodes)))
stages_left join (suc many) step e =
    let others = stages_left join many (step + 1) (omega arith) in
    elim (cases_lt (node_walked join.nodes step).width
    (length (node_walked join.nodes step).relation.classes)) [
      | inl brought ↦ first_stage join step many (omega arith) brought others
      | inr wide ↦ no_stage_first join step many (omega arith) wide others
    ]

stages_at_stops : (join : ReducedJoin) → stages_of join ≡ map (stage_for join) (stops_of join.nodes)
unfolding stages_of
stages_at_stops join = stages_left join (length join.nodes) 0 (omega arith)
    ∙ ap (map (stage_for join)) (sym (all_stops join.nodes))

-- each stop adds a class to those that were met
few_stops : (nodes : List Node) (many step : ℕ) → step + many ≡ length nodes
    → length (stops_from nodes step many) + met_before nodes step ≤ length (classes_along (walk_of nodes))
few_stops nodes zero step e = let within = met_within nodes step in omega (arith, within)
few_stops nodes (suc many) step e =
    let others = few_stops nodes many (step + 1) (omega arith) in
    let more = met_more nodes step (omega arith) in
    let node : Node = node_walked nodes step in
    let long = length-drop node.width node.relation.classes in
    elim (cases_lt node.width (length node.relation.classes)) [
      | inl brought ↦ omega (
        arith,
        ap length (stop_next nodes step many (is_bringing node brought)),
        others,
        more,
        long,
      )
      | inr wide ↦ omega (
        arith,
        ap length (stop_none nodes step many (not_bringing node wide)),
        others,
        more,
        long,
      )
    ]

-- the number of the node that is walked at a step is that of a node
walked_within : (many step : ℕ) → step < many → number_walked many step < many
walked_within many zero l = l
walked_within many (suc step) l = omega arith

-- a stop is at a node, and has its width
abbrev IsAtNode : List Node → Stop → Type 0
IsAtNode nodes stop = (stop.node < length nodes) × (stop.width ≡ (node_at nodes stop.node).width)

stops_at_nodes : (nodes : List Node) (many step : ℕ) → step + many ≡ length nodes
    → All (IsAtNode nodes) (stops_from nodes step many)
stops_at_nodes nodes zero step e = All-nil (IsAtNode nodes)
stops_at_nodes nodes (suc many) step e =
    let others = stops_at_nodes nodes many (step + 1) (omega arith) in
    let node : Node = node_walked nodes step in
    elim (cases_lt node.width (length node.relation.classes)) [
      | inl brought ↦ subst (All (IsAtNode nodes))
          (sym (stop_next nodes step many (is_bringing node brought)))
          (All-cons (IsAtNode nodes) (stop_of nodes step) (stops_from nodes (step + 1) many)
          (walked_within (length nodes) step (omega arith), refl) others)
      | inr wide ↦ subst (All (IsAtNode nodes)) (sym (stop_none nodes step many (not_bringing node wide)))
          others
    ]

-- the stage at a place is that at the stop there
stop_is : (join : ReducedJoin) (stops : List Stop) (t : ℕ) → stops ≡ stops_of join.nodes → t < length stops
    → IsStop join (stage_at (stages_of join) t) (stop_at stops t)
stop_is join stops t e l =
    let all : stops ≡ stops_from join.nodes 0 (length join.nodes) = e ∙ all_stops join.nodes in
    let none : Stop = record { node = 0; width = 0; from = 0 } in
    let at = subst (All (IsAtNode join.nodes)) (sym all)
    (stops_at_nodes join.nodes (length join.nodes) 0 (omega arith)) t none l in
    record {
      node = at.0;
      width = at.1;
      is = ap (λ ss. stage_at ss t) (stages_at_stops join ∙ ap (map (stage_for join)) (sym e))
          ∙ get_or-map (stage_for join) stops t none (record { from = 0; keys = []; rows = [] }) l;
    }

-- what a reduced join says of its layout
pub layout_kept : (join : ReducedJoin) (view : LayoutView) (layout : Layout) → IsReduced join
    → IsLayoutOf join view → layout.stops.now ≡ view.stops → layout.places.now ≡ view.places
    → layout.width ≡ length view.classes → IsLayout join layout
layout_kept join view layout is laid stops places width =
    let all : layout.stops.now ≡ stops_of join.nodes = stops ∙ laid.stops in
    let wide : layout.width ≡ length join.classes = width ∙ ap length laid.classes in
    let few = few_stops join.nodes (length join.nodes) 0 (omega arith) in
    let narrow = narrow_join join is in
    record {
      reduced = is;
      count = ap length all ∙ sym (length-map (stops_of join.nodes) (stage_for join))
          ∙ sym (ap length (stages_at_stops join));
      few = omega (arith, few, wide, ap length is.order, ap length all, ap length (all_stops join.nodes));
      width = wide;
      narrow = omega (arith, narrow, wide);
      stops = λ t l. stop_is join layout.stops.now t all l;
      many = ap length places ∙ laid.places.many;
      places = λ c h. ap (λ ps. slice_index ps c) places ∙ laid.places.are c h;
    }
