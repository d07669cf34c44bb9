-- The nodes at the steps of a walk, the classes that it met before them, and its stops.
use Rattle.std.proofs.Common.{◌≡◌, ◌+◌, ◌-◌, ◌<◌, ◌≤◌, ℕ, zero, suc, true, false, cond, List, [], ◌∷◌, ◌++◌}
use Rattle.std.proofs.Common.{length, map, take, drop, filter, get_or, reverse, refl, sym, ap, ◌∙◌, arith}
use Rattle.std.specs.List.{range_with_len}
use Rattle.std.proofs.lemmas.Bool.Decides.{nat_tests}
use Rattle.std.proofs.lemmas.List.{take_more, drop_more, length-append, length-reverse}
use Rattle.std.proofs.lemmas.List.{append-nil, get_or-reverse, take-append-drop}
use Rattle.std.proofs.lemmas.List.Concat.{flat_map-append}
use Rattle.pl_reduce.specs.Nodes.{Node, node_at, new_classes}
use Rattle.pl_reduce.specs.Walk.{walk_of, classes_along}
use Rattle.pl_reduce.specs.Layout.{brings, node_walked, met_before, stop_of, stops_from, stops_of}

pub length-walk_of : (nodes : List Node) → length (walk_of nodes) ≡ length nodes
length-walk_of [] = refl
length-walk_of (root ∷ others) = omega (arith, length-reverse others)

-- what is left of the walk at a step begins with the node that is walked there
pub walked : (nodes : List Node) (step : ℕ) → step < length nodes
    → drop step (walk_of nodes) ≡ node_walked nodes step ∷ drop (step + 1) (walk_of nodes)
walked [] step m = absurd (omega arith)
walked (root ∷ others) zero m = refl
walked (root ∷ others) (suc k) m =
    let none : Node = record { relation = record { classes = []; rows = [] }; width = 0 } in
    let within : k < length (reverse others) = omega (arith, length-reverse others) in
    let there : get_or (reverse others) k none ≡ get_or others (length others - 1 - k) none =
    get_or-reverse others k none (omega arith) in
    let number : suc (length others) - suc k ≡ suc (length others - 1 - k) = omega arith in
    let here : get_or (root ∷ others) (suc (length others) - suc k) none ≡ get_or others
    (length others - 1 - k) none = ap (λ n. get_or (root ∷ others) n none) number in
    let count : suc k + 1 ≡ suc (k + 1) = omega arith in
    drop_more (reverse others) k none within
    ∙ (λ i. (there ∙ sym here) i ∷ drop (k + 1) (reverse others))
    ∙ ap (λ n. node_at (root ∷ others) (suc (length others) - suc k) ∷ drop n (root ∷ reverse others))
    (sym count)

-- the walk up to a step, and one node further
taken_more : (nodes : List Node) (step : ℕ) → step < length nodes
    → take (step + 1) (walk_of nodes) ≡ take step (walk_of nodes) ++ node_walked nodes step ∷ []
taken_more nodes step l =
    let none : Node = record { relation = record { classes = []; rows = [] }; width = 0 } in
    let within : step < length (walk_of nodes) = omega (arith, length-walk_of nodes) in
    let same : get_or (walk_of nodes) step none ∷ drop (step + 1) (walk_of nodes) ≡ node_walked nodes step
    ∷ drop (step + 1) (walk_of nodes) = sym (drop_more (walk_of nodes) step none within)
    ∙ walked nodes step l in
    let here : get_or (walk_of nodes) step none ≡ node_walked nodes step = cc in
    take_more (walk_of nodes) step none within ∙ ap (λ n. take step (walk_of nodes) ++ n ∷ []) here

-- a node adds its new classes to those that were met
pub met_more : (nodes : List Node) (step : ℕ) → step < length nodes
    → met_before nodes (step + 1) ≡ met_before nodes step + length (new_classes (node_walked nodes step))
met_more nodes step l =
    let node : Node = node_walked nodes step in
    let front : List Node = take step (walk_of nodes) in
    ap (λ ns. length (classes_along ns)) (taken_more nodes step l)
    ∙ ap length (flat_map-append new_classes front (node ∷ []))
    ∙ length-append (classes_along front) (new_classes node ++ [])
    ∙ ap (λ cs. length (classes_along front) + length cs) (append-nil (new_classes node))

-- no step of the walk has met more classes than the whole walk
pub met_within : (nodes : List Node) (step : ℕ) → met_before nodes step ≤ length
    (classes_along (walk_of nodes))
met_within nodes step =
    let parts : classes_along (walk_of nodes) ≡ classes_along (take step (walk_of nodes)) ++ classes_along
    (drop step (walk_of nodes)) =
    ap classes_along (sym (take-append-drop step (walk_of nodes)))
    ∙ flat_map-append new_classes (take step (walk_of nodes)) (drop step (walk_of nodes)) in
    omega (
      arith,
      ap length parts,
      length-append (classes_along (take step (walk_of nodes))) (classes_along (drop step (walk_of nodes))),
    )

pub is_bringing : (node : Node) → node.width < length node.relation.classes → brings node ≡ true
is_bringing node l = grind (arith, nat_tests)

pub not_bringing : (node : Node) → length node.relation.classes ≤ node.width → brings node ≡ false
not_bringing node l = grind (arith, nat_tests)

-- a node that brings classes is the next stop, and one that brings none is no stop
pub stop_next : (nodes : List Node) (step many : ℕ) → brings (node_walked nodes step) ≡ true
    → stops_from nodes step (suc many) ≡ stop_of nodes step ∷ stops_from nodes (step + 1) many
stop_next nodes step many brought =
    let rest : List ℕ = filter (λ s. brings (node_walked nodes s)) (range_with_len (step + 1) many) in
    ap (λ b. map (stop_of nodes) (cond b (step ∷ rest) rest)) brought

pub stop_none : (nodes : List Node) (step many : ℕ) → brings (node_walked nodes step) ≡ false
    → stops_from nodes step (suc many) ≡ stops_from nodes (step + 1) many
stop_none nodes step many none =
    let rest : List ℕ = filter (λ s. brings (node_walked nodes s)) (range_with_len (step + 1) many) in
    ap (λ b. map (stop_of nodes) (cond b (step ∷ rest) rest)) none

-- the stops from the first step on
pub all_stops : (nodes : List Node) → stops_of nodes ≡ stops_from nodes 0 (length nodes)
unfolding stops_of
all_stops nodes = refl
