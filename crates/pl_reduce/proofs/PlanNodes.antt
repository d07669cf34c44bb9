-- The nodes of a plan: where each edge leaves, which node is the parent's, and over which classes the nodes
-- are.
use Rattle.std.proofs.Common.{◌≡◌, ◌≢◌, ◌↔◌, ◌+◌, ◌-◌, ◌<◌, ◌≤◌, ◌^◌, ℕ, zero, suc, List, [], ◌∷◌, ◌++◌}
use Rattle.std.proofs.Common.{length, map, drop, get_or, slice_index, Contains, refl, sym, ap, ◌∙◌, subst}
use Rattle.std.proofs.Common.{inl, inr, arith}
use Rattle.std.specs.List.{AllPairs}
use Rattle.std.proofs.Math.Seq.{get_or-append_seam}
use Rattle.std.proofs.lemmas.List.Elements.{Contains-append_cases}
use Rattle.std.proofs.lemmas.List.{get_or_default, get_or-drop, get_or-map, get_or_append_left}
use Rattle.std.proofs.lemmas.List.{get_or-append-add, length-append, length-drop, length-map}
use Rattle.std.proofs.lemmas.Nat.Bits.{bit_at_above}
use Rattle.std.specs.Int.{bit_at}
use Rattle.std.specs.List.{flat_map}
use Rattle.std.proofs.lemmas.Bool.{cases_lt}
use Rattle.pl_join.specs.Relation.{ClassRows}
use Rattle.pl_join.proofs.Members.{Contains-flat_map, Contains-from_flat_map}
use Rattle.pl_hyper.specs.declared.ear.Ear.{Ear}
use Rattle.pl_hyper.specs.Edges.{Holds}
use Rattle.pl_hyper.specs.Ears.{Removal, IsWalkable, leaving_order, staying, ear_at}
use Rattle.pl_hyper.specs.ClassOrder.{IsHeldBy, classes_of}
use Rattle.pl_hyper.proofs.Orders.{first_contains, within_first, in_classes, classes_contain}
use Rattle.pl_reduce.specs.Plan.{relation_at, core_order, AreOverPlan}
use Rattle.pl_reduce.specs.PlanNodes.{IsNodeOf, AreParentNodes, AreOverNodes}
use Rattle.pl_reduce.specs.Passes.{Remains, AreParents}

-- ---- where an edge leaves

-- of members that differ, each stands at one place
one_place : (xs : List ℕ) (x j k : ℕ) → AllPairs (λ a b. a ≢ b) xs → j < length xs → k < length xs
    → get_or xs j x ≡ x → get_or xs k x ≡ x → j ≡ k
one_place xs x j k once l m a b = elim (cases_lt j k) [
  | inl low ↦ absurd (once j k x low m (a ∙ sym b))
  | inr high ↦ (elim (cases_lt k j) [
    | inl low ↦ absurd (once k j x low l (b ∙ sym a))
    | inr same ↦ omega arith
  ])
]

-- a member of what follows a place stands at it or behind it, and back
place_behind : (n : ℕ) (xs : List ℕ) (x : ℕ) → Contains (drop n xs) x → (k : ℕ) × (n ≤ k) × (k < length xs)
    × (get_or xs k x ≡ x)
place_behind n xs x (k, l, e) =
    (n + k, omega arith, omega (arith, length-drop n xs), sym (get_or-drop n xs k x) ∙ e)

behind_place : (n : ℕ) (xs : List ℕ) (x k : ℕ) → n ≤ k → k < length xs → get_or xs k x ≡ x
    → Contains (drop n xs) x
behind_place n xs x k low l e =
    let there : n + (k - n) ≡ k = omega arith in
    (k - n, omega (arith, length-drop n xs), get_or-drop n xs (k - n) x ∙ ap (λ i. get_or xs i x) there ∙ e)

abbrev any_ear : Ear
any_ear = record { edge = 0; parent = 0 }

order_length : (plan : Removal) → length (leaving_order plan) ≡ length plan.removed + length plan.core
order_length plan = length-append (map (λ ear. ear.edge) plan.removed) plan.core
    ∙ ap (λ n. n + length plan.core) (length-map plan.removed (λ ear. ear.edge))

-- an ear's edge leaves at the ear's place
ear_leaves : (plan : Removal) (k e : ℕ) → k < length plan.removed → (ear_at plan k any_ear).edge ≡ e
    → get_or (leaving_order plan) k e ≡ e
ear_leaves plan k e l is =
    let long : length (map (λ ear. ear.edge) plan.removed) ≡ length plan.removed =
    length-map plan.removed (λ ear. ear.edge) in
    get_or_append_left (map (λ ear. ear.edge) plan.removed) plan.core e k (omega arith)
    ∙ get_or-map (λ ear. ear.edge) plan.removed k any_ear e l ∙ is

ear_stays : (plan : Removal) (i k : ℕ) → i < k → k < length plan.removed
    → Contains (staying plan i) (ear_at plan k any_ear).edge
ear_stays plan i k low l =
    behind_place (suc i) (leaving_order plan) (ear_at plan k any_ear).edge k (omega arith)
    (omega (arith, order_length plan))
    (ear_leaves plan k (ear_at plan k any_ear).edge l refl)

core_stays : (plan : Removal) (i e : ℕ) → i < length plan.removed → Contains plan.core e
    → Contains (staying plan i) e
core_stays plan i e l (k, m, is) =
    let long : length (map (λ ear. ear.edge) plan.removed) ≡ length plan.removed =
    length-map plan.removed (λ ear. ear.edge) in
    let place : ℕ = length (map (λ ear. ear.edge) plan.removed) + k in
    behind_place (suc i) (leaving_order plan) e place (omega arith) (omega (arith, order_length plan))
    (get_or-append-add (map (λ ear. ear.edge) plan.removed) plan.core k e ∙ is)

-- an ear that is still there when another one is removed is removed after it
stays_later : (plan : Removal) (i k e : ℕ) → IsWalkable plan → k < length plan.removed
    → (ear_at plan k any_ear).edge ≡ e → Contains (staying plan i) e → i < k
stays_later plan i k e walk l is h =
    let (j, low, m, at) = place_behind (suc i) (leaving_order plan) e h in
    let same : j ≡ k = one_place (leaving_order plan) e j k walk.leave_once m
    (omega (arith, order_length plan)) at (ear_leaves plan k e l is) in
    omega arith

-- ---- the parents of the nodes

parent_within : (plan : Removal) (nodes : List ClassRows) (e p : ℕ) → AreOverNodes plan nodes
    → IsNodeOf plan e p → p < length nodes
parent_within plan nodes e zero over is = let many = over.many in omega arith
parent_within plan nodes e (suc k) over is = let many = over.many in let l = is.0 in omega arith

parent_remains : (plan : Removal) (i e p : ℕ) → IsWalkable plan → Contains (staying plan i) e
    → IsNodeOf plan e p → Remains (suc i) p
parent_remains plan i e zero walk h is = inl refl
parent_remains plan i e (suc k) walk h is =
    inr (let low = stays_later plan i k e walk is.0 (is.1 any_ear) h in omega arith)

-- a class of a node that remains is held by an edge that stays
other_holds : (plan : Removal) (nodes : List ClassRows) (i k c : ℕ) → AreOverNodes plan nodes
    → i < length plan.removed → k < length nodes → Remains (suc i) k
    → Contains (relation_at nodes k).classes c → (e : ℕ) × Contains (staying plan i) e × Holds plan.edges e c
other_holds plan nodes i zero c over l m r h = let (e, there, holds) = (over.root c).0 h in
    (e, core_stays plan i e l there, holds)
other_holds plan nodes i (suc k) c over l m (inl r) h = absurd (omega arith)
other_holds plan nodes i (suc k) c over l m (inr r) h =
    let many = over.many in
    let low : k < length plan.removed = omega arith in
    ((ear_at plan k any_ear).edge, ear_stays plan i k (omega arith) low, (over.ears k c any_ear low).0 h)

parent_has : (plan : Removal) (nodes : List ClassRows) (e p c : ℕ) → AreOverNodes plan nodes
    → IsNodeOf plan e p → Holds plan.edges e c → Contains (relation_at nodes p).classes c
parent_has plan nodes e zero c over is h = (over.root c).1 (e, is, h)
parent_has plan nodes e (suc k) c over is h = (over.ears k c any_ear is.0).1
    (subst (λ x. Holds plan.edges x c) (sym (is.1 any_ear)) h)

shares : (plan : Removal) (nodes : List ClassRows) (i k p c : ℕ) → IsWalkable plan → AreOverNodes plan nodes
    → IsNodeOf plan (ear_at plan i any_ear).parent p → i < length plan.removed → k < length nodes
    → Remains (suc i) k → Contains (relation_at nodes (suc i)).classes c
    → Contains (relation_at nodes k).classes c → Contains (relation_at nodes p).classes c
shares plan nodes i k p c walk over is l m r h there =
    let (e, stays, holds) = other_holds plan nodes i k c over l m r there in
    parent_has plan nodes (ear_at plan i any_ear).parent p c over is
    (walk.parent_holds i any_ear c e l stays ((over.ears i c any_ear l).0 h) holds)

-- the nodes of the ears' parents are parents
pub are_parents : (plan : Removal) (nodes : List ClassRows) (parents : List ℕ) → IsWalkable plan
    → AreOverNodes plan nodes → AreParentNodes plan parents → AreParents parents nodes
are_parents plan nodes parents walk over are = record {
  many = are.many ∙ sym over.many;
  within = within;
  remain = remain;
  share = share;
}
  where
    within : (i : ℕ) → 0 < i → i < length nodes → slice_index parents i < length nodes
    within zero some l = absurd (omega arith)
    within (suc i) some l = parent_within plan nodes (ear_at plan i any_ear).parent
        (slice_index parents (suc i)) over (are.are i any_ear (let many = over.many in omega arith))

    remain : (i : ℕ) → 0 < i → i < length nodes → Remains i (slice_index parents i)
    remain zero some l = absurd (omega arith)
    remain (suc i) some l =
        let many = over.many in
        let low : i < length plan.removed = omega arith in
        parent_remains plan i (ear_at plan i any_ear).parent (slice_index parents (suc i)) walk
        (walk.parent_stays i any_ear low) (are.are i any_ear low)

    share : (i k c : ℕ) → 0 < i → i < length nodes → k < length nodes → Remains i k
        → Contains (relation_at nodes i).classes c → Contains (relation_at nodes k).classes c
        → Contains (relation_at nodes (slice_index parents i)).classes c
    share zero k c some l m r h there = absurd (omega arith)
    share (suc i) k c some l m r h there =
        let many = over.many in
        let low : i < length plan.removed = omega arith in
        shares plan nodes i k (slice_index parents (suc i)) c walk over
        (are.are i any_ear low) low m r h there

-- ---- the classes of the nodes

below_64 : (edge class : ℕ) → edge < 2 ^ 64 → bit_at edge class ≡ 1 → class < 64
below_64 edge class small h = elim (cases_lt class 64) [
  | inl low ↦ low
  | inr high ↦ (let none = bit_at_above edge 64 class small high in absurd (omega (arith, sym none ∙ h)))
]

-- the classes that stand in the core's order are those that an edge of the core holds
core_held : (plan : Removal) (c : ℕ) → Contains (core_order plan) c → IsHeldBy plan.edges plan.core c
core_held plan c h =
    let met = within_first (flat_map (λ e. classes_of (slice_index plan.edges e)) plan.core) c h in
    let (e, there, holds) = Contains-from_flat_map (λ (e : ℕ). classes_of (slice_index plan.edges e))
    plan.core c met in
    (e, there, (in_classes (slice_index plan.edges e) c holds).1)

held_in_core : (plan : Removal) (c : ℕ) → ((e : ℕ) → slice_index plan.edges e < 2 ^ 64)
    → IsHeldBy plan.edges plan.core c → Contains (core_order plan) c
held_in_core plan c small (e, there, holds) =
    first_contains (flat_map (λ e. classes_of (slice_index plan.edges e)) plan.core) c
    (Contains-flat_map (λ (e : ℕ). classes_of (slice_index plan.edges e)) plan.core e c there
    (classes_contain (slice_index plan.edges e) c (below_64 (slice_index plan.edges e) c (small e) holds)
    holds))

-- nodes over the classes of the root and of the rest are over those of the core and of the ears; an edge has
-- its classes below 64
pub over_nodes : (plan : Removal) (root : ClassRows) (rest nodes : List ClassRows)
    → ((e : ℕ) → slice_index plan.edges e < 2 ^ 64) → AreOverPlan plan root rest
    → length nodes ≡ suc (length rest) → (relation_at nodes 0).classes ≡ root.classes
    → ((i c : ℕ) → i < length rest → Contains (relation_at nodes (suc i)).classes c
    ↔ Contains (relation_at rest i).classes c) → AreOverNodes plan nodes
over_nodes plan root rest nodes small over many first others = record {
  many = many ∙ ap suc over.many;
  root = λ c. (
    λ h. core_held plan c (subst (λ xs. Contains xs c) order h),
    λ h. subst (λ xs. Contains xs c) (sym order) (held_in_core plan c small h),
  );
  ears = ears;
}
  where
    order : (relation_at nodes 0).classes ≡ core_order plan
    order = first ∙ over.root_order

    ears : (i c : ℕ) (d : Ear) → i < length plan.removed → Contains (relation_at nodes (suc i)).classes c
        ↔ Holds plan.edges (ear_at plan i d).edge c
    ears i c d l =
        let many = over.many in
        let low : i < length rest = omega arith in (
          λ h. (over.ears i c d low).0 ((others i c low).0 h),
          λ h. (others i c low).1 ((over.ears i c d low).1 h),
        )

-- ---- the table of the edges' nodes

-- the node of an edge where the ears before a place have theirs, and 0 where no ear before it is the edge
abbrev pub IsNodeUpTo : Removal → ℕ → ℕ → ℕ → Type 0
IsNodeUpTo plan count edge zero = (k : ℕ) (d : Ear) → k < count → (ear_at plan k d).edge ≢ edge
IsNodeUpTo plan count edge (suc k) = (k < count) × ((d : Ear) → (ear_at plan k d).edge ≡ edge)

pub record AreNodesUpTo (plan : Removal) (nodes : List ℕ) (count : ℕ) : Type 0 where
  pub many : length nodes ≡ length plan.edges
  pub are : (edge : ℕ) → edge < length plan.edges → IsNodeUpTo plan count edge (slice_index nodes edge)

in_map : (ears : List Ear) (edge k : ℕ) → k < length ears → get_or (map (λ ear. ear.edge) ears) k edge ≡ edge
    → (get_or ears k any_ear).edge ≡ edge
in_map ears edge k l e = sym (get_or-map (λ ear. ear.edge) ears k any_ear edge l) ∙ e

-- an edge that is no ear's stayed
stayed : (plan : Removal) (edge : ℕ) → IsWalkable plan → edge < length plan.edges
    → ((k : ℕ) (d : Ear) → k < length plan.removed → (ear_at plan k d).edge ≢ edge) → Contains plan.core edge
stayed plan edge walk l none =
    elim (Contains-append_cases (map (λ ear. ear.edge) plan.removed) plan.core edge (walk.all_leave edge l)) [
      | inl h ↦ (let (k, m, e) = h in
          let low : k < length plan.removed =
          omega (arith, length-map plan.removed (λ (ear : Ear). ear.edge)) in
          absurd (none k any_ear low (in_map plan.removed edge k low e)))
      | inr h ↦ h
    ]

pub nodes_all : (plan : Removal) (nodes : List ℕ) (count edge : ℕ) → IsWalkable plan
    → count ≡ length plan.removed → AreNodesUpTo plan nodes count → edge < length plan.edges
    → IsNodeOf plan edge (slice_index nodes edge)
nodes_all plan nodes count edge walk whole up l = node (slice_index nodes edge) (up.are edge l)
  where
    node : (p : ℕ) → IsNodeUpTo plan count edge p → IsNodeOf plan edge p
    node zero is = stayed plan edge walk l (λ k d m. is k d (omega arith))
    node (suc k) is = (let m = is.0 in omega arith, is.1)

-- the parents of the ears before a place have their nodes
pub record AreParentsUpTo (plan : Removal) (parents : List ℕ) (count : ℕ) : Type 0 where
  pub many : length parents ≡ suc count
  pub root : slice_index parents 0 ≡ 0
  pub are : (i : ℕ) (d : Ear) → i < count → IsNodeOf plan (ear_at plan i d).parent
      (slice_index parents (suc i))

-- what the table has at an ear's parent
pub parent_node : (plan : Removal) (ears : List Ear) (nodes : List ℕ) (i p : ℕ) → IsWalkable plan
    → ears ≡ plan.removed → i < length ears → length nodes ≡ length plan.edges
    → ((edge : ℕ) → edge < length plan.edges → IsNodeOf plan edge (slice_index nodes edge))
    → p ≡ get_or nodes (get_or ears i any_ear).parent p → (d : Ear) → IsNodeOf plan (ear_at plan i d).parent p
parent_node plan ears nodes i p walk e l many are read d =
    let low : i < length plan.removed = omega (arith, ap length e) in
    let here : (get_or ears i any_ear).parent ≡ (ear_at plan i d).parent =
    ap (λ (x : Ear). x.parent) (ap (λ xs. get_or xs i any_ear) e
    ∙ get_or_default plan.removed i any_ear d low) in
    let edge : (ear_at plan i d).parent < length plan.edges = walk.parents_are_edges i d low in
    let same : p ≡ slice_index nodes (ear_at plan i d).parent = read ∙ ap (λ j. get_or nodes j p) here
    ∙ get_or_default nodes (ear_at plan i d).parent p 0 (omega arith) in
    subst (IsNodeOf plan (ear_at plan i d).parent) (sym same) (are (ear_at plan i d).parent edge)

pub parents_more : (plan : Removal) (parents after : List ℕ) (i p : ℕ)
    → ((d : Ear) → IsNodeOf plan (ear_at plan i d).parent p) → after ≡ parents ++ p ∷ []
    → AreParentsUpTo plan parents i → AreParentsUpTo plan after (i + 1)
parents_more plan parents after i p node grown up = record {
  many = ap length grown ∙ length-append parents (p ∷ []) ∙ (let many = up.many in omega arith);
  root = ap (λ xs. get_or xs 0 0) grown ∙ get_or_append_left parents (p ∷ []) 0 0
      (let many = up.many in omega arith) ∙ up.root;
  are = are;
}
  where
    early : (k : ℕ) → k < i → get_or after (suc k) 0 ≡ get_or parents (suc k) 0
    early k l = ap (λ xs. get_or xs (suc k) 0) grown
        ∙ get_or_append_left parents (p ∷ []) 0 (suc k) (let many = up.many in omega arith)

    last : get_or after (suc i) 0 ≡ p
    last = ap (λ xs. get_or xs (suc i) 0) grown ∙ ap (λ n. get_or (parents ++ p ∷ []) n 0)
        (let many = up.many in omega arith) ∙ get_or-append_seam parents p [] 0

    are : (k : ℕ) (d : Ear) → k < i + 1 → IsNodeOf plan (ear_at plan k d).parent (slice_index after (suc k))
    are k d l = elim (cases_lt k i) [
      | inl low ↦ subst (IsNodeOf plan (ear_at plan k d).parent) (sym (early k low)) (up.are k d low)
      | inr high ↦ (let same : i ≡ k = omega arith in
          subst (λ n. IsNodeOf plan (ear_at plan n d).parent (slice_index after (suc n))) same
          (subst (IsNodeOf plan (ear_at plan i d).parent) (sym last) (node d)))
    ]

pub parents_all : (plan : Removal) (parents : List ℕ) (count : ℕ) → count ≡ length plan.removed
    → AreParentsUpTo plan parents count → AreParentNodes plan parents
parents_all plan parents count whole up = record {
  many = up.many ∙ ap suc whole;
  root = up.root;
  are = λ i d l. up.are i d (omega arith);
}

-- the parents of the nodes are nodes, and are still there
pub nodes_within : (plan : Removal) (parents : List ℕ) → AreParentNodes plan parents → (i : ℕ) → 0 < i
    → i < suc (length plan.removed) → slice_index parents i < suc (length plan.removed)
nodes_within plan parents are zero some l = absurd (omega arith)
nodes_within plan parents are (suc i) some l = within (ear_at plan i any_ear).parent
    (slice_index parents (suc i)) (are.are i any_ear (omega arith))
  where
    within : (e p : ℕ) → IsNodeOf plan e p → p < suc (length plan.removed)
    within e zero is = omega arith
    within e (suc k) is = let l = is.0 in omega arith

pub nodes_remain : (plan : Removal) (parents : List ℕ) → IsWalkable plan → AreParentNodes plan parents
    → (i : ℕ) → 0 < i → i < suc (length plan.removed) → Remains i (slice_index parents i)
nodes_remain plan parents walk are zero some l = absurd (omega arith)
nodes_remain plan parents walk are (suc i) some l =
    let low : i < length plan.removed = omega arith in
    parent_remains plan i (ear_at plan i any_ear).parent (slice_index parents (suc i)) walk
    (walk.parent_stays i any_ear low) (are.are i any_ear low)
