-- The columns of a reduced join: how the nodes' classes stand in class order, and that the walk over the
-- nodes meets them so.
use Rattle.std.proofs.Common.{◌≡◌, ◌↔◌, ◌<◌, ◌≤◌, ℕ, Bool, true, false, not, suc, List, [], ◌∷◌, ◌++◌, length}
use Rattle.std.proofs.Common.{map, take, drop, filter, reverse, get_or, Contains, All, refl, sym, ap, ◌∙◌}
use Rattle.std.proofs.Common.{subst, inl, inr, arith}
use Rattle.std.specs.Prelude.{slice_index}
use Rattle.std.proofs.lemmas.Bool.{cases_Bool, false≢true, false_from_ne_true}
use Rattle.std.proofs.lemmas.Bool.Decides.{Decides-eqb}
use Rattle.std.proofs.lemmas.List.{append_assoc, append-nil, take_at, drop_at, length-append, reverse-append}
use Rattle.std.proofs.lemmas.List.{reverse-reverse}
use Rattle.std.proofs.lemmas.List.Concat.{flat_map-append}
use Rattle.std.proofs.lemmas.List.Elements.{All-cons, All-nil, Contains-append_left, Contains-append_right}
use Rattle.std.proofs.lemmas.List.Elements.{Contains-append_cases, filter-append}
use Rattle.pl_rows.proofs.Canonical.{Contains-nil, Contains-cons_first, Contains-cons_rest}
use Rattle.pl_join.specs.Relation.{has_class}
use Rattle.pl_join.proofs.Members.{Contains-filter, Contains-from_filter, has_class-Contains}
use Rattle.pl_join.proofs.Members.{Contains-flat_map, Contains-from_flat_map}
use Rattle.pl_hyper.specs.declared.ear.Ear.{Ear}
use Rattle.pl_hyper.specs.Edges.{Holds}
use Rattle.pl_hyper.specs.Ears.{Removal, IsRemoval, IsWalkable}
use Rattle.pl_hyper.specs.ClassOrder.{classes_of, class_order, first_appearances, IsHeldBy}
use Rattle.pl_hyper.proofs.Orders.{met_by, member, contains_member, in_classes, classes_contain}
use Rattle.pl_hyper.proofs.Orders.{first_appearances-append, within_first}
use Rattle.pl_reduce.specs.Nodes.{Node, node_at, key_classes, new_classes}
use Rattle.pl_reduce.specs.Plan.{core_order, edge_holds, edge_order, AreColumns}
use Rattle.pl_reduce.specs.Walk.{walk_of, classes_along}
use Rattle.pl_reduce.proofs.Lists.{all_members, Contains-reverse}
use Rattle.pl_reduce.proofs.Filters.{filter_none, filter_whole}

-- what `IsReduced` says of the nodes' columns, at the class order of a plan
pub record AreLaid (plan : Removal) (nodes : List Node) : Type 0 where
  pub in_order : All (λ node. node.relation.classes ≡ filter (has_class node.relation.classes)
      (class_order plan)) nodes
  pub widths : All (λ node. node.width ≤ length node.relation.classes) nodes
  pub order : class_order plan ≡ classes_along (walk_of nodes)
  pub keys : (before after : List Node) (node : Node) → walk_of nodes ≡ before ++ node ∷ after
      → All (Contains (classes_along before)) (key_classes node)

-- ---- filters of lists of classes

-- two filters that each member passes alike
filter_same : (p q : ℕ → Bool) (xs : List ℕ) → ((c : ℕ) → Contains xs c → p c ≡ q c)
    → filter p xs ≡ filter q xs
filter_same p q [] same = refl
filter_same p q (x ∷ xs) same =
    rw (same x (Contains-cons_first x xs), filter_same p q xs (λ c h. same c (Contains-cons_rest x xs c h)))
    refl

-- what a filter keeps are the members that stand in what it keeps
own_members : (p : ℕ → Bool) (xs : List ℕ) → filter p xs ≡ filter (has_class (filter p xs)) xs
own_members p xs = filter_same p (has_class (filter p xs)) xs (λ c h. elim (cases_Bool (p c)) [
  | inl y ↦ y ∙ sym ((has_class-Contains (filter p xs) c).1 (Contains-filter p xs c h y))
  | inr n ↦ n ∙ sym (false_from_ne_true (has_class (filter p xs) c) (λ t.
      let kept = Contains-from_filter p xs c ((has_class-Contains (filter p xs) c).0 t) in
      false≢true (sym n ∙ kept.1)))
])

-- a front whose members do not stand behind it is what a filter by them keeps
front_members : (front rest : List ℕ) → ((c : ℕ) → Contains rest c → Contains front c → ⊥)
    → front ≡ filter (has_class front) (front ++ rest)
front_members front rest apart =
    let every : filter (has_class front) front ≡ front = filter_whole (has_class front) front
    (λ c h. (has_class-Contains front c).1 h) in
    let none : filter (has_class front) rest ≡ [] = filter_none (has_class front) rest
    (λ c h. false_from_ne_true (has_class front c) (λ t. apart c h ((has_class-Contains front c).0 t))) in
    sym (filter-append (has_class front) front rest ∙ ap (λ zs. filter (has_class front) front ++ zs) none
    ∙ append-nil (filter (has_class front) front) ∙ every)

-- a filter that keeps the whole middle and nothing behind it
kept_parts : (p : ℕ → Bool) (front middle back : List ℕ) → ((c : ℕ) → Contains middle c → p c ≡ true)
    → ((c : ℕ) → Contains back c → p c ≡ false) → filter p (front ++ (middle ++ back)) ≡ filter p front
    ++ middle
kept_parts p front middle back every none =
    filter-append p front (middle ++ back)
    ∙ ap (λ zs. filter p front ++ zs)
    (filter-append p middle back
    ∙ ap (λ zs. filter p middle ++ zs) (filter_none p back none)
    ∙ append-nil (filter p middle)
    ∙ filter_whole p middle every)

-- a filter of a filtered front and a middle that keeps the front alone
shared_part : (p q : ℕ → Bool) (front middle : List ℕ)
    → ((c : ℕ) → Contains front c → p c ≡ true → q c ≡ true) → ((c : ℕ) → Contains middle c → q c ≡ false)
    → filter q (filter p front ++ middle) ≡ filter p front
shared_part p q front middle every none =
    filter-append q (filter p front) middle
    ∙ ap (λ zs. filter q (filter p front) ++ zs) (filter_none q middle none)
    ∙ append-nil (filter q (filter p front))
    ∙ filter_whole q (filter p front)
    (λ c h. let kept = Contains-from_filter p front c h in every c kept.0 kept.1)

-- ---- the tests for the classes of an edge

shown : (plan : Removal) (edge c : ℕ) → Holds plan.edges edge c → edge_holds plan edge c ≡ true
shown plan edge c h = (Decides-eqb _ 1).1 h

held : (plan : Removal) (edge c : ℕ) → edge_holds plan edge c ≡ true → Holds plan.edges edge c
held plan edge c h = (Decides-eqb _ 1).0 h

-- ---- the classes of the class order

-- the classes of an edge, rising
abbrev of_edge : Removal → ℕ → List ℕ
of_edge plan edge = classes_of (slice_index plan.edges edge)

-- the classes that a walk meets are below 64
met_below : (plan : Removal) (walked : List ℕ) (c : ℕ) → Contains (met_by plan.edges walked) c → c < 64
met_below plan walked c h =
    let (edge, among, there) = Contains-from_flat_map (of_edge plan) walked c h in
    (in_classes (slice_index plan.edges edge) c there).0

-- ---- a front of the class order, which a front of the walk has met

-- the edges that are walked before an ear: the core, and the ears removed later, the last first
abbrev walked_of : Removal → List Ear → List ℕ
walked_of plan ears = plan.core ++ reverse (map (λ ear. ear.edge) ears)

-- the classes of these edges, one edge after another
abbrev met_of : Removal → List Ear → List ℕ
met_of plan ears = met_by plan.edges (walked_of plan ears)

-- the classes of an edge that no walked edge has
abbrev fresh_of : Removal → List ℕ → ℕ → List ℕ
fresh_of plan met edge = filter (λ c. not (member met c)) (first_appearances (of_edge plan edge))

met_of-cons : (plan : Removal) (ear : Ear) (ears : List Ear) → met_of plan (ear ∷ ears) ≡ met_of plan ears
    ++ of_edge plan ear.edge
met_of-cons plan ear ears =
    let turned : reverse (map (λ (x : Ear). x.edge) (ear ∷ ears)) ≡ reverse (map (λ (x : Ear). x.edge) ears)
    ++ ear.edge ∷ [] = reverse-append (ear.edge ∷ []) (map (λ (x : Ear). x.edge) ears) in
    ap (λ es. met_by plan.edges (plan.core ++ es)) turned
    ∙ ap (met_by plan.edges)
    (sym (append_assoc plan.core (reverse (map (λ (x : Ear). x.edge) ears)) (ear.edge ∷ [])))
    ∙ flat_map-append (of_edge plan) (walked_of plan ears) (ear.edge ∷ [])
    ∙ ap (λ cs. met_of plan ears ++ cs) (append-nil (of_edge plan ear.edge))

-- the class order begins with these classes, and the rest holds none of them
record IsFront (plan : Removal) (met rest : List ℕ) : Type 0 where
  parts : class_order plan ≡ first_appearances met ++ rest
  apart : (c : ℕ) → Contains rest c → Contains met c → ⊥

-- the whole walk meets the whole class order
front_all : (plan : Removal) → IsFront plan (met_of plan plan.removed) []
front_all plan = record { parts = sym (append-nil (class_order plan)); apart = λ c h m. Contains-nil c h }

not_member : (met : List ℕ) (c : ℕ) → not (member met c) ≡ true → Contains met c → ⊥
not_member met c n h = let t : member met c ≡ true = contains_member met c h in false≢true (rw t at n)

-- a class of the fresh ones is one of the edge's, and none that was met
fresh_held : (plan : Removal) (met : List ℕ) (edge c : ℕ) → Contains (fresh_of plan met edge) c
    → Holds plan.edges edge c
fresh_held plan met edge c h =
    let kept = Contains-from_filter (λ k. not (member met k)) (first_appearances (of_edge plan edge)) c h in
    (in_classes (slice_index plan.edges edge) c (within_first (of_edge plan edge) c kept.0)).1

fresh_below : (plan : Removal) (met : List ℕ) (edge c : ℕ) → Contains (fresh_of plan met edge) c → c < 64
fresh_below plan met edge c h =
    let kept = Contains-from_filter (λ k. not (member met k)) (first_appearances (of_edge plan edge)) c h in
    (in_classes (slice_index plan.edges edge) c (within_first (of_edge plan edge) c kept.0)).0

fresh_apart : (plan : Removal) (met : List ℕ) (edge c : ℕ) → Contains (fresh_of plan met edge) c
    → Contains met c → ⊥
fresh_apart plan met edge c h =
    not_member met c
    (Contains-from_filter (λ k. not (member met k)) (first_appearances (of_edge plan edge)) c h).1

-- a front is that of a walk that is one edge shorter, with the fresh classes behind it
front_shorter : (plan : Removal) (ear : Ear) (ears : List Ear) (rest : List ℕ)
    → IsFront plan (met_of plan (ear ∷ ears)) rest → IsFront plan (met_of plan ears)
    (fresh_of plan (met_of plan ears) ear.edge ++ rest)
front_shorter plan ear ears rest front = record {
  parts =
      let met = met_of plan ears in
      front.parts
      ∙ ap (λ cs. first_appearances cs ++ rest) (met_of-cons plan ear ears)
      ∙ ap (λ cs. cs ++ rest) (first_appearances-append met (of_edge plan ear.edge))
      ∙ append_assoc (first_appearances met) (fresh_of plan met ear.edge) rest;
  apart = λ c h m. elim (Contains-append_cases (fresh_of plan (met_of plan ears) ear.edge) rest c h) [
    | inl fresh ↦ fresh_apart plan (met_of plan ears) ear.edge c fresh m
    | inr later ↦ front.apart c later
        (subst (λ cs. Contains cs c) (sym (met_of-cons plan ear ears))
        (Contains-append_left (met_of plan ears) (of_edge plan ear.edge) c m))
  ];
}

-- a class behind a front is below 64, since the class order has no others
behind_below : (plan : Removal) (met rest : List ℕ) (c : ℕ) → IsFront plan met rest → Contains rest c → c < 64
behind_below plan met rest c front h =
    let among : Contains (class_order plan) c = subst (λ cs. Contains cs c) (sym front.parts)
    (Contains-append_right (first_appearances met) rest c h) in
    met_below plan (walked_of plan plan.removed) c (within_first (met_of plan plan.removed) c among)

-- the edge has no class behind the front that ends with it
behind_lacks : (plan : Removal) (ear : Ear) (ears : List Ear) (rest : List ℕ) (c : ℕ)
    → IsFront plan (met_of plan (ear ∷ ears)) rest → Contains rest c → edge_holds plan ear.edge c ≡ false
behind_lacks plan ear ears rest c front h = false_from_ne_true (edge_holds plan ear.edge c) (λ t.
    let there : Contains (of_edge plan ear.edge) c = classes_contain (slice_index plan.edges ear.edge) c
    (behind_below plan (met_of plan (ear ∷ ears)) rest c front h) (held plan ear.edge c t) in
    front.apart c h (subst (λ cs. Contains cs c) (sym (met_of-cons plan ear ears))
    (Contains-append_right (met_of plan ears) (of_edge plan ear.edge) c there)))

-- the classes of an ear: those that were met, and the fresh ones
edge_order_parts : (plan : Removal) (ear : Ear) (ears : List Ear) (rest : List ℕ)
    → IsFront plan (met_of plan (ear ∷ ears)) rest → edge_order plan ear.edge ≡ filter
    (edge_holds plan ear.edge) (first_appearances (met_of plan ears))
    ++ fresh_of plan (met_of plan ears) ear.edge
edge_order_parts plan ear ears rest front =
    let met = met_of plan ears in
    let shorter = front_shorter plan ear ears rest front in
    ap (filter (edge_holds plan ear.edge)) shorter.parts
    ∙ kept_parts (edge_holds plan ear.edge) (first_appearances met) (fresh_of plan met ear.edge) rest
    (λ c h. shown plan ear.edge c (fresh_held plan met ear.edge c h))
    (λ c h. behind_lacks plan ear ears rest c front h)

-- ---- the parent of an ear

-- the parent is one of the edges that are walked before the ear, and has each class that the ear shares with
-- one of these
record IsServed (plan : Removal) (walked : List ℕ) (ear : Ear) : Type 0 where
  parent_walked : Contains walked ear.parent
  parent_holds : (c other : ℕ) → Contains walked other → Holds plan.edges ear.edge c
      → Holds plan.edges other c → Holds plan.edges ear.parent c

-- a class of the ear that was met is the parent's
met_shared : (plan : Removal) (ear : Ear) (walked : List ℕ) (c : ℕ) → IsServed plan walked ear
    → Contains (met_by plan.edges walked) c → Holds plan.edges ear.edge c → Holds plan.edges ear.parent c
met_shared plan ear walked c served h holds =
    let (other, among, there) = Contains-from_flat_map (of_edge plan) walked c h in
    served.parent_holds c other among holds (in_classes (slice_index plan.edges other) c there).1

-- a fresh class is not
fresh_not_shared : (plan : Removal) (ear : Ear) (walked : List ℕ) (c : ℕ) → IsServed plan walked ear
    → Contains (fresh_of plan (met_by plan.edges walked) ear.edge) c → Holds plan.edges ear.parent c → ⊥
fresh_not_shared plan ear walked c served h holds =
    let met = met_by plan.edges walked in
    let there : Contains (of_edge plan ear.parent) c = classes_contain (slice_index plan.edges ear.parent) c
    (fresh_below plan met ear.edge c h) holds in
    fresh_apart plan met ear.edge c h
    (Contains-flat_map (of_edge plan) walked ear.parent c served.parent_walked there)

-- so the classes that an ear shares with its parent are those that were met
shared_met : (plan : Removal) (ear : Ear) (ears : List Ear) (rest : List ℕ)
    → IsFront plan (met_of plan (ear ∷ ears)) rest → IsServed plan (walked_of plan ears) ear
    → filter (edge_holds plan ear.parent) (edge_order plan ear.edge) ≡ filter (edge_holds plan ear.edge)
    (first_appearances (met_of plan ears))
shared_met plan ear ears rest front served =
    let met = met_of plan ears in
    let p = edge_holds plan ear.edge in
    let q = edge_holds plan ear.parent in
    ap (filter q) (edge_order_parts plan ear ears rest front)
    ∙ shared_part p q (first_appearances met) (fresh_of plan met ear.edge)
    (λ c h t. shown plan ear.parent c
    (met_shared plan ear (walked_of plan ears) c served (within_first met c h) (held plan ear.edge c t)))
    (λ c h. false_from_ne_true (q c)
    (λ t. fresh_not_shared plan ear (walked_of plan ears) c served h (held plan ear.parent c t)))

-- ---- the node of an ear

-- the classes and the width of an ear's node, as a plan names them
record IsOverEar (plan : Removal) (ear : Ear) (node : Node) : Type 0 where
  classes : node.relation.classes ≡ edge_order plan ear.edge
  width : node.width ≡ length (filter (edge_holds plan ear.parent) (edge_order plan ear.edge))

-- how the columns of an ear's node stand to the classes that were met before it
record IsLaid (plan : Removal) (met : List ℕ) (edge : ℕ) (node : Node) : Type 0 where
  in_order : node.relation.classes ≡ filter (has_class node.relation.classes) (class_order plan)
  width : node.width ≤ length node.relation.classes
  key : key_classes node ≡ filter (edge_holds plan edge) (first_appearances met)
  fresh : new_classes node ≡ fresh_of plan met edge

-- classes in two parts, of which the first is as long as the width
laid_parts : (node : Node) (key fresh : List ℕ) → node.relation.classes ≡ key ++ fresh
    → node.width ≡ length key → (node.width ≤ length node.relation.classes) × (key_classes node ≡ key)
    × (new_classes node ≡ fresh)
laid_parts node key fresh e w = (
  omega (arith, w, ap length e, length-append key fresh),
  ap (take node.width) e ∙ take_at key fresh node.width (sym w),
  ap (drop node.width) e ∙ drop_at key fresh node.width (sym w),
)

-- an ear's node has the classes that were met in front, as its key, and the fresh ones behind them
ear_laid : (plan : Removal) (ear : Ear) (ears : List Ear) (rest : List ℕ) (node : Node)
    → IsFront plan (met_of plan (ear ∷ ears)) rest → IsServed plan (walked_of plan ears) ear
    → IsOverEar plan ear node → IsLaid plan (met_of plan ears) ear.edge node
ear_laid plan ear ears rest node front served over =
    let key = filter (edge_holds plan ear.edge) (first_appearances (met_of plan ears)) in
    let fresh = fresh_of plan (met_of plan ears) ear.edge in
    let laid = laid_parts node key fresh (over.classes ∙ edge_order_parts plan ear ears rest front)
    (over.width ∙ ap length (shared_met plan ear ears rest front served)) in
    record {
      in_order = subst (λ cs. cs ≡ filter (has_class cs) (class_order plan)) (sym over.classes)
          (own_members (edge_holds plan ear.edge) (class_order plan));
      width = laid.0;
      key = laid.1;
      fresh = laid.2;
    }

-- ---- the nodes of all ears

-- each ear is served by the edges that are walked before it
abbrev AreServed : Removal → List Ear → Type 0
AreServed plan [] = Unit {0}
AreServed plan (ear ∷ ears) = IsServed plan (walked_of plan ears) ear × AreServed plan ears

-- one node for each ear, in the order of their removal
abbrev AreOverEars : Removal → List Ear → List Node → Type 0
AreOverEars plan [] [] = Unit {0}
AreOverEars plan [] (node ∷ nodes) = ⊥
AreOverEars plan (ear ∷ ears) [] = ⊥
AreOverEars plan (ear ∷ ears) (node ∷ nodes) = IsOverEar plan ear node × AreOverEars plan ears nodes

-- each node stands to the classes that the ears removed later, and the core, have
abbrev AreLaidOver : Removal → List Ear → List Node → Type 0
AreLaidOver plan [] [] = Unit {0}
AreLaidOver plan [] (node ∷ nodes) = ⊥
AreLaidOver plan (ear ∷ ears) [] = ⊥
AreLaidOver plan (ear ∷ ears) (node ∷ nodes) = IsLaid plan (met_of plan ears) ear.edge node
    × AreLaidOver plan ears nodes

-- along the walk back from its end: the class order is the front that the ears have met, and the rest
ears_laid : (plan : Removal) (ears : List Ear) (nodes : List Node) (rest : List ℕ)
    → IsFront plan (met_of plan ears) rest → AreServed plan ears → AreOverEars plan ears nodes
    → AreLaidOver plan ears nodes
ears_laid plan [] [] rest front served over = tt
ears_laid plan [] (node ∷ nodes) rest front served over = absurd over
ears_laid plan (ear ∷ ears) [] rest front served over = absurd over
ears_laid plan (ear ∷ ears) (node ∷ nodes) rest front served over = (
  ear_laid plan ear ears rest node front served.0 over.0,
  ears_laid plan ears nodes (fresh_of plan (met_of plan ears) ear.edge ++ rest)
      (front_shorter plan ear ears rest front) served.1 over.1,
)

-- ---- what a plan of ears says of them

-- the edges that are still there when an ear is removed are those that are walked before it
walked_stays : (plan : Removal) (ears : List Ear) (edge : ℕ)
    → Contains (map (λ (ear : Ear). ear.edge) ears ++ plan.core) edge → Contains (walked_of plan ears) edge
walked_stays plan ears edge h =
    let gone = map (λ (ear : Ear). ear.edge) ears in
    elim (Contains-append_cases gone plan.core edge h) [
      | inl m ↦ Contains-append_right plan.core (reverse gone) edge (Contains-reverse gone edge m)
      | inr m ↦ Contains-append_left plan.core (reverse gone) edge m
    ]

stays_walked : (plan : Removal) (ears : List Ear) (edge : ℕ) → Contains (walked_of plan ears) edge
    → Contains (map (λ (ear : Ear). ear.edge) ears ++ plan.core) edge
stays_walked plan ears edge h =
    let gone = map (λ (ear : Ear). ear.edge) ears in
    elim (Contains-append_cases plan.core (reverse gone) edge h) [
      | inl m ↦ Contains-append_right gone plan.core edge m
      | inr m ↦ Contains-append_left gone plan.core edge
          (subst (λ xs. Contains xs edge) (reverse-reverse gone) (Contains-reverse (reverse gone) edge m))
    ]

-- the edges in the order in which they leave, from some ears on
abbrev leaving : Removal → List Ear → List ℕ
leaving plan ears = map (λ ear. ear.edge) ears ++ plan.core

-- the parents of the ears, by their places in the order of removal
ears_served : (plan : Removal) (ears : List Ear)
    → ((i : ℕ) (d : Ear) → i < length ears → Contains (drop (suc i) (leaving plan ears))
    (get_or ears i d).parent)
    → ((i : ℕ) (d : Ear) (c other : ℕ) → i < length ears → Contains (drop (suc i) (leaving plan ears)) other
    → Holds plan.edges (get_or ears i d).edge c → Holds plan.edges other c
    → Holds plan.edges (get_or ears i d).parent c)
    → AreServed plan ears
ears_served plan [] stays holds = tt
ears_served plan (ear ∷ ears) stays holds = (
  record {
    parent_walked = walked_stays plan ears ear.parent (stays 0 ear (omega arith));
    parent_holds = λ c other h. holds 0 ear c other (omega arith) (stays_walked plan ears other h);
  },
  ears_served plan ears (λ i d h. stays (suc i) d (omega arith))
      (λ i d c other h. holds (suc i) d c other (omega arith)),
)

-- the nodes of the ears, by their places
ears_over : (plan : Removal) (ears : List Ear) (nodes : List Node)
    → length nodes ≡ length ears
    → ((i : ℕ) (d : Ear) → i < length ears → (node_at nodes i).relation.classes ≡ edge_order plan
    (get_or ears i d).edge)
    → ((i : ℕ) (d : Ear) → i < length ears → (node_at nodes i).width ≡ length
    (filter (edge_holds plan (get_or ears i d).parent) (edge_order plan (get_or ears i d).edge)))
    → AreOverEars plan ears nodes
ears_over plan [] [] many classes widths = tt
ears_over plan [] (node ∷ nodes) many classes widths = absurd (omega arith)
ears_over plan (ear ∷ ears) [] many classes widths = absurd (omega arith)
ears_over plan (ear ∷ ears) (node ∷ nodes) many classes widths = (
  record { classes = classes 0 ear (omega arith); width = widths 0 ear (omega arith) },
  ears_over plan ears nodes (omega arith) (λ i d h. classes (suc i) d (omega arith))
      (λ i d h. widths (suc i) d (omega arith)),
)

-- ---- the walk over the nodes

-- the root of the nodes, over the classes of the core
record IsRoot (plan : Removal) (root : Node) : Type 0 where
  classes : root.relation.classes ≡ core_order plan
  width : root.width ≡ 0

root_fresh : (plan : Removal) (root : Node) → IsRoot plan root → new_classes root ≡ core_order plan
root_fresh plan root is = ap (λ n. drop n root.relation.classes) is.width ∙ is.classes

root_key : (plan : Removal) (root : Node) → IsRoot plan root → key_classes root ≡ []
root_key plan root is = ap (λ n. take n root.relation.classes) is.width

-- the walk meets a node's new classes after those of the nodes before it
classes_along-more : (root node : Node) (nodes : List Node)
    → classes_along (root ∷ reverse (node ∷ nodes)) ≡ classes_along (root ∷ reverse nodes) ++ new_classes node
classes_along-more root node nodes =
    ap (λ ns. classes_along (root ∷ ns)) (reverse-append (node ∷ []) nodes)
    ∙ flat_map-append new_classes (root ∷ reverse nodes) (node ∷ [])
    ∙ ap (λ cs. classes_along (root ∷ reverse nodes) ++ cs) (append-nil (new_classes node))

-- the walk over some nodes meets the classes of their ears and the core, each once, in class order
met_once : (plan : Removal) (root : Node) (ears : List Ear) (nodes : List Node) → IsRoot plan root
    → AreLaidOver plan ears nodes → classes_along (root ∷ reverse nodes) ≡ first_appearances
    (met_of plan ears)
met_once plan root [] [] is laid =
    append-nil (new_classes root) ∙ root_fresh plan root is
    ∙ ap (λ es. first_appearances (met_by plan.edges es)) (sym (append-nil plan.core))
met_once plan root [] (node ∷ nodes) is laid = absurd laid
met_once plan root (ear ∷ ears) [] is laid = absurd laid
met_once plan root (ear ∷ ears) (node ∷ nodes) is laid =
    classes_along-more root node nodes
    ∙ ap (λ cs. cs ++ new_classes node) (met_once plan root ears nodes is laid.1)
    ∙ ap (λ cs. first_appearances (met_of plan ears) ++ cs) laid.0.fresh
    ∙ sym (first_appearances-append (met_of plan ears) (of_edge plan ear.edge))
    ∙ ap first_appearances (sym (met_of-cons plan ear ears))

-- ---- the clauses

each_in_order : (plan : Removal) (ears : List Ear) (nodes : List Node) → AreLaidOver plan ears nodes
    → All (λ node. node.relation.classes ≡ filter (has_class node.relation.classes) (class_order plan)) nodes
each_in_order plan [] [] laid = All-nil _
each_in_order plan [] (node ∷ nodes) laid = absurd laid
each_in_order plan (ear ∷ ears) [] laid = absurd laid
each_in_order plan (ear ∷ ears) (node ∷ nodes) laid =
    All-cons (λ node. node.relation.classes ≡ filter (has_class node.relation.classes) (class_order plan))
    node nodes laid.0.in_order (each_in_order plan ears nodes laid.1)

each_width : (plan : Removal) (ears : List Ear) (nodes : List Node) → AreLaidOver plan ears nodes
    → All (λ node. node.width ≤ length node.relation.classes) nodes
each_width plan [] [] laid = All-nil _
each_width plan [] (node ∷ nodes) laid = absurd laid
each_width plan (ear ∷ ears) [] laid = absurd laid
each_width plan (ear ∷ ears) (node ∷ nodes) laid =
    All-cons (λ node. node.width ≤ length node.relation.classes) node nodes laid.0.width
    (each_width plan ears nodes laid.1)

-- the classes of the ears that no edge of the core has, in class order
abbrev later_of : Removal → List ℕ
later_of plan = filter (λ c. not (member (met_by plan.edges plan.core) c))
    (first_appearances (met_by plan.edges (reverse (map (λ (ear : Ear). ear.edge) plan.removed))))

-- the classes of the core are a front of the class order
core_front : (plan : Removal) → IsFront plan (met_by plan.edges plan.core) (later_of plan)
core_front plan =
    let met = met_by plan.edges plan.core in
    let later = reverse (map (λ (ear : Ear). ear.edge) plan.removed) in
    record {
      parts = ap first_appearances (flat_map-append (of_edge plan) plan.core later)
          ∙ first_appearances-append met (met_by plan.edges later);
      apart = λ c h m. not_member met c
          (Contains-from_filter (λ k. not (member met k)) (first_appearances (met_by plan.edges later)) c h).1
          m;
    }

root_in_order : (plan : Removal) (root : Node) → IsRoot plan root
    → root.relation.classes ≡ filter (has_class root.relation.classes) (class_order plan)
root_in_order plan root is =
    let front = core_front plan in
    let apart : (c : ℕ) → Contains (later_of plan) c → Contains (core_order plan) c
    → ⊥ = λ c h m. front.apart c h (within_first (met_by plan.edges plan.core) c m) in
    subst (λ cs. cs ≡ filter (has_class cs) (class_order plan)) (sym is.classes)
    (front_members (core_order plan) (later_of plan) apart
    ∙ ap (filter (has_class (core_order plan))) (sym front.parts))

-- a test that tells the classes of the core's edges from the others keeps them of the class order
pub core_kept : (plan : Removal) (p : ℕ → Bool) → ((c : ℕ) → (p c ≡ true) ↔ IsHeldBy plan.edges plan.core c)
    → filter p (class_order plan) ≡ core_order plan
core_kept plan p tells =
    ap (filter p) front.parts ∙ kept_parts p [] (core_order plan) (later_of plan) every none
  where
    front : IsFront plan (met_by plan.edges plan.core) (later_of plan)
    front = core_front plan

    held_by : (c : ℕ) → Contains (met_by plan.edges plan.core) c → IsHeldBy plan.edges plan.core c
    held_by c m =
        let (edge, among, there) = Contains-from_flat_map (of_edge plan) plan.core c m in
        (edge, among, (in_classes (slice_index plan.edges edge) c there).1)

    met : (c : ℕ) → c < 64 → IsHeldBy plan.edges plan.core c → Contains (met_by plan.edges plan.core) c
    met c low (edge, among, holds) = Contains-flat_map (of_edge plan) plan.core edge c among
        (classes_contain (slice_index plan.edges edge) c low holds)

    every : (c : ℕ) → Contains (core_order plan) c → p c ≡ true
    every c h = (tells c).1 (held_by c (within_first (met_by plan.edges plan.core) c h))

    none : (c : ℕ) → Contains (later_of plan) c → p c ≡ false
    none c h = false_from_ne_true (p c)
        (λ t. front.apart c h
        (met c (behind_below plan (met_by plan.edges plan.core) (later_of plan) c front h) ((tells c).0 t)))

-- a node's key was met by the nodes that are walked before it
key_met : (plan : Removal) (root node : Node) (after before : List Node) (ears : List Ear) → IsRoot plan root
    → AreLaidOver plan ears (after ++ node ∷ before)
    → All (Contains (classes_along (root ∷ reverse before))) (key_classes node)
key_met plan root node [] before [] is laid = absurd laid
key_met plan root node [] before (ear ∷ ears) is laid =
    all_members (Contains (classes_along (root ∷ reverse before))) (key_classes node) (λ c h.
    let kept = Contains-from_filter (edge_holds plan ear.edge) (first_appearances (met_of plan ears)) c
    (subst (λ cs. Contains cs c) laid.0.key h) in
    subst (λ cs. Contains cs c) (sym (met_once plan root ears before is laid.1)) kept.0)
key_met plan root node (other ∷ after) before [] is laid = absurd laid
key_met plan root node (other ∷ after) before (ear ∷ ears) is laid =
    key_met plan root node after before ears is laid.1

keys_met : (plan : Removal) (root : Node) (others : List Node) → IsRoot plan root
    → AreLaidOver plan plan.removed others → (before after : List Node) (node : Node)
    → root ∷ reverse others ≡ before ++ node ∷ after
    → All (Contains (classes_along before)) (key_classes node)
keys_met plan root others is laid [] after node e =
    let same : root ≡ node = cc in
    subst (All (Contains [])) (sym (ap key_classes (sym same) ∙ root_key plan root is))
    (All-nil (Contains []))
keys_met plan root others is laid (first ∷ before) after node e =
    let same : root ≡ first = cc in
    let rest : reverse others ≡ before ++ node ∷ after = cc in
    let turned : others ≡ reverse after ++ node ∷ reverse before =
    sym (reverse-reverse others) ∙ ap reverse rest ∙ reverse-append before (node ∷ after)
    ∙ ap (λ ns. ns ++ reverse before) (reverse-append (node ∷ []) after)
    ∙ append_assoc (reverse after) (node ∷ []) (reverse before) in
    let met = key_met plan root node (reverse after) (reverse before) plan.removed is
    (subst (AreLaidOver plan plan.removed) turned laid) in
    subst (λ ns. All (Contains (classes_along ns)) (key_classes node))
    (ap (λ ns. root ∷ ns) (reverse-reverse before) ∙ ap (λ n. n ∷ before) same) met

-- where the nodes are a root and the nodes of the ears
laid_nodes : (plan : Removal) (root : Node) (others : List Node) → IsRoot plan root
    → AreLaidOver plan plan.removed others → AreLaid plan (root ∷ others)
laid_nodes plan root others is laid = record {
  in_order = All-cons
      (λ node. node.relation.classes ≡ filter (has_class node.relation.classes) (class_order plan)) root
      others (root_in_order plan root is) (each_in_order plan plan.removed others laid);
  widths = All-cons (λ node. node.width ≤ length node.relation.classes) root others
      (let none = is.width in omega arith) (each_width plan plan.removed others laid);
  order = sym (met_once plan root plan.removed others is laid);
  keys = keys_met plan root others is laid;
}

pub columns : (plan : Removal) (nodes : List Node) → IsRemoval plan → IsWalkable plan → AreColumns plan nodes
    → AreLaid plan nodes
columns plan [] removal walkable are = absurd (let many = are.many in omega arith)
columns plan (root ∷ others) removal walkable are =
    let many = are.many in
    laid_nodes plan root others (record { classes = are.root; width = are.root_width })
    (ears_laid plan plan.removed others [] (front_all plan)
    (ears_served plan plan.removed walkable.parent_stays walkable.parent_holds)
    (ears_over plan plan.removed others (omega arith) are.ears are.widths))
