-- Laws of plans: the class order of the core, and the join of the relations of all edges.
use Rattle.std.proofs.Common.{◌≡◌, ◌↔◌, ◌<◌, ◌⊎◌, ℕ, zero, suc, not, List, [], ◌∷◌, ◌++◌, length, map, take}
use Rattle.std.proofs.Common.{filter, reverse, get_or, Contains, refl, ap, ◌∙◌, subst, inl, inr, arith}
use Rattle.std.proofs.Common.{append-nil}
use Rattle.std.specs.Prelude.{slice_index}
use Rattle.std.specs.List.{flat_map}
use Rattle.std.proofs.lemmas.List.{get_or_default}
use Rattle.std.proofs.lemmas.List.Concat.{flat_map-append}
use Rattle.std.proofs.lemmas.List.Elements.{Contains-append_cases}
use Rattle.pl_join.specs.Relation.{ClassRows, Assignment, Holds, HoldsAll, IsJoinOfAll}
use Rattle.pl_join.proofs.Members.{Contains-map, Contains-from_map}
use Rattle.pl_hyper.specs.declared.ear.Ear.{Ear}
use Rattle.pl_hyper.specs.Ears.{Removal, IsWalkable, ear_at}
use Rattle.pl_hyper.specs.ClassOrder.{classes_of, class_order, first_appearances}
use Rattle.pl_hyper.proofs.Orders.{member, first_appearances-append, first_appearances-rising, classes_rise}
use Rattle.pl_reduce.specs.Plan.{core_order, relation_at}
use Rattle.pl_reduce.proofs.Lists.{all_members}

pub one_edge_order : (plan : Removal) (edge : ℕ) → plan.core ≡ edge ∷ []
    → core_order plan ≡ classes_of (slice_index plan.edges edge)
one_edge_order plan edge e =
    ap (λ core. first_appearances (flat_map (λ k. classes_of (slice_index plan.edges k)) core)) e
    ∙ ap first_appearances (append-nil (classes_of (slice_index plan.edges edge)))
    ∙ first_appearances-rising (classes_of (slice_index plan.edges edge))
    (classes_rise (slice_index plan.edges edge))

take_front : (xs ys : List ℕ) → take (length xs) (xs ++ ys) ≡ xs
take_front [] ys = refl
take_front (x ∷ xs) ys = ap (λ zs. x ∷ zs) (take_front xs ys)

pub core_front : (plan : Removal) → take (length (core_order plan)) (class_order plan) ≡ core_order plan
core_front plan =
    let F : ℕ → List ℕ = λ e. classes_of (slice_index plan.edges e) in
    let core : List ℕ = flat_map F plan.core in
    let more : List ℕ = flat_map F (reverse (map (λ ear. ear.edge) plan.removed)) in
    let whole : class_order plan ≡ core_order plan ++ filter (λ y. not (member core y))
    (first_appearances more) =
    ap first_appearances (flat_map-append F plan.core (reverse (map (λ ear. ear.edge) plan.removed)))
    ∙ first_appearances-append core more in
    ap (take (length (core_order plan))) whole ∙ take_front (core_order plan) _

-- ---- the join of the relations of all edges

-- a relation of a list holds what all of them hold
one_of_all : (relations : List ClassRows) (f : Assignment) (k : ℕ) → k < length relations
    → HoldsAll relations f → Holds (relation_at relations k) f
one_of_all relations f k l all = all k _ l

all_of_each : (relations : List ClassRows) (f : Assignment)
    → ((k : ℕ) → k < length relations → Holds (relation_at relations k) f) → HoldsAll relations f
all_of_each relations f each k d l = subst (λ r. Holds r f) (get_or_default relations k _ d l) (each k l)

-- the core's relations hold what those of its edges do
core_held : (relations : List ClassRows) (core : List ℕ) (f : Assignment)
    → HoldsAll (map (relation_at relations) core) f
    ↔ ((e : ℕ) → Contains core e → Holds (relation_at relations e) f)
core_held relations core f = (
  λ all e h. (let (k, l, at) = Contains-map (relation_at relations) core e h in
      subst (λ r. Holds r f) at (all k (relation_at relations e) l)),
  λ each. all_members (λ r. Holds r f) (map (relation_at relations) core) (λ r h.
      let (e, h', at) = Contains-from_map (relation_at relations) core r h in
      subst (λ x. Holds x f) at (each e h')),
)

-- an edge that leaves among the ears is that of one of them
ear_of : (ears : List Ear) (e : ℕ) → Contains (map (λ ear. ear.edge) ears) e → (i : ℕ) × (i < length ears)
    × ((d : Ear) → (get_or ears i d).edge ≡ e)
ear_of ears e h =
    let (ear, (i, l, at), same) = Contains-from_map (λ ear. ear.edge) ears e h in
    (i, l, λ d. ap (λ (x : Ear). x.edge) (get_or_default ears i d ear l ∙ at) ∙ same)

pub edges_join : (plan : Removal) (relations rest : List ClassRows) (root : ClassRows) → IsWalkable plan
    → length relations ≡ length plan.edges
    → IsJoinOfAll (map (relation_at relations) plan.core) root
    → length rest ≡ length plan.removed
    → ((i : ℕ) (d : Ear) (f : Assignment) → i < length rest
    → Holds (relation_at rest i) f ↔ Holds (relation_at relations (ear_at plan i d).edge) f)
    → (f : Assignment) → HoldsAll (root ∷ rest) f ↔ HoldsAll relations f
edges_join plan relations rest root walk many is_root ears are f = (
  λ all. all_of_each relations f
      (λ e l. of_edge all e
      (Contains-append_cases (map (λ ear. ear.edge) plan.removed) plan.core e
      (walk.all_leave e (omega (arith, l, many))))),
  λ all. all_of_each (root ∷ rest) f (λ k l. of_node all k l),
)
  where
    of_edge : HoldsAll (root ∷ rest) f → (e : ℕ) → Contains (map (λ ear. ear.edge) plan.removed) e
        ⊎ Contains plan.core e → Holds (relation_at relations e) f
    of_edge all e (inl h) =
        let (i, l, at) = ear_of plan.removed e h in
        let d : Ear = record { edge = 0; parent = 0 } in
        let within : i < length rest = omega (arith, l, ears) in
        subst (λ k. Holds (relation_at relations k) f) (at d)
        ((are i d f within).0 (one_of_all (root ∷ rest) f (suc i) (omega (arith, within)) all))
    of_edge all e (inr h) = (core_held relations plan.core f).0
        ((is_root f).0 (one_of_all (root ∷ rest) f 0 (omega arith) all)) e h

    of_node : HoldsAll relations f → (k : ℕ) → k < length (root ∷ rest)
        → Holds (relation_at (root ∷ rest) k) f
    of_node all zero l = (is_root f).1
        ((core_held relations plan.core f).1 (λ e h. one_of_all relations f e (core_within e h) all))
      where
        core_within : (e : ℕ) → Contains plan.core e → e < length relations
        core_within e (j, m, at) = let low = walk.core_is_edges j e m in omega (arith, low, at, many)
    of_node all (suc i) l =
        let d : Ear = record { edge = 0; parent = 0 } in
        let within : i < length rest = omega arith in
        let low = walk.ears_are_edges i d (omega (arith, within, ears)) in
        (are i d f within).1 (one_of_all relations f (ear_at plan i d).edge (omega (arith, low, many)) all)
