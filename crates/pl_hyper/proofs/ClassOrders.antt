-- What the order of the classes holds: each class of the edges, and that once.
use Rattle.std.proofs.Common.{◌≡◌, ◌≢◌, ℕ, ◌<◌, ◌≤◌, ◌^◌, ◌-◌, ◌⊎◌, ◌↔◌, List, [], ◌∷◌, ◌++◌, not, length}
use Rattle.std.proofs.Common.{map, reverse, get_or, refl, ap, sym, ◌∙◌, subst, inl, inr, arith}
use Rattle.std.specs.Prelude.{slice_index}
use Rattle.std.specs.Int.{bit_at}
use Rattle.std.specs.List.{Contains, All, AllPairs, filter}
use Rattle.std.proofs.lemmas.List.{reverse-append, get_or-append_right, get_or_append_left, length-append}
use Rattle.std.proofs.lemmas.List.Concat.{flat_map-append}
use Rattle.std.proofs.lemmas.List.Elements.{Contains-append_left, Contains-append_right}
use Rattle.std.proofs.lemmas.List.Elements.{Contains-append_cases, Contains-get_or}
use Rattle.std.proofs.lemmas.Nat.Bits.{bit_at_above}
use Rattle.std.proofs.lemmas.Bool.{cases_lt}
use Rattle.pl_hyper.specs.declared.ear.Ear.{Ear}
use Rattle.pl_hyper.specs.Edges.{edge_numbers}
use Rattle.pl_hyper.specs.Ears.{Removal, IsRemoval}
use Rattle.pl_hyper.specs.ClassOrder.{IsClass, IsHeldBy, BeginsWithWalked, classes_of, first_appearances}
use Rattle.pl_hyper.specs.ClassOrder.{walk_order, class_order}
use Rattle.pl_hyper.proofs.Members.{here, there, cons_cases, not_in_nil, range_contains, within_range}
use Rattle.pl_hyper.proofs.Removals.{all_leave, from_remaining, core_edges, removed_edges}
use Rattle.pl_hyper.proofs.Orders.{met_by, in_classes, classes_contain, first_contains, within_first}
use Rattle.pl_hyper.proofs.Orders.{first_once, first_appearances-append, member, contains_member, in_filter}
use Rattle.pl_hyper.proofs.Orders.{not_true}

-- ---- the edges of the walk are all edges

reverse_contains : (xs : List ℕ) (y : ℕ) → Contains xs y → Contains (reverse xs) y
reverse_contains [] y h = h
reverse_contains (x ∷ xs) y h =
    subst (λ zs. Contains zs y) (sym (reverse-append (x ∷ []) xs))
    (elim (cons_cases x xs y h) [
      | inl s ↦ Contains-append_right (reverse xs) (x ∷ []) y (subst (Contains (x ∷ [])) (sym s) (here x []))
      | inr k ↦ Contains-append_left (reverse xs) (x ∷ []) y (reverse_contains xs y k)
    ])

within_reverse : (xs : List ℕ) (y : ℕ) → Contains (reverse xs) y → Contains xs y
within_reverse [] y h = h
within_reverse (x ∷ xs) y h =
    elim (Contains-append_cases (reverse xs) (x ∷ []) y
    (subst (λ zs. Contains zs y) (reverse-append (x ∷ []) xs) h)) [
      | inl k ↦ there x y xs (within_reverse xs y k)
      | inr k ↦ elim (cons_cases x [] y k) [
        | inl s ↦ subst (Contains (x ∷ xs)) (sym s) (here x xs)
        | inr n ↦
            absurd (not_in_nil y n)
      ]
    ]

pub walk_contains : (plan : Removal) → IsRemoval plan → (e : ℕ) → e < length plan.edges →
    Contains (walk_order plan) e
walk_contains plan r e h =
    let gone = map (λ ear. ear.edge) plan.removed in
    elim (Contains-append_cases gone plan.core e (all_leave plan.edges (edge_numbers plan.edges) plan.removed
    plan.core r.removes e (range_contains (length plan.edges) e h))) [
      | inl k ↦ Contains-append_right plan.core (reverse gone) e (reverse_contains gone e k)
      | inr k ↦ Contains-append_left plan.core (reverse gone) e k
    ]

within_walk : (plan : Removal) → IsRemoval plan → (e : ℕ) →
    Contains (walk_order plan) e → e < length plan.edges
within_walk plan r e h =
    let gone = map (λ ear. ear.edge) plan.removed in
    within_range (length plan.edges) e
    (from_remaining plan.edges (edge_numbers plan.edges) plan.removed plan.core r.removes e
    (elim (Contains-append_cases plan.core (reverse gone) e h) [
      | inl k ↦ Contains-append_right gone plan.core e k
      | inr k ↦ Contains-append_left gone plan.core e (within_reverse gone e k)
    ]))

-- ---- the classes that a walk meets

met_contains : (edges walked : List ℕ) (e class : ℕ) → Contains walked e →
    Contains (classes_of (slice_index edges e)) class → Contains (met_by edges walked) class
met_contains edges [] e class h k = absurd (not_in_nil e h)
met_contains edges (x ∷ walked) e class h k =
    elim (cons_cases x walked e h) [
      | inl s ↦ Contains-append_left (classes_of (slice_index edges x)) (met_by edges walked) class
          (subst (λ y. Contains (classes_of (slice_index edges y)) class) s k)
      | inr m ↦ Contains-append_right (classes_of (slice_index edges x)) (met_by edges walked) class
          (met_contains edges walked e class m k)
    ]

within_met : (edges walked : List ℕ) (class : ℕ) → Contains (met_by edges walked) class →
    (e : ℕ) × Contains walked e × Contains (classes_of (slice_index edges e)) class
within_met edges [] class h = absurd (not_in_nil class h)
within_met edges (x ∷ walked) class h =
    elim (Contains-append_cases (classes_of (slice_index edges x)) (met_by edges walked) class h) [
      | inl k ↦ (x, here x walked, k)
      | inr k ↦ (let (e, m, holds) = within_met edges walked class k in (e, there x e walked m, holds))
    ]

-- ---- the clauses

class_order-once : (plan : Removal) → AllPairs (λ a b. a ≢ b) (class_order plan)
class_order-once plan = first_once (met_by plan.edges (walk_order plan))

class_order-below : (plan : Removal) → All (λ class. class < 64) (class_order plan)
class_order-below plan k d h =
    let met = within_first (met_by plan.edges (walk_order plan)) (get_or (class_order plan) k d)
    (Contains-get_or (class_order plan) k d h) in
    let (e, m, holds) = within_met plan.edges (walk_order plan) (get_or (class_order plan) k d) met in
    (in_classes (slice_index plan.edges e) (get_or (class_order plan) k d) holds).0

below_64 : (n class : ℕ) → n < 2 ^ 64 → bit_at n class ≡ 1 → (class < 64) ⊎ (64 ≤ class) → class < 64
below_64 n class small h (inl k) = k
below_64 n class small h (inr k) = let none = bit_at_above n 64 class small k in
    absurd (omega (arith, sym none ∙ h))

class_order-classes : (plan : Removal) → IsRemoval plan → ((e : ℕ) → slice_index plan.edges e < 2 ^ 64) →
    (class : ℕ) → Contains (class_order plan) class ↔ IsClass plan.edges class
class_order-classes plan r small class = (
  λ h.
      let (e, m, holds) = within_met plan.edges (walk_order plan) class
      (within_first (met_by plan.edges (walk_order plan)) class h) in
      (e, within_walk plan r e m, (in_classes (slice_index plan.edges e) class holds).1),
  λ (e, h, holds).
      first_contains (met_by plan.edges (walk_order plan)) class
      (met_contains plan.edges (walk_order plan) e class (walk_contains plan r e h)
      (classes_contain (slice_index plan.edges e) class (below_64 (slice_index plan.edges e) class (small e)
      holds (cases_lt class 64)) holds)),
)

-- ---- the classes of a front of the walk

in_walked : (edges walked : List ℕ) (class : ℕ) → class < 64 → IsHeldBy edges walked class →
    Contains (met_by edges walked) class
in_walked edges walked class low (e, h, holds) = met_contains edges walked e class h
    (classes_contain (slice_index edges e) class low holds)

walked_in : (edges walked : List ℕ) (class : ℕ) → Contains (met_by edges walked) class →
    IsHeldBy edges walked class
walked_in edges walked class h =
    let (e, m, holds) = within_met edges walked class h in
    (e, m, (in_classes (slice_index edges e) class holds).1)

-- a class behind the front is not one of the front's
behind : (front back xs : List ℕ) (i : ℕ) → ((y : ℕ) → Contains back y → Contains xs y → ⊥) →
    i < length (front ++ back) → Contains xs (get_or (front ++ back) i 0) → (i < length front) ⊎
    (length front ≤ i) → i < length front
behind front back xs i apart h k (inl low) = low
behind front back xs i apart h k (inr high) =
    let long = length-append front back in
    let at : get_or (front ++ back) i 0 ≡ get_or back (i - length front) 0 = get_or-append_right front back
    (length front) i 0 refl high in
    let place : i - length front < length back = omega arith in
    absurd (apart (get_or back (i - length front) 0) (Contains-get_or back (i - length front) 0 place)
    (subst (Contains xs) at k))

before : (front back xs : List ℕ) (j : ℕ) → ((y : ℕ) → Contains front y → Contains xs y) →
    (Contains xs (get_or (front ++ back) j 0) → ⊥) → (j < length front) ⊎ (length front ≤ j) →
    length front ≤ j
before front back xs j all n (inr high) = high
before front back xs j all n (inl low) =
    let at : get_or (front ++ back) j 0 ≡ get_or front j 0 = get_or_append_left front back 0 j low in
    absurd (n (subst (Contains xs) (sym at) (all (get_or front j 0) (Contains-get_or front j 0 low))))

not_twice : (xs ys : List ℕ) (y : ℕ) → Contains (filter (λ z. not (member xs z)) ys) y → Contains xs y → ⊥
not_twice xs ys y h k = not_true (member xs y) (in_filter (λ z. not (member xs z)) ys y h).1
    (contains_member xs y k)

cut : (edges walked rest : List ℕ) → first_appearances (met_by edges (walked ++ rest)) ≡ first_appearances
    (met_by edges walked) ++ filter (λ z. not (member (met_by edges walked) z))
    (first_appearances (met_by edges rest))
cut edges walked rest =
    ap first_appearances (flat_map-append (λ e. classes_of (slice_index edges e)) walked rest)
    ∙ first_appearances-append (met_by edges walked) (met_by edges rest)

class_order-walked : (plan : Removal) → BeginsWithWalked plan (class_order plan)
class_order-walked plan walked rest i j w h k held lacks =
    let xs = met_by plan.edges walked in
    let front = first_appearances xs in
    let back = filter (λ z. not (member xs z)) (first_appearances (met_by plan.edges rest)) in
    let is : class_order plan ≡ front ++ back = ap (λ es. first_appearances (met_by plan.edges es)) w ∙
    cut plan.edges walked rest in
    let low_class = class_order-below plan i 0 h in
    let first : i < length front =
    behind front back xs i (not_twice xs (first_appearances (met_by plan.edges rest)))
    (subst (λ zs. i < length zs) is h)
    (subst (λ zs. Contains xs (get_or zs i 0)) is (in_walked plan.edges walked (get_or (class_order plan) i 0)
    low_class held)) (cases_lt i (length front)) in
    let second : length front ≤ j =
    before front back xs j (within_first xs)
    (subst (λ zs. Contains xs (get_or zs j 0) →
    ⊥) is (λ m. lacks (walked_in plan.edges walked (get_or (class_order plan) j 0) m)))
    (cases_lt j (length front)) in
    omega arith

-- what is said of a list that is the order of the classes
pub record IsOrderOf (plan : Removal) (order : List ℕ) : Type 0 where
  pub once : AllPairs (λ a b. a ≢ b) order
  pub classes : (class : ℕ) → Contains order class ↔ IsClass plan.edges class
  pub below : All (λ class. class < 64) order
  pub walked : BeginsWithWalked plan order

pub IsOrderOf-class_order : (plan : Removal) (order : List ℕ) → order ≡ class_order plan → IsRemoval plan →
    ((e : ℕ) → slice_index plan.edges e < 2 ^ 64) → IsOrderOf plan order
IsOrderOf-class_order plan order e r small =
    subst (IsOrderOf plan) (sym e) (record {
      once = class_order-once plan;
      classes = class_order-classes plan r small;
      below = class_order-below plan;
      walked = class_order-walked plan;
    })

-- ---- the plan that the method lends as slices

pub given_removed : (plan : Removal) (edges : List ℕ) (removed : List Ear) → IsRemoval plan →
    edges ≡ plan.edges → removed ≡ plan.removed → All (λ ear. ear.edge < length edges) removed
given_removed plan edges removed r e g = rw (e, g) (removed_edges plan r)

pub given_core : (plan : Removal) (edges core : List ℕ) → IsRemoval plan → edges ≡ plan.edges →
    core ≡ plan.core → All (λ e. e < length edges) core
given_core plan edges core r e g = rw (e, g) (core_edges plan r)

pub given_removal : (plan : Removal) (edges : List ℕ) (removed : List Ear) (core : List ℕ) → IsRemoval plan →
    edges ≡ plan.edges → removed ≡ plan.removed → core ≡ plan.core →
    IsRemoval (record { edges = edges; removed = removed; core = core })
given_removal plan edges removed core r e g h = rw (e, g, h) r

pub given_plan : (plan seen : Removal) (edges : List ℕ) (removed : List Ear) (core : List ℕ) →
    edges ≡ plan.edges → removed ≡ plan.removed → core ≡ plan.core → plan ≡ seen →
    record { edges = edges; removed = removed; core = core } ≡ seen
given_plan plan seen edges removed core e r c v =
    let given : record { edges = edges; removed = removed; core = core } ≡ plan = λ i. record {
      edges = e i;
      removed = r i;
      core = c i;
    } in
    given ∙ v
