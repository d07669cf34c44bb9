-- What follows from the removal of ears, from any remaining edges on.
use Rattle.std.proofs.Common.{◌≡◌, ◌≢◌, ℕ, zero, suc, ◌<◌, List, [], ◌∷◌, ◌++◌, length, map, drop, get_or}
use Rattle.std.proofs.Common.{refl, sym, ap, ◌∙◌, subst, inl, inr, arith}
use Rattle.std.specs.List.{Contains, All, AllPairs}
use Rattle.std.proofs.lemmas.List.Elements.{Contains-get_or}
use Rattle.std.proofs.lemmas.List.Kept.{AllPairs-cons}
use Rattle.pl_hyper.specs.declared.ear.Ear.{Ear}
use Rattle.pl_hyper.specs.Edges.{Holds, edge_numbers}
use Rattle.pl_hyper.specs.Ears.{IsEar, IsFirstEar, Removes, Removal, IsRemoval, IsWalkable, without}
use Rattle.pl_hyper.proofs.Members.{same_or_not, here, there, cons_cases, not_in_nil, range_contains}
use Rattle.pl_hyper.proofs.Members.{within_range, range_rises, without_contains, within_without}
use Rattle.pl_hyper.proofs.Members.{without_rises}

-- one ear more
pub Removes-push : (edges remaining : List ℕ) (ears : List Ear) (left : List ℕ) (ear : Ear) →
    Removes edges remaining ears left → IsFirstEar edges left ear.edge ear.parent →
    Removes edges remaining (ears ++ ear ∷ []) (without ear.edge left)
Removes-push edges remaining [] left ear r first =
    (subst (λ xs. IsFirstEar edges xs ear.edge ear.parent) r first, ap (without ear.edge) r)
Removes-push edges remaining (x ∷ ears) left ear r first =
    (r.0, Removes-push edges (without x.edge remaining) ears left ear r.1 first)

pub left_rises : (edges remaining : List ℕ) (ears : List Ear) (left : List ℕ) →
    Removes edges remaining ears left → AllPairs (λ a b. a < b) remaining → AllPairs (λ a b. a < b) left
left_rises edges remaining [] left r up = subst (AllPairs (λ a b. a < b)) (sym r) up
left_rises edges remaining (x ∷ ears) left r up = left_rises edges (without x.edge remaining) ears left r.1
    (without_rises x.edge remaining up)

-- where nothing is left, nothing remained: the parent of an ear stays
pub none_left : (edges remaining : List ℕ) (ears : List Ear) → Removes edges remaining ears [] →
    remaining ≡ []
none_left edges remaining [] r = sym r
none_left edges remaining (x ∷ ears) r =
    let gone = none_left edges (without x.edge remaining) ears r.1 in
    let stays = without_contains x.edge remaining x.parent r.0.is_ear.parent_remains
    (λ s. r.0.is_ear.apart (sym s)) in
    absurd (not_in_nil x.parent (subst (λ xs. Contains xs x.parent) gone stays))

-- where nothing remained, nothing is left
pub none_remained : (edges : List ℕ) (ears : List Ear) (left : List ℕ) →
    Removes edges [] ears left → left ≡ []
none_remained edges [] left r = r
none_remained edges (x ∷ ears) left r = absurd (not_in_nil x.edge r.0.is_ear.edge_remains)

abbrev order_from : List Ear → List ℕ → List ℕ
order_from ears left = map (λ ear. ear.edge) ears ++ left

pub all_leave : (edges remaining : List ℕ) (ears : List Ear) (left : List ℕ) →
    Removes edges remaining ears left → (e : ℕ) → Contains remaining e → Contains (order_from ears left) e
all_leave edges remaining [] left r e h = subst (λ xs. Contains xs e) (sym r) h
all_leave edges remaining (x ∷ ears) left r e h =
    elim (same_or_not e x.edge) [
      | inl s ↦ subst (Contains (x.edge ∷ order_from ears left)) (sym s) (here x.edge (order_from ears left))
      | inr d ↦ there x.edge e (order_from ears left) (all_leave edges (without x.edge remaining) ears left
          r.1 e (without_contains x.edge remaining e h d))
    ]

pub from_remaining : (edges remaining : List ℕ) (ears : List Ear) (left : List ℕ) →
    Removes edges remaining ears left → (e : ℕ) → Contains (order_from ears left) e → Contains remaining e
from_remaining edges remaining [] left r e h = subst (λ xs. Contains xs e) r h
from_remaining edges remaining (x ∷ ears) left r e h =
    elim (cons_cases x.edge (order_from ears left) e h) [
      | inl s ↦ subst (Contains remaining) (sym s) r.0.is_ear.edge_remains
      | inr k ↦ (within_without x.edge remaining e
          (from_remaining edges (without x.edge remaining) ears left r.1 e k)).0
    ]

-- what leaves after an ear is another edge
later_differs : (edges remaining : List ℕ) (x : Ear) (ears : List Ear) (left : List ℕ) →
    Removes edges remaining (x ∷ ears) left → (e : ℕ) → Contains (order_from ears left) e →
    Contains remaining e × (e ≢ x.edge)
later_differs edges remaining x ears left r e h =
    within_without x.edge remaining e (from_remaining edges (without x.edge remaining) ears left r.1 e h)

pub leave_once : (edges remaining : List ℕ) (ears : List Ear) (left : List ℕ) →
    Removes edges remaining ears left → AllPairs (λ a b. a < b) remaining →
    AllPairs (λ a b. a ≢ b) (order_from ears left)
leave_once edges remaining [] left r up =
    let rises = subst (AllPairs (λ a b. a < b)) (sym r) up in
    λ i j d h k s. let low = rises i j d h k in omega arith
leave_once edges remaining (x ∷ ears) left r up =
    AllPairs-cons (λ a b. a ≢ b) x.edge (order_from ears left)
    (λ k d h s. (later_differs edges remaining x ears left r (get_or (order_from ears left) k d)
    (Contains-get_or (order_from ears left) k d h)).1 (sym s))
    (leave_once edges (without x.edge remaining) ears left r.1 (without_rises x.edge remaining up))

pub parents_differ : (edges remaining : List ℕ) (ears : List Ear) (left : List ℕ) →
    Removes edges remaining ears left → All (λ ear. ear.edge ≢ ear.parent) ears
parents_differ edges remaining [] left r k d h = absurd (omega arith)
parents_differ edges remaining (x ∷ ears) left r zero d h = r.0.is_ear.apart
parents_differ edges remaining (x ∷ ears) left r (suc k) d h = parents_differ edges (without x.edge remaining)
    ears left r.1 k d (omega arith)

pub parent_stays : (edges remaining : List ℕ) (ears : List Ear) (left : List ℕ) →
    Removes edges remaining ears left → (i : ℕ) (d : Ear) → i < length ears →
    Contains (drop (suc i) (order_from ears left)) (get_or ears i d).parent
parent_stays edges remaining [] left r i d h = absurd (omega arith)
parent_stays edges remaining (x ∷ ears) left r zero d h =
    all_leave edges (without x.edge remaining) ears left r.1 x.parent
    (without_contains x.edge remaining x.parent r.0.is_ear.parent_remains (λ s. r.0.is_ear.apart (sym s)))
parent_stays edges remaining (x ∷ ears) left r (suc i) d h = parent_stays edges (without x.edge remaining)
    ears left r.1 i d (omega arith)

pub parent_holds : (edges remaining : List ℕ) (ears : List Ear) (left : List ℕ) →
    Removes edges remaining ears left → (i : ℕ) (d : Ear) (class other : ℕ) → i < length ears →
    Contains (drop (suc i) (order_from ears left)) other → Holds edges (get_or ears i d).edge class →
    Holds edges other class → Holds edges (get_or ears i d).parent class
parent_holds edges remaining [] left r i d class other h k a b = absurd (omega arith)
parent_holds edges remaining (x ∷ ears) left r zero d class other h k a b =
    let known = later_differs edges remaining x ears left r other k in
    r.0.is_ear.serves class other known.0 known.1 a b
parent_holds edges remaining (x ∷ ears) left r (suc i) d class other h k a b =
    parent_holds edges (without x.edge remaining) ears left r.1 i d class other (omega arith) k a b

parent_remains : (edges remaining : List ℕ) (ears : List Ear) (left : List ℕ) →
    Removes edges remaining ears left → (i : ℕ) (d : Ear) → i < length ears →
    Contains remaining (get_or ears i d).parent
parent_remains edges remaining [] left r i d h = absurd (omega arith)
parent_remains edges remaining (x ∷ ears) left r zero d h = r.0.is_ear.parent_remains
parent_remains edges remaining (x ∷ ears) left r (suc i) d h =
    (within_without x.edge remaining _ (parent_remains edges (without x.edge remaining) ears left
    r.1 i d (omega arith))).0

pub still_edges : (edges remaining : List ℕ) (ears : List Ear) (left : List ℕ) →
    Removes edges remaining ears left → (e : ℕ) → Contains left e → Contains remaining e
still_edges edges remaining [] left r e h = subst (λ xs. Contains xs e) r h
still_edges edges remaining (x ∷ ears) left r e h =
    (within_without x.edge remaining e (still_edges edges (without x.edge remaining) ears left r.1 e h)).0

-- ---- the edges of a plan's parts

pub core_edges : (plan : Removal) → IsRemoval plan → All (λ e. e < length plan.edges) plan.core
core_edges plan r k d h =
    within_range (length plan.edges) (get_or plan.core k d)
    (still_edges plan.edges (edge_numbers plan.edges) plan.removed plan.core r.removes (get_or plan.core k d)
    (Contains-get_or plan.core k d h))

ear_remains : (edges remaining : List ℕ) (ears : List Ear) (left : List ℕ) →
    Removes edges remaining ears left → (i : ℕ) (d : Ear) → i < length ears →
    Contains remaining (get_or ears i d).edge
ear_remains edges remaining [] left r i d h = absurd (omega arith)
ear_remains edges remaining (x ∷ ears) left r zero d h = r.0.is_ear.edge_remains
ear_remains edges remaining (x ∷ ears) left r (suc i) d h =
    (within_without x.edge remaining _ (ear_remains edges (without x.edge remaining) ears left
    r.1 i d (omega arith))).0

pub removed_edges : (plan : Removal) → IsRemoval plan → All (λ ear. ear.edge < length plan.edges) plan.removed
removed_edges plan r k d h =
    within_range (length plan.edges) (get_or plan.removed k d).edge
    (ear_remains plan.edges (edge_numbers plan.edges) plan.removed plan.core r.removes k d h)

core_is_filled : (plan : Removal) → IsRemoval plan → (core : List ℕ) → plan.core ≡ core →
    0 < length plan.edges → 0 < length core
core_is_filled plan r [] e h =
    let gone = none_left plan.edges (edge_numbers plan.edges) plan.removed
    (subst (Removes plan.edges (edge_numbers plan.edges) plan.removed) e r.removes) in
    absurd (not_in_nil 0 (subst (λ xs. Contains xs 0) gone (range_contains (length plan.edges) 0 h)))
core_is_filled plan r (x ∷ core) e h = omega arith

pub IsWalkable-removal : (plan : Removal) → IsRemoval plan → IsWalkable plan
IsWalkable-removal plan r =
    let n = length plan.edges in
    let all = edge_numbers plan.edges in
    record {
      all_leave = λ e h. all_leave plan.edges all plan.removed plan.core r.removes e (range_contains n e h);
      leave_once = leave_once plan.edges all plan.removed plan.core r.removes (range_rises n);
      ears_are_edges = removed_edges plan r;
      core_is_edges = core_edges plan r;
      core_rises = left_rises plan.edges all plan.removed plan.core r.removes (range_rises n);
      core_is_filled = core_is_filled plan r plan.core refl;
      parents_are_edges = λ k d h. within_range n (get_or plan.removed k d).parent
          (parent_remains plan.edges all plan.removed plan.core r.removes k d h);
      parents_differ = parents_differ plan.edges all plan.removed plan.core r.removes;
      parent_stays = parent_stays plan.edges all plan.removed plan.core r.removes;
      parent_holds = parent_holds plan.edges all plan.removed plan.core r.removes;
    }

-- ---- the removal is the only one

same_ear : (x y : Ear) → x.edge ≡ y.edge → x.parent ≡ y.parent → x ≡ y
same_ear x y e p = λ i. record { edge = e i; parent = p i }

same_first : (edges remaining : List ℕ) (x y : Ear) → IsFirstEar edges remaining x.edge x.parent →
    IsFirstEar edges remaining y.edge y.parent → x ≡ y
same_first edges remaining x y a b =
    let low = a.least_edge y.edge y.parent b.is_ear in
    let high = b.least_edge x.edge x.parent a.is_ear in
    let edge : x.edge ≡ y.edge = omega arith in
    let under = a.least_parent y.parent (subst (λ e. IsEar edges remaining e y.parent) (sym edge) b.is_ear) in
    let over = b.least_parent x.parent (subst (λ e. IsEar edges remaining e x.parent) edge a.is_ear) in
    same_ear x y edge (omega arith)

same_from : (edges remaining : List ℕ) (xs : List Ear) (left : List ℕ) (ys : List Ear) (rest : List ℕ) →
    Removes edges remaining xs left → ((e f : ℕ) → IsEar edges left e f → ⊥) →
    Removes edges remaining ys rest → ((e f : ℕ) → IsEar edges rest e f → ⊥) → (xs ≡ ys) × (left ≡ rest)
same_from edges remaining [] left [] rest r a q b = (refl, r ∙ sym q)
same_from edges remaining [] left (y ∷ ys) rest r a q b =
    absurd (a y.edge y.parent (subst (λ zs. IsEar edges zs y.edge y.parent) (sym r) q.0.is_ear))
same_from edges remaining (x ∷ xs) left [] rest r a q b =
    absurd (b x.edge x.parent (subst (λ zs. IsEar edges zs x.edge x.parent) (sym q) r.0.is_ear))
same_from edges remaining (x ∷ xs) left (y ∷ ys) rest r a q b =
    let same = same_first edges remaining x y r.0 q.0 in
    let (more, end) = same_from edges (without x.edge remaining) xs left ys rest r.1 a
    (subst (λ z. Removes edges (without z.edge remaining) ys rest) (sym same) q.1) b in
    (ap (λ z. z ∷ xs) same ∙ ap (λ zs. y ∷ zs) more, end)

same_plan : (plan other : Removal) → plan.edges ≡ other.edges → plan.removed ≡ other.removed →
    plan.core ≡ other.core → other ≡ plan
same_plan plan other e r c = sym (λ i. record { edges = e i; removed = r i; core = c i })

-- a hypergraph has one removal
pub IsRemoval-unique : (plan other : Removal) → IsRemoval plan → IsRemoval other →
    other.edges ≡ plan.edges → other ≡ plan
IsRemoval-unique plan other a b e =
    let (ears, core) = same_from plan.edges (edge_numbers plan.edges) plan.removed plan.core other.removed
    other.core a.removes a.ends
    (subst (λ edges. Removes edges (edge_numbers edges) other.removed other.core) e b.removes)
    (subst (λ edges. (x y : ℕ) → IsEar edges other.core x y → ⊥) e b.ends) in
    same_plan plan other (sym e) ears core
