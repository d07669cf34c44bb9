-- The removal of ears as a function is the one removal that the edges have.
use Rattle.std.proofs.Common.{◌≡◌, ◌≢◌, ℕ, ◌<◌, ◌≤◌, zero, suc, Bool, true, false, not, cond, ◌||◌, ◌==◌}
use Rattle.std.proofs.Common.{List, [], ◌∷◌, Option, Some, None, length, refl, sym, ◌∙◌, ap, subst, arith}
use Rattle.std.proofs.Common.{inl, inr, Contains, eqb-true, eq-eqb, ne_eqb}
use Rattle.std.specs.Prelude.{slice_index}
use Rattle.std.specs.List.{list_all, find, AllPairs}
use Rattle.std.proofs.lemmas.Bool.{and_parts, and_from, or_cases, false≢true}
use Rattle.std.proofs.lemmas.List.FromFn.{length-range_with_len}
use Rattle.pl_rows.proofs.Canonical.{Contains-cons_cases, Contains-cons_first, Contains-cons_rest}
use Rattle.pl_rows.proofs.Canonical.{Contains-nil}
use Rattle.pl_hyper.specs.declared.ear.Ear.{Ear}
use Rattle.pl_hyper.specs.Edges.{edge_numbers}
use Rattle.pl_hyper.specs.Ears.{IsEar, IsFirstEar, Removes, Removal, IsRemoval, without}
use Rattle.pl_hyper.proofs.Members.{same_or_not, without_rises, range_rises, rises_tail, rises_head}
use Rattle.pl_hyper.proofs.Removals.{Removes-push, IsRemoval-unique}
use Rattle.pl_normal.specs.EarRemoval.{serves, is_parent, ear_or, first_ear_among, Underway, without_ear}
use Rattle.pl_normal.specs.EarRemoval.{ears_removed, ear_removal}
use Rattle.pl_normal.proofs.Lists.{passes_all, all_pass, found, not_found}
use Rattle.pl_normal.proofs.Sets.{serves-is}
use Rattle.std.proofs.lemmas.Bool.{or_right}

abbrev serves_at : List ℕ → ℕ → ℕ → ℕ → Bool
serves_at edges edge parent other = (other == edge) || serves (slice_index edges edge)
    (slice_index edges other) (slice_index edges parent)

not_equal : (a b : ℕ) → not (a == b) ≡ true → a ≢ b
not_equal a b h e = false≢true (ap not (sym (eq-eqb a b e)) ∙ h)

equal_not : (a b : ℕ) → a ≢ b → not (a == b) ≡ true
equal_not a b n = ap not (ne_eqb a b n)

-- what the test of a parent says
parent_serves : (edges remaining : List ℕ) (edge parent : ℕ) → Contains remaining edge
    → Contains remaining parent → is_parent edges remaining edge parent ≡ true
    → IsEar edges remaining edge parent
parent_serves edges remaining edge parent e p h =
    let both = and_parts (not (edge == parent)) (list_all (serves_at edges edge parent) remaining) h in
    record {
      edge_remains = e;
      parent_remains = p;
      apart = not_equal edge parent both.0;
      serves = λ class other c d a b.
          elim (or_cases (other == edge)
          (serves (slice_index edges edge) (slice_index edges other) (slice_index edges parent))
          (passes_all (serves_at edges edge parent) remaining other both.1 c)) [
            | inl same ↦ absurd (d (eqb-true other edge same))
            | inr is ↦ (serves-is (slice_index edges edge) (slice_index edges other)
                (slice_index edges parent)).0 is class a b
          ];
    }

ear_tested : (edges remaining : List ℕ) (edge parent : ℕ) → IsEar edges remaining edge parent
    → is_parent edges remaining edge parent ≡ true
ear_tested edges remaining edge parent is =
    and_from (not (edge == parent)) (list_all (serves_at edges edge parent) remaining)
    (equal_not edge parent is.apart)
    (all_pass (serves_at edges edge parent) remaining (λ other c. elim (same_or_not other edge) [
      | inl same ↦ ap
          (λ b. b || serves (slice_index edges edge) (slice_index edges other) (slice_index edges parent))
          (eq-eqb other edge same)
      | inr d ↦ or_right (other == edge) _
          ((serves-is (slice_index edges edge) (slice_index edges other) (slice_index edges parent)).1
          (λ class a b. is.serves class other c d a b))
    ]))

-- the first of some edges that is an ear
record IsFirstAmong (edges remaining es : List ℕ) (ear : Ear) : Type 0 where
  member : Contains es ear.edge
  parent : find (is_parent edges remaining ear.edge) remaining ≡ Some ear.parent
  least : (e f : ℕ) → Contains es e → find (is_parent edges remaining e) remaining ≡ Some f → ear.edge ≤ e

some_ear : (a b : Ear) → Some a ≡ Some b → a ≡ b
some_ear a b h = cc

among_cons : (edges remaining : List ℕ) (e : ℕ) (es : List ℕ) (ear : Ear) (parent : Option ℕ)
    → find (is_parent edges remaining e) remaining ≡ parent → AllPairs (λ a b. a < b) (e ∷ es) →
    (first_ear_among edges remaining es ≡ Some ear → IsFirstAmong edges remaining es ear)
    → ear_or e parent (first_ear_among edges remaining es) ≡ Some ear
    → IsFirstAmong edges remaining (e ∷ es) ear
among_cons edges remaining e es ear None s up next h =
    let is = next h in record {
      member = Contains-cons_rest e es ear.edge is.member;
      parent = is.parent;
      least = λ g f c k. elim (Contains-cons_cases e es g c) [
        | inl same ↦ absurd
            (none_some f (sym (subst (λ x. find (is_parent edges remaining x) remaining ≡ None) same s) ∙ k))
        | inr r ↦ is.least g f r k
      ];
    }
  where
    none_some : (f : ℕ) → None ≡ Some f → ⊥
    none_some f q = cc
among_cons edges remaining e es ear (Some parent) s up next h =
    let is : record { edge = e; parent = parent } ≡ ear = some_ear _ ear h in
    subst (IsFirstAmong edges remaining (e ∷ es)) is (record {
      member = Contains-cons_first e es;
      parent = s;
      least = λ g f c k. elim (Contains-cons_cases e es g c) [
        | inl same ↦ omega arith
        | inr r ↦ (let above = rises_head e es up g r in omega arith)
      ];
    })

first_among : (edges remaining es : List ℕ) (ear : Ear) → AllPairs (λ a b. a < b) es
    → first_ear_among edges remaining es ≡ Some ear → IsFirstAmong edges remaining es ear
first_among edges remaining [] ear up h = absurd (none_some h)
  where
    none_some : None ≡ Some ear → ⊥
    none_some q = cc
first_among edges remaining (e ∷ es) ear up h =
    among_cons edges remaining e es ear (find (is_parent edges remaining e) remaining) refl up
    (λ k. first_among edges remaining es ear (rises_tail e es up) k) h

none_cons : (edges remaining : List ℕ) (e : ℕ) (es : List ℕ) (parent : Option ℕ)
    → find (is_parent edges remaining e) remaining ≡ parent → (g : ℕ) →
    (first_ear_among edges remaining es ≡ None → Contains es g
    → find (is_parent edges remaining g) remaining ≡ None)
    → ear_or e parent (first_ear_among edges remaining es) ≡ None → Contains (e ∷ es) g
    → find (is_parent edges remaining g) remaining ≡ None
none_cons edges remaining e es None s g next h c = elim (Contains-cons_cases e es g c) [
  | inl same ↦ subst (λ x. find (is_parent edges remaining x) remaining ≡ None) same s
  | inr r ↦ next h r
]
none_cons edges remaining e es (Some parent) s g next h c = cc

none_among : (edges remaining es : List ℕ) (g : ℕ) → first_ear_among edges remaining es ≡ None → Contains es g
    → find (is_parent edges remaining g) remaining ≡ None
none_among edges remaining [] g h c = absurd (Contains-nil g c)
none_among edges remaining (e ∷ es) g h c =
    none_cons edges remaining e es (find (is_parent edges remaining e) remaining) refl g
    (λ k d. none_among edges remaining es g k d) h c

-- a parent of an ear is found, at the latest this one
parent_found : (edges remaining : List ℕ) (e f : ℕ) (parent : Option ℕ)
    → find (is_parent edges remaining e) remaining ≡ parent → IsEar edges remaining e f → (p : ℕ)
    × (find (is_parent edges remaining e) remaining ≡ Some p)
parent_found edges remaining e f None s is =
    absurd (not_found (is_parent edges remaining e) remaining f s is.parent_remains
    (ear_tested edges remaining e f is))
parent_found edges remaining e f (Some p) s is = (p, s)

is_first : (edges remaining : List ℕ) (ear : Ear) → AllPairs (λ a b. a < b) remaining
    → first_ear_among edges remaining remaining ≡ Some ear → IsFirstEar edges remaining ear.edge ear.parent
is_first edges remaining ear up h =
    let first = first_among edges remaining remaining ear up h in
    let parent = found (is_parent edges remaining ear.edge) remaining ear.parent up first.parent in record {
      is_ear = parent_serves edges remaining ear.edge ear.parent first.member parent.member parent.passes;
      least_edge = λ e f is.
          (let (p, at) = parent_found edges remaining e f _ refl is in first.least e p is.edge_remains at);
      least_parent = λ f is. parent.least f is.parent_remains (ear_tested edges remaining ear.edge f is);
    }

no_first : (edges remaining : List ℕ) → first_ear_among edges remaining remaining ≡ None → (e f : ℕ)
    → IsEar edges remaining e f → ⊥
no_first edges remaining h e f is =
    not_found (is_parent edges remaining e) remaining f
    (none_among edges remaining remaining e h is.edge_remains) is.parent_remains
    (ear_tested edges remaining e f is)

-- ---- the loop

kept_or_not : (x : ℕ) (xs ys : List ℕ) (b : Bool) → length ys ≤ length xs
    → length (cond b (x ∷ ys) ys) ≤ suc (length xs)
kept_or_not x xs ys true h = omega arith
kept_or_not x xs ys false h = omega arith

without_fewer : (e : ℕ) (xs : List ℕ) → length (without e xs) ≤ length xs
without_fewer e [] = omega arith
without_fewer e (x ∷ xs) = kept_or_not x xs (without e xs) (not (x == e)) (without_fewer e xs)

less_kept : (x : ℕ) (xs ys : List ℕ) (b : Bool) → length ys < length xs
    → length (cond b (x ∷ ys) ys) < suc (length xs)
less_kept x xs ys true h = omega arith
less_kept x xs ys false h = omega arith

less_dropped : (x : ℕ) (xs ys : List ℕ) (b : Bool) → b ≡ false → length ys ≤ length xs
    → length (cond b (x ∷ ys) ys) < suc (length xs)
less_dropped x xs ys true e h = absurd (false≢true (sym e))
less_dropped x xs ys false e h = omega arith

without_less : (e : ℕ) (xs : List ℕ) → Contains xs e → length (without e xs) < length xs
without_less e [] c = absurd (Contains-nil e c)
without_less e (x ∷ xs) c = elim (Contains-cons_cases x xs e c) [
  | inl same ↦ less_dropped x xs (without e xs) (not (x == e)) (ap not (eq-eqb x e same)) (without_fewer e xs)
  | inr r ↦ less_kept x xs (without e xs) (not (x == e)) (without_less e xs r)
]

-- a removal that is under way, from the edges that remained at first
record IsUnderway (edges remaining : List ℕ) (under : Underway) : Type 0 where
  removes : Removes edges remaining under.removed under.remaining
  rises : AllPairs (λ a b. a < b) under.remaining

-- a removal that is at its end
record IsAtEnd (edges remaining : List ℕ) (under : Underway) : Type 0 where
  removes : Removes edges remaining under.removed under.remaining
  ends : (e f : ℕ) → IsEar edges under.remaining e f → ⊥

none_left : (n : ℕ) (xs : List ℕ) (x : ℕ) → length xs ≤ n → n ≡ 0 → Contains xs x → ⊥
none_left n xs x h e (k, below, at) = omega arith

ear_gone : (edges remaining : List ℕ) (under : Underway) (first : Option Ear)
    → first_ear_among edges under.remaining under.remaining ≡ first → IsUnderway edges remaining under
    → IsUnderway edges remaining (without_ear under first)
ear_gone edges remaining under None at is = is
ear_gone edges remaining under (Some ear) at is = record {
  removes = Removes-push edges remaining under.removed under.remaining ear is.removes
      (is_first edges under.remaining ear is.rises at);
  rises = without_rises ear.edge under.remaining is.rises;
}

ears_stay : (edges : List ℕ) (n : ℕ) (under : Underway)
    → first_ear_among edges under.remaining under.remaining ≡ None → ears_removed edges n under ≡ under
ears_stay edges zero under at = refl
ears_stay edges (suc n) under at = ap (λ first. ears_removed edges n (without_ear under first)) at
    ∙ ears_stay edges n under at

removed_next : (edges remaining : List ℕ) (n : ℕ) (under : Underway) (first : Option Ear)
    → first_ear_among edges under.remaining under.remaining ≡ first → length under.remaining ≤ suc n
    → IsUnderway edges remaining under →
    ((next : Underway) → length next.remaining ≤ n → IsUnderway edges remaining next
    → IsAtEnd edges remaining (ears_removed edges n next))
    → IsAtEnd edges remaining (ears_removed edges n (without_ear under first))
removed_next edges remaining n under None at few is later =
    subst (IsAtEnd edges remaining) (sym (ears_stay edges n under at))
    (record { removes = is.removes; ends = no_first edges under.remaining at })
removed_next edges remaining n under (Some ear) at few is later =
    later (without_ear under (Some ear))
    (fewer (without_less ear.edge under.remaining
    (is_first edges under.remaining ear is.rises at).is_ear.edge_remains))
    (ear_gone edges remaining under (Some ear) at is)
  where
    fewer : length (without ear.edge under.remaining) < length under.remaining
        → length (without ear.edge under.remaining) ≤ n
    fewer h = omega arith

removed_all : (edges remaining : List ℕ) (n : ℕ) (under : Underway) → length under.remaining ≤ n
    → IsUnderway edges remaining under → IsAtEnd edges remaining (ears_removed edges n under)
removed_all edges remaining zero under few is = record {
  removes = is.removes;
  ends = λ e f ear. none_left 0 under.remaining e few refl ear.edge_remains;
}
removed_all edges remaining (suc n) under few is =
    removed_next edges remaining n under (first_ear_among edges under.remaining under.remaining) refl few is
    (λ next h k. removed_all edges remaining n next h k)

-- the function gives a removal
pub ear_removal-is : (edges : List ℕ) → IsRemoval (ear_removal edges)
unfolding ear_removal
ear_removal-is edges =
    let long = length-range_with_len 0 (length edges) in
    let all : Underway = record { removed = []; remaining = edge_numbers edges } in
    let end = removed_all edges (edge_numbers edges) (length edges) all (omega arith)
    (record { removes = refl; rises = range_rises (length edges) }) in record {
      removes = end.removes;
      ends = end.ends;
    }

pub ear_removal-edges : (edges : List ℕ) → (ear_removal edges).edges ≡ edges
unfolding ear_removal
ear_removal-edges edges = refl

-- and there is no other
pub one_removal : (plan : Removal) → IsRemoval plan → plan ≡ ear_removal plan.edges
one_removal plan is = IsRemoval-unique (ear_removal plan.edges) plan (ear_removal-is plan.edges) is
    (sym (ear_removal-edges plan.edges))
