-- A hypergraph has a join tree exactly where ear removal leaves one edge.
use Rattle.std.proofs.Common.{◌≡◌, ◌≢◌, ℕ, zero, suc, ◌+◌, ◌-◌, ◌<◌, ◌≤◌, ◌⊎◌, ◌↔◌, true, cond, eqb, leb}
use Rattle.std.proofs.Common.{List, [], ◌∷◌, length, refl, sym, ap, ◌∙◌, subst, inl, inr, arith, eq-eqb}
use Rattle.std.proofs.Common.{ne_eqb, le_refl, leb-true, le-leb}
use mathlib.Core.Path.{fun_ext}
use Rattle.std.specs.List.{Contains, AllPairs}
use Rattle.std.specs.Int.{bit_at}
use Rattle.std.specs.Prelude.{slice_index}
use Rattle.std.proofs.lemmas.List.FromFn.{length-range_with_len}
use Rattle.std.proofs.lemmas.List.{nil_from_length}
use Rattle.pl_hyper.specs.declared.ear.Ear.{Ear}
use Rattle.pl_hyper.specs.Edges.{edge_numbers}
use Rattle.pl_hyper.specs.Ears.{IsEar, Removes, Removal, IsRemoval, parent_of, without}
use Rattle.pl_hyper.specs.JoinTree.{ancestor, IsJoinTree, IsAcyclic}
use Rattle.pl_hyper.proofs.Members.{same_or_not, here, there, cons_cases, not_in_nil, range_contains}
use Rattle.pl_hyper.proofs.Members.{within_range, range_rises, without_contains, within_without}
use Rattle.pl_hyper.proofs.Trees.{Tree, Served, But, single, carried, put_back, put_back-root}
use Rattle.pl_hyper.proofs.Trees.{put_back-parent, without_ear, no_ear_is_one}
use Rattle.pl_hyper.proofs.Removals.{left_rises, none_left, none_remained}

abbrev bits_of : List ℕ → ℕ → ℕ → ℕ
bits_of edges e c = bit_at (slice_index edges e) c

served : (edges remaining : List ℕ) (e f : ℕ) → IsEar edges remaining e f →
    Served (bits_of edges) (Contains remaining) e f
served edges remaining e f ear = record {
  ear = ear.edge_remains;
  parent_remains = ear.parent_remains;
  apart = ear.apart;
  serves = ear.serves;
}

is_ear : (edges remaining : List ℕ) (e f : ℕ) → Served (bits_of edges) (Contains remaining) e f →
    IsEar edges remaining e f
is_ear edges remaining e f s = record {
  edge_remains = s.ear;
  parent_remains = s.parent_remains;
  apart = s.apart;
  serves = s.serves;
}

-- ---- a tree over the remaining edges, through the removal

tree_left : (edges remaining : List ℕ) (ears : List Ear) (left : List ℕ) → Removes edges remaining ears left →
    Tree (bits_of edges) (Contains remaining) → Tree (bits_of edges) (Contains left)
tree_left edges remaining [] left r t = subst (λ xs. Tree (bits_of edges) (Contains xs)) (sym r) t
tree_left edges remaining (x ∷ ears) left r t =
    tree_left edges (without x.edge remaining) ears left r.1
    (carried (bits_of edges) (But (Contains remaining) x.edge) (Contains (without x.edge remaining))
    (λ e h. without_contains x.edge remaining e h.0 h.1) (within_without x.edge remaining)
    (without_ear (bits_of edges) (Contains remaining) x.edge x.parent
    (served edges remaining x.edge x.parent r.0.is_ear) t))

-- a tree over the remaining edges, with this root and with the parents that the removal gave
record Planted (edges remaining : List ℕ) (ears : List Ear) (root : ℕ) : Type 0 where
  pub tree : Tree (bits_of edges) (Contains remaining)
  pub root_is : tree.root ≡ root
  pub parents_are : (e : ℕ) → tree.parent e ≡ parent_of ears e

-- where one edge stays
alone : (edges : List ℕ) (x : ℕ) → Planted edges (x ∷ []) [] x
unfolding single
alone edges x = record {
  tree = single (bits_of edges) (Contains (x ∷ [])) x (here x [])
      (λ e h. elim (cons_cases x [] e h) [ inl s ↦ s | inr k ↦ absurd (not_in_nil e k) ]);
  root_is = refl;
  parents_are = λ e. refl;
}

-- an ear is put back below its parent
planted_more : (edges remaining : List ℕ) (x : Ear) (ears : List Ear) (root : ℕ) →
    IsEar edges remaining x.edge x.parent → Planted edges (without x.edge remaining) ears root →
    Planted edges remaining (x ∷ ears) root
unfolding carried
planted_more edges remaining x ears root ear p =
    let has = bits_of edges in
    let ear_served = served edges remaining x.edge x.parent ear in
    let t = carried has (Contains (without x.edge remaining)) (But (Contains remaining) x.edge)
    (within_without x.edge remaining) (λ e h. without_contains x.edge remaining e h.0 h.1) p.tree in
    record {
      tree = put_back has (Contains remaining) x.edge x.parent ear_served t;
      root_is = put_back-root has (Contains remaining) x.edge x.parent ear_served t ∙ p.root_is;
      parents_are = λ e. put_back-parent has (Contains remaining) x.edge x.parent ear_served t e ∙
          ap (λ f. cond (eqb e x.edge) x.parent f) (p.parents_are e);
    }

planted : (edges remaining : List ℕ) (ears : List Ear) (root : ℕ) → Removes edges remaining ears (root ∷ []) →
    Planted edges remaining ears root
planted edges remaining [] root r = subst (λ xs. Planted edges xs [] root) r (alone edges root)
planted edges remaining (x ∷ ears) root r = planted_more edges remaining x ears root r.0.is_ear
    (planted edges (without x.edge remaining) ears root r.1)

-- ---- a rank for parents that lead to the root, and back

abbrev Below : ℕ → ℕ → Type 0
Below n e = e < n

leads : (has : ℕ → ℕ → ℕ) (n : ℕ) (t : Tree has (Below n)) (m e : ℕ) → e < n → t.rank e ≤ m → (e ≡ t.root) ⊎
    (e ≢ t.root) → (steps : ℕ) × (ancestor t.parent steps e ≡ t.root)
leads has n t m e h le (inl s) = (0, s)
leads has n t zero e h le (inr d) = let low = t.falls e h d in absurd (omega arith)
leads has n t (suc m) e h le (inr d) =
    let low = t.falls e h d in
    let further = leads has n t m (t.parent e) (t.up e h d) (omega arith) (same_or_not (t.parent e) t.root) in
    (suc further.0, further.1)

IsJoinTree-tree : (edges : List ℕ) (t : Tree (bits_of edges) (Below (length edges))) →
    IsJoinTree edges t.root t.parent
IsJoinTree-tree edges t = record {
  is_tree = record {
    root_is_edge = t.at_root;
    parent_is_edge = t.up;
    leads_to_root = λ e h. leads (bits_of edges) (length edges) t (t.rank e) e h
        (le_refl (t.rank e)) (same_or_not e t.root);
  };
  connected = λ c e f a b. t.connected c e f a.is_edge b.is_edge
      (record { holds = a.holds; lacks = a.parent_lacks })
      (record { holds = b.holds; lacks = b.parent_lacks });
}

-- how many of at most `most` steps to the parent lead to the root
abbrev distance : (ℕ → ℕ) → ℕ → ℕ → ℕ → ℕ
distance parent root zero e = 0
distance parent root (suc most) e = cond (eqb e root) 0 (suc (distance parent root most (parent e)))

distance_root : (parent : ℕ → ℕ) (root most e : ℕ) → e ≡ root → distance parent root most e ≡ 0
distance_root parent root zero e s = refl
distance_root parent root (suc most) e s = rw (eq-eqb e root s)

distance_other : (parent : ℕ → ℕ) (root most e : ℕ) → e ≢ root →
    distance parent root (suc most) e ≡ suc (distance parent root most (parent e))
distance_other parent root most e n = rw (ne_eqb e root n)

-- more steps than lead to the root change nothing
distance_enough : (parent : ℕ → ℕ) (root steps more e : ℕ) → ancestor parent steps e ≡ root →
    (e ≡ root) ⊎ (e ≢ root) → distance parent root (steps + more) e ≡ distance parent root steps e
distance_enough parent root steps more e at (inl s) = distance_root parent root (steps + more) e s ∙
    sym (distance_root parent root steps e s)
distance_enough parent root zero more e at (inr n) = absurd (n at)
distance_enough parent root (suc steps) more e at (inr n) =
    let sum : suc steps + more ≡ suc (steps + more) = omega arith in
    rw sum (distance_other parent root (steps + more) e n ∙
    ap suc (distance_enough parent root steps more (parent e) at (same_or_not (parent e) root)) ∙
    sym (distance_other parent root steps e n))

-- as many steps as the edges below n need at most
record Enough (parent : ℕ → ℕ) (root n most : ℕ) : Type 0 where
  pub steps : (e : ℕ) → e < n → (k : ℕ) × (k ≤ most) × (ancestor parent k e ≡ root)

enough_more : (parent : ℕ → ℕ) (root n most : ℕ) → Enough parent root n most → (k : ℕ) →
    ancestor parent k n ≡ root → (e : ℕ) → e < suc n → (e ≡ n) ⊎ (e ≢ n) → (l : ℕ) × (l ≤ most + k) ×
    (ancestor parent l e ≡ root)
enough_more parent root n most all k at e h (inl s) =
    (k, omega arith, subst (λ x. ancestor parent k x ≡ root) (sym s) at)
enough_more parent root n most all k at e h (inr d) = let (l, le, is) = all.steps e (omega arith) in
    (l, omega arith, is)

enough : (parent : ℕ → ℕ) (root n : ℕ) → ((e : ℕ) → e < n → (k : ℕ) × (ancestor parent k e ≡ root)) →
    (most : ℕ) × Enough parent root n most
enough parent root zero leads = (0, record { steps = λ e h. absurd (omega arith) })
enough parent root (suc n) leads =
    let before = enough parent root n (λ e h. leads e (omega arith)) in
    let last = leads n (omega arith) in (
      before.0 + last.0,
      record {
        steps = λ e h. enough_more parent root n before.0 before.1 last.0 last.1
            e h (same_or_not e n);
      },
    )

falls_by : (parent : ℕ → ℕ) (root k more e : ℕ) → e ≢ root → ancestor parent k (parent e) ≡ root →
    distance parent root (suc (k + more)) (parent e) < distance parent root (suc (k + more)) e
falls_by parent root k more e d at =
    let deep = distance_other parent root (k + more) e d in
    let near = distance_enough parent root k more (parent e) at (same_or_not (parent e) root) in
    let far = distance_enough parent root k (suc more) (parent e) at (same_or_not (parent e) root) in
    let sum : k + suc more ≡ suc (k + more) = omega arith in
    let far' : distance parent root (suc (k + more)) (parent e) ≡ distance parent root k (parent e) =
    subst (λ m. distance parent root m (parent e) ≡ distance parent root k (parent e)) sum far in
    omega (arith, deep, near, far')

falls_from : (parent : ℕ → ℕ) (root most e : ℕ) → e ≢ root →
    ((k : ℕ) × (k ≤ most) × (ancestor parent k e ≡ root)) →
    distance parent root most (parent e) < distance parent root most e
falls_from parent root most e d (zero, le, at) = absurd (d at)
falls_from parent root most e d (suc k, le, at) =
    let sum : suc (k + (most - suc k)) ≡ most = omega arith in
    subst (λ m. distance parent root m (parent e) < distance parent root m e) sum
    (falls_by parent root k (most - suc k) e d at)

distance_falls : (parent : ℕ → ℕ) (root n most : ℕ) → Enough parent root n most → (e : ℕ) → e < n →
    parent e < n → e ≢ root → distance parent root most (parent e) < distance parent root most e
distance_falls parent root n most all e h up d = falls_from parent root most e d (all.steps e h)

tree_from_join_tree : (edges : List ℕ) (root : ℕ) (parent : ℕ → ℕ) → IsJoinTree edges root parent →
    Tree (bits_of edges) (Below (length edges))
tree_from_join_tree edges root parent j =
    let all = enough parent root (length edges) j.is_tree.leads_to_root in
    record {
      root = root;
      parent = parent;
      rank = distance parent root all.0;
      at_root = j.is_tree.root_is_edge;
      up = j.is_tree.parent_is_edge;
      falls = λ e h d. distance_falls parent root (length edges) all.0 all.1 e h
          (j.is_tree.parent_is_edge e h d) d;
      connected = λ c e f h k a b. j.connected c e f (record {
        is_edge = h;
        holds = a.holds;
        parent_lacks = a.lacks;
      }) (record { is_edge = k; holds = b.holds; parent_lacks = b.lacks });
    }

-- ---- the theorem

numbers-below : (edges : List ℕ) → Tree (bits_of edges) (Below (length edges)) →
    Tree (bits_of edges) (Contains (edge_numbers edges))
numbers-below edges t = carried (bits_of edges) (Below (length edges)) (Contains (edge_numbers edges))
    (range_contains (length edges)) (within_range (length edges)) t

no_numbers : (edges : List ℕ) → edge_numbers edges ≡ [] → edges ≡ []
no_numbers edges e = nil_from_length edges (sym (length-range_with_len 0 (length edges)) ∙ ap length e)

below_numbers : (edges : List ℕ) (ears : List Ear) (root : ℕ) → Planted edges (edge_numbers edges) ears root →
    IsJoinTree edges root (parent_of ears)
unfolding carried
below_numbers edges ears root p =
    let t = carried (bits_of edges) (Contains (edge_numbers edges)) (Below (length edges))
    (within_range (length edges)) (range_contains (length edges)) p.tree in
    let same : p.tree.parent ≡ parent_of ears = fun_ext p.parents_are in
    subst (λ f. IsJoinTree edges root f) same (subst (λ x. IsJoinTree edges x p.tree.parent) p.root_is
    (IsJoinTree-tree edges t))

-- where one edge stays, the parents of the ears make a join tree with it as the root
pub IsJoinTree-parents : (plan : Removal) (root : ℕ) → IsRemoval plan → plan.core ≡ root ∷ [] →
    IsJoinTree plan.edges root (parent_of plan.removed)
IsJoinTree-parents plan root r e =
    below_numbers plan.edges plan.removed root
    (planted plan.edges (edge_numbers plan.edges) plan.removed root
    (subst (Removes plan.edges (edge_numbers plan.edges) plan.removed) e r.removes))

acyclic_from_core : (plan : Removal) (core : List ℕ) → plan.core ≡ core → IsRemoval plan →
    length core ≤ 1 → IsAcyclic plan.edges
acyclic_from_core plan [] e r h = inl
    (no_numbers plan.edges (none_left plan.edges (edge_numbers plan.edges) plan.removed
    (subst (Removes plan.edges (edge_numbers plan.edges) plan.removed) e r.removes)))
acyclic_from_core plan (x ∷ []) e r h = inr (x, parent_of plan.removed, IsJoinTree-parents plan x r e)
acyclic_from_core plan (x ∷ y ∷ rest) e r h = absurd (omega arith)

core_of_tree : (edges : List ℕ) (core : List ℕ) → AllPairs (λ a b. a < b) core →
    ((e f : ℕ) → IsEar edges core e f → ⊥) → Tree (bits_of edges) (Contains core) → length core ≤ 1
core_of_tree edges [] up none t = omega arith
core_of_tree edges (x ∷ []) up none t = omega arith
core_of_tree edges (x ∷ y ∷ rest) up none t =
    let alone = no_ear_is_one (bits_of edges) x (y ∷ rest) t
    (λ e f s. none e f (is_ear edges (x ∷ y ∷ rest) e f s)) in
    let first = alone x (here x (y ∷ rest)) in
    let second = alone y (there x y (y ∷ rest) (here y rest)) in
    let low = up 0 1 0 (omega arith) (omega arith) in
    absurd (omega arith)

core_from_acyclic : (plan : Removal) → IsRemoval plan → IsAcyclic plan.edges → length plan.core ≤ 1
core_from_acyclic plan r (inl e) =
    let nothing : edge_numbers plan.edges ≡ [] = ap edge_numbers e in
    let gone = none_remained plan.edges plan.removed plan.core
    (subst (λ xs. Removes plan.edges xs plan.removed plan.core) nothing r.removes) in
    let short : length plan.core ≡ 0 = ap length gone in
    omega arith
core_from_acyclic plan r (inr (root, parent, j)) =
    core_of_tree plan.edges plan.core
    (left_rises plan.edges (edge_numbers plan.edges) plan.removed plan.core r.removes
    (range_rises (length plan.edges)))
    r.ends
    (tree_left plan.edges (edge_numbers plan.edges) plan.removed plan.core r.removes
    (numbers-below plan.edges (tree_from_join_tree plan.edges root parent j)))

-- one edge stays at most exactly where the hypergraph is acyclic
pub IsAcyclic-core : (plan : Removal) → IsRemoval plan → (length plan.core ≤ 1) ↔ IsAcyclic plan.edges
IsAcyclic-core plan r = (acyclic_from_core plan plan.core refl r, core_from_acyclic plan r)

-- the same, of the test that counts the core
pub IsAcyclic-test : (plan seen : Removal) (n : ℕ) → plan ≡ seen → n ≡ length plan.core → IsRemoval plan →
    (leb n 1 ≡ true) ↔ IsAcyclic seen.edges
IsAcyclic-test plan seen n e m r =
    let both = IsAcyclic-core plan r in (
      λ h. subst (λ p. IsAcyclic p.edges) e (both.0 (let low = leb-true n 1 h in omega arith)),
      λ a. le-leb n 1 (let low = both.1 (subst (λ p. IsAcyclic p.edges) (sym e) a) in omega arith),
    )

-- the join tree, seen through the plan's value
pub IsJoinTree-seen : (plan seen : Removal) → plan ≡ seen → IsRemoval plan → (root : ℕ) →
    seen.core ≡ root ∷ [] → IsJoinTree seen.edges root (parent_of seen.removed)
IsJoinTree-seen plan seen e r root one = IsJoinTree-parents seen root (subst IsRemoval e r) one
