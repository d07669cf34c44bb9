-- The sets of a state's fluent atoms, by their keys.
use Rattle.std.proofs.Common.{◌≡◌, ◌⊎◌, ◌<◌, ◌≤◌, ℕ, true, List, [], ◌∷◌, ◌++◌, map, length, refl, sym, subst}
use Rattle.std.proofs.Common.{inl, inr, Contains, IsTrue, arith}
use Rattle.std.specs.declared.cmp.Ordering.TheVariants.{Less}
use Rattle.std.proofs.lemmas.List.Elements.{All-contains, All-head, All-tail, Contains-append_left}
use Rattle.std.proofs.lemmas.List.Elements.{Contains-append_right, Contains-append_cases}
use Rattle.pl_rows.specs.Rows.{row_cmp}
use Rattle.pl_task.specs.declared.data.Atom.{Atom}
use Rattle.pl_task.specs.declared.task.Task.{Task}
use Rattle.pl_task.specs.States.{State}
use Rattle.pl_state.specs.StateOf.{is_fluent_in}
use Rattle.pl_state.proofs.Readings.{fluent_within}
use Rattle.pl_registry.proofs.Lists.{Contains-nil, Contains-map, Contains-map_cases}
use Rattle.pl_novel.specs.AtomSets.{key_of, IsSetOf}
use Rattle.pl_novel.specs.Keys.{atom_by, pairs_under, one_set, two_set, AreKeysBelow}
use Rattle.pl_novel.proofs.Lists.{pairs_under-low, pairs_under-high}
use Rattle.pl_novel.proofs.Pairs.{pair_ordered, ordered_pair, one_is_set, two_is_set, one_all, two_all}

-- the sets of one atom, and under width 2 those of two
abbrev pub state_sets : ℕ → List (List ℕ) → List (List Atom)
state_sets k keys = map one_set keys ++ pairs_under k two_set keys

pub one_or_two : (k : ℕ) → 1 ≤ k → (k < 2) ⊎ (2 ≤ k)
one_or_two k l = grind arith

module _ (task : Task) (s : State) (keys : List (List ℕ))
    (are : AreKeysBelow task s (length task.predicates) keys) where
  -- what a key says of its atom
  pub record IsKeyOfState (key : List ℕ) : Type 0 where
    pub fluent : is_fluent_in task (atom_by key).predicate ≡ true
    pub held : s (atom_by key) ≡ true
    pub back : key_of (atom_by key) ≡ key

  key_says : (key : List ℕ) → Contains keys key → IsKeyOfState key
  key_says [] h =
      absurd (let l = All-contains (λ key. 0 < length key) keys [] are.atoms h in omega (arith, l))
  key_says (p ∷ o) h = let k = (are.members p o).0 h in
      record { fluent = k.fluent; held = k.held; back = refl }

  -- a fluent atom of the state has its key there
  pub has_key : (a : Atom) → is_fluent_in task a.predicate ≡ true → s a ≡ true → Contains keys (key_of a)
  has_key a fluent held = (are.members a.predicate a.objects).1
      (record { low = fluent_within task a.predicate fluent; fluent = fluent; held = held })

  pub one_in : (k : ℕ) (key : List ℕ) → 1 ≤ k → Contains keys key → IsSetOf task k s (one_set key)
  one_in k key some h =
      let says = key_says key h in
      record {
        atoms = one_is_set k (atom_by key) some;
        fluent = one_all (λ (a : Atom). is_fluent_in task a.predicate ≡ true) (atom_by key) says.fluent;
        has = one_all (λ a. IsTrue (s a)) (atom_by key) says.held;
      }

  pub two_in : (k : ℕ) (low high : List ℕ) → 2 ≤ k → Contains keys low → Contains keys high
      → row_cmp low high ≡ Less → IsSetOf task k s (two_set low high)
  two_in k low high some l h less =
      let a = key_says low l in
      let b = key_says high h in
      record {
        atoms = two_is_set k (atom_by low) (atom_by high) some
            (subst (λ x. row_cmp x (key_of (atom_by high)) ≡ Less) (sym a.back)
            (subst (λ y. row_cmp low y ≡ Less) (sym b.back) less));
        fluent = two_all (λ (x : Atom). is_fluent_in task x.predicate ≡ true) (atom_by low)
            (atom_by high) a.fluent b.fluent;
        has = two_all (λ x. IsTrue (s x)) (atom_by low) (atom_by high) a.held b.held;
      }

  -- they are sets of the state's fluent atoms
  pub set_in_state : (k : ℕ) (set : List Atom) → 1 ≤ k → Contains (state_sets k keys) set
      → IsSetOf task k s set
  set_in_state k set some h =
      elim (Contains-append_cases (map one_set keys) (pairs_under k two_set keys) set h) [
        | inl one ↦ (let (key, m, e) = Contains-map_cases one_set keys set one in
            subst (IsSetOf task k s) e (one_in k key some m))
        | inr two ↦ elim (one_or_two k some) [
          | inl low ↦ absurd
              (Contains-nil set (subst (λ l. Contains l set) (pairs_under-low k two_set keys low) two))
          | inr high ↦ (let p = pair_ordered two_set keys set are.ascending
              (subst (λ l. Contains l set) (pairs_under-high k two_set keys high) two) in
              subst (IsSetOf task k s) p.is (two_in k p.low p.high high p.low_in p.high_in p.below))
        ]
      ]

  -- and these are all
  pub state_has_set : (k : ℕ) (set : List Atom) → k ≤ 2 → IsSetOf task k s set
      → Contains (state_sets k keys) set
  state_has_set k [] few is = absurd (let l = is.atoms.some in omega (arith, l))
  state_has_set k (a ∷ []) few is =
      Contains-append_left (map one_set keys) (pairs_under k two_set keys) (a ∷ [])
      (Contains-map one_set keys (key_of a)
      (has_key a (All-head (λ (x : Atom). is_fluent_in task x.predicate ≡ true) a [] is.fluent)
      (All-head (λ x. IsTrue (s x)) a [] is.has)))
  state_has_set k (a ∷ b ∷ []) few is =
      let first = has_key a
      (All-head (λ (x : Atom). is_fluent_in task x.predicate ≡ true) a (b ∷ []) is.fluent)
      (All-head (λ x. IsTrue (s x)) a (b ∷ []) is.has) in
      let second = has_key b
      (All-head (λ (x : Atom). is_fluent_in task x.predicate ≡ true) b []
      (All-tail (λ (x : Atom). is_fluent_in task x.predicate ≡ true) a (b ∷ []) is.fluent))
      (All-head (λ x. IsTrue (s x)) b [] (All-tail (λ x. IsTrue (s x)) a (b ∷ []) is.has)) in
      Contains-append_right (map one_set keys) (pairs_under k two_set keys) (a ∷ b ∷ [])
      (subst (λ l. Contains l (a ∷ b ∷ [])) (sym (pairs_under-high k two_set keys is.atoms.few))
      (ordered_pair two_set keys (key_of a) (key_of b) are.ascending first second
      (is.atoms.ascending 0 1 a (omega arith) (omega arith))))
  state_has_set k (a ∷ b ∷ c ∷ set) few is = absurd (let l = is.atoms.few in omega (arith, l, few))
