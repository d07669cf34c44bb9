-- The keys of a state's fluent atoms, predicate by predicate.
use Rattle.std.proofs.Common.{◌≡◌, ◌⊎◌, ◌↔◌, ◌+◌, ◌<◌, ℕ, true, false, List, [], ◌∷◌, ◌++◌, map, length}
use Rattle.std.proofs.Common.{get_or, drop, Some, slice_get, IsTrue, refl, sym, ap, ◌∙◌, subst, inl, inr}
use Rattle.std.proofs.Common.{Contains, arith}
use Rattle.std.specs.Cmp.{nat_cmp_is}
use Rattle.std.specs.Ordering.{ordering_then}
use Rattle.std.specs.declared.cmp.Ordering.TheVariants.{Less, Equal}
use Rattle.std.proofs.lemmas.Bool.{false≢true}
use Rattle.std.proofs.lemmas.List.Elements.{All-nil, All-append, All-map, All-contains, Contains-append_left}
use Rattle.std.proofs.lemmas.List.Elements.{Contains-append_right, Contains-append_cases}
use Rattle.std.proofs.lemmas.Map.Keys.{sorted_tail}
use Rattle.std.proofs.lemmas.Map.Views.{All-after_first}
use Rattle.pl_rows.specs.Rows.{row_cmp, IsAscending}
use Rattle.pl_task.specs.declared.data.PredicateDef.{PredicateDef}
use Rattle.pl_task.specs.declared.task.Task.{Task}
use Rattle.pl_task.specs.States.{State}
use Rattle.pl_state.specs.Layout.{atom_of, AreTrueRows}
use Rattle.pl_state.specs.StateOf.{is_fluent_in, is_fluent_one}
use Rattle.pl_state.proofs.Orders.{ascending_one, ascending_append}
use Rattle.pl_registry.proofs.Lists.{Contains-nil, Contains-cons_cases, Contains-map, Contains-map_cases}
use Rattle.pl_novel.specs.Keys.{IsKeyBelow, AreKeysBelow, AreNumbered, AreStateNumbers, Extends}
use Rattle.pl_novel.proofs.Numberings.{numbered_none, numbered_trans, numbered_extends}
use Rattle.pl_rows.proofs.Canonical.{ascending-none}

-- the order of keys, by their predicates
same_head : (p : ℕ) (x y : List ℕ) → row_cmp (p ∷ x) (p ∷ y) ≡ row_cmp x y
same_head p x y = ap (λ o. ordering_then o (row_cmp x y)) (sym (nat_cmp_is p p Equal refl))

lower_head : (q p : ℕ) (x y : List ℕ) → q < p → row_cmp (q ∷ x) (p ∷ y) ≡ Less
lower_head q p x y l = ap (λ o. ordering_then o (row_cmp x y)) (sym (nat_cmp_is q p Less l))

-- the keys of ascending rows ascend
keys_ascend : (p : ℕ) (rows : List (List ℕ)) → IsAscending rows → IsAscending (map (λ row. p ∷ row) rows)
keys_ascend p [] s = ascending-none
keys_ascend p (x ∷ xs) s =
    ascending_append ((p ∷ x) ∷ []) (map (λ row. p ∷ row) xs) (ascending_one (p ∷ x))
    (keys_ascend p xs (sorted_tail row_cmp x xs s)) below
  where
    below : (z y : List ℕ) → Contains ((p ∷ x) ∷ []) z → Contains (map (λ row. p ∷ row) xs) y
        → row_cmp z y ≡ Less
    below z y a b = elim (Contains-cons_cases (p ∷ x) [] z a) [
      | inl e ↦ (let (r, m, f) = Contains-map_cases (λ row. p ∷ row) xs y b in
          let less : row_cmp (p ∷ x) (p ∷ r) ≡ Less = same_head p x r
          ∙ All-contains (λ q. row_cmp x q ≡ Less) xs r (All-after_first row_cmp x xs s) m in
          subst (λ k. row_cmp k y ≡ Less) e (subst (λ k. row_cmp (p ∷ x) k ≡ Less) f less))
      | inr r ↦ absurd (Contains-nil z r)
    ]

abbrev head_of : List ℕ → ℕ
head_of key = get_or key 0 0

below_or_at : (q p : ℕ) → q < p + 1 → (q < p) ⊎ (q ≡ p)
below_or_at q p l = grind arith

module _ (task : Task) (s : State) where
  pub keys_none : AreKeysBelow task s 0 []
  keys_none = record {
    ascending = ascending-none;
    atoms = All-nil (λ key. 0 < length key);
    members = λ q o. (λ h. absurd (Contains-nil (q ∷ o) h), λ h. absurd (let l = h.low in omega (arith, l)));
  }

  -- a static predicate has none
  pub keys_static : (p : ℕ) (keys : List (List ℕ)) → is_fluent_in task p ≡ false → AreKeysBelow task s p keys
      → AreKeysBelow task s (p + 1) keys
  keys_static p keys static are = record {
    ascending = are.ascending;
    atoms = are.atoms;
    members = λ q o. (
      λ h. (let k = (are.members q o).0 h in let l = k.low in
          record { low = omega (arith, l); fluent = k.fluent; held = k.held }),
      λ h. elim (below_or_at q p h.low) [
        | inl low ↦ (are.members q o).1 (record { low = low; fluent = h.fluent; held = h.held })
        | inr is ↦ absurd (false≢true (sym static ∙ ap (is_fluent_in task) (sym is) ∙ h.fluent))
      ],
    );
  }

  -- a fluent one has those of its rows
  pub keys_fluent : (p : ℕ) (keys rows : List (List ℕ)) → is_fluent_in task p ≡ true → IsAscending rows
      → ((row : List ℕ) → Contains rows row ↔ IsTrue (s (atom_of p row))) →
      AreKeysBelow task s p keys → AreKeysBelow task s (p + 1) (keys ++ map (λ row. p ∷ row) rows)
  keys_fluent p keys rows fluent ascends members are = record {
    ascending = ascending_append keys (map (λ row. p ∷ row) rows) are.ascending
        (keys_ascend p rows ascends) lower;
    atoms = All-append (λ key. 0 < length key) keys (map (λ row. p ∷ row) rows) are.atoms
        (All-map (λ key. 0 < length key) (λ row. p ∷ row) rows (λ k d l. omega arith));
    members = λ q o. (
      λ h. elim (Contains-append_cases keys (map (λ row. p ∷ row) rows) (q ∷ o) h) [
        | inl before ↦
            (let k = (are.members q o).0 before in let l = k.low in
            record { low = omega (arith, l); fluent = k.fluent; held = k.held })
        | inr here ↦ now q o (Contains-map_cases (λ row. p ∷ row) rows (q ∷ o) here)
      ],
      λ h. elim (below_or_at q p h.low) [
        | inl low ↦ Contains-append_left keys (map (λ row. p ∷ row) rows) (q ∷ o)
            ((are.members q o).1 (record { low = low; fluent = h.fluent; held = h.held }))
        | inr is ↦ Contains-append_right keys (map (λ row. p ∷ row) rows) (q ∷ o)
            (subst (λ n. Contains (map (λ row. p ∷ row) rows) (n ∷ o)) (sym is)
            (Contains-map (λ row. p ∷ row) rows o
            ((members o).1 (subst (λ n. s (atom_of n o) ≡ true) is h.held))))
      ],
    );
  }
    where
      now : (q : ℕ) (o : List ℕ) → (x : List ℕ) × Contains rows x × (p ∷ x ≡ q ∷ o)
          → IsKeyBelow task s (p + 1) q o
      now q o (x, m, e) =
          let same : p ≡ q = ap head_of e in
          let row : x ≡ o = ap (drop 1) e in
          record {
            low = omega (arith, same);
            fluent = ap (is_fluent_in task) (sym same) ∙ fluent;
            held = (λ i. s (atom_of (sym same i) (sym row i))) ∙ (members x).0 m;
          }

      lower : (x y : List ℕ) → Contains keys x → Contains (map (λ row. p ∷ row) rows) y → row_cmp x y ≡ Less
      lower [] y a b =
          absurd (let l = All-contains (λ key. 0 < length key) keys [] are.atoms a in omega (arith, l))
      lower (q ∷ o) y a b =
          let (r, m, f) = Contains-map_cases (λ row. p ∷ row) rows y b in
          subst (λ k. row_cmp (q ∷ o) k ≡ Less) f (lower_head q p o r ((are.members q o).0 a).low)

  pub state_none : (old : List (List ℕ)) (numbers : List ℕ) → numbers ≡ []
      → AreStateNumbers task s 0 old old numbers
  state_none old numbers none = record {
    keys = [];
    of_state = keys_none;
    numbered = subst (AreNumbered old [] [] old) (sym none) (numbered_none old []);
  }

  pub state_static : (p : ℕ) (d : PredicateDef) (old now : List (List ℕ)) (numbers : List ℕ)
      → slice_get task.predicates p ≡ Some d → d.is_static ≡ true →
      AreStateNumbers task s p old now numbers → AreStateNumbers task s (p + 1) old now numbers
  state_static p d old now numbers found static are = record {
    keys = are.keys;
    of_state = keys_static p are.keys (ap is_fluent_one found ∙ (rw static refl)) are.of_state;
    numbered = are.numbered;
  }

  pub state_fluent : (p arity : ℕ) (rows old now new : List (List ℕ)) (numbers more : List ℕ)
      → is_fluent_in task p ≡ true → AreTrueRows (length task.objects) s p arity rows →
      AreStateNumbers task s p old now numbers → AreNumbered now numbers (map (λ row. p ∷ row) rows) new more
      → AreStateNumbers task s (p + 1) old new more
  state_fluent p arity rows old now new numbers more fluent true_rows are numbered = record {
    keys = are.keys ++ map (λ row. p ∷ row) rows;
    of_state = keys_fluent p are.keys rows fluent true_rows.table.ascending true_rows.members are.of_state;
    numbered = numbered_trans old are.keys now (map (λ row. p ∷ row) rows) new [] numbers more are.numbered
        numbered;
  }

  pub state_extends : (n : ℕ) (old new : List (List ℕ)) (numbers : List ℕ)
      → AreStateNumbers task s n old new numbers → Extends old new
  state_extends n old new numbers are = numbered_extends old are.keys new [] numbers are.numbered
