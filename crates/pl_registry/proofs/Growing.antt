-- What one more entry, pair or turn changes in the lists of a search's record, whatever its rank is. What may
-- be dropped and what kept is any relation of the states registered before and the target.
use Rattle.std.proofs.Common.{◌≡◌, ◌⊎◌, ◌<◌, ◌≤◌, ℕ, zero, suc, List, []}
use Rattle.std.proofs.Common.{◌∷◌, ◌++◌, map, length, slice_index, Contains, All, refl, sym}
use Rattle.std.proofs.Common.{ap, ◌∙◌, subst, inl, inr, arith, length-append}
use Rattle.std.proofs.lemmas.List.{append-nil, get_or_append_left, get_or_at}
use Rattle.std.proofs.lemmas.List.Elements.{All-head, All-tail}
use Rattle.std.proofs.lemmas.List.Elements.{filter-append}
use Rattle.std.proofs.lemmas.Simd.{map-map}
use Rattle.pl_task.specs.States.{State}
use Rattle.pl_registry.specs.StateSpace.{StateSpace}
use Rattle.pl_registry.specs.SearchRecord.{Entry, Pair, SearchRecord, entry_by, entry_at}
use Rattle.pl_registry.specs.SearchRecord.{pair_at, states_of, pair_by, pairs_of, pairs_below}
use Rattle.pl_registry.specs.SearchRecord.{seen_before, IsRising}
use Rattle.pl_registry.specs.SearchRecord.{IsRecordUpTo}
use Rattle.pl_registry.proofs.Prefixes.{below, below_all, below_none}
use Rattle.pl_registry.proofs.Turns.{within_or_past}
use Rattle.pl_registry.proofs.Entries.{made_within}
use Rattle.pl_registry.proofs.Agreement.{seen_same}

-- the pairs of turns with more entries behind those that were expanded
pairs_of_more : (space : StateSpace) (entries more : List Entry) (expanded : List ℕ) (j : ℕ)
    → slice_index expanded j < length entries →
    pairs_of space (entries ++ more) expanded j ≡ pairs_of space entries expanded j
pairs_of_more space entries more expanded j l =
    ap (λ (e : Entry). map
    (λ step. record {
      turn = j;
      entry = slice_index expanded j;
      step = step;
      target =
          space.result e.state step;
    }) (space.steps e.state))
    (get_or_append_left entries more _ (slice_index expanded j) l)

pub pairs_below_more : (space : StateSpace) (entries more : List Entry) (expanded : List ℕ) (n : ℕ)
    → ((j : ℕ) → j < n → slice_index expanded j < length entries) →
    pairs_below space (entries ++ more) expanded n ≡ pairs_below space entries expanded n
pairs_below_more space entries more expanded zero there = refl
pairs_below_more space entries more expanded (suc n) there =
    let front = pairs_below_more space entries more expanded n (λ j l. there j (omega arith)) in
    let last = pairs_of_more space entries more expanded n (there n (omega arith)) in
    λ i. front i ++ last i

-- the pairs of the turns that were begun, with another turn behind them
pub pairs_below_turn : (space : StateSpace) (entries : List Entry) (expanded more : List ℕ) (n : ℕ)
    → n ≤ length expanded →
    pairs_below space entries (expanded ++ more) n ≡ pairs_below space entries expanded n
pairs_below_turn space entries expanded more zero l = refl
pairs_below_turn space entries expanded more (suc n) l =
    let front = pairs_below_turn space entries expanded more n (omega arith) in
    let turn : slice_index (expanded ++ more) n ≡ slice_index expanded n =
    get_or_append_left expanded more 0 n (omega arith) in
    λ i. front i ++ map (pair_by space entries n (turn i)) (space.steps (entry_at entries (turn i)).state)

pub map_members : {X : Type 0} (f g : ℕ → X) (n : ℕ) (xs : List ℕ) → ((m : ℕ) → m < n → f m ≡ g m)
    → All (λ k. k < n) xs → map f xs ≡ map g xs
map_members f g n [] same all = refl
map_members f g n (x ∷ xs) same all =
    let first = same x (All-head (λ k. k < n) x xs all) in
    let rest = map_members f g n xs same (All-tail (λ k. k < n) x xs all) in
    λ i. first i ∷ rest i

pub rising_push : (made : List ℕ) (n : ℕ) → IsRising made → All (λ m. m < n) made → IsRising (made ++ n ∷ [])
rising_push made n rising under i k less l = elim (within_or_past k (length made)) [
  | inl before ↦ (
      let a : slice_index (made ++ n ∷ []) i ≡ slice_index made i =
      get_or_append_left made (n ∷ []) 0 i (omega arith) in
      let b : slice_index (made ++ n ∷ []) k ≡ slice_index made k =
      get_or_append_left made (n ∷ []) 0 k before in
      let c = rising i k less before in omega (arith, a, b, c))
  | inr past ↦ (
      let many = length-append made (n ∷ []) in
      let a : slice_index (made ++ n ∷ []) i ≡ slice_index made i =
      get_or_append_left made (n ∷ []) 0 i (omega (arith, many)) in
      let b : slice_index (made ++ n ∷ []) k ≡ n = get_or_at made n [] 0 k (omega (arith, many)) in
      let c = under i 0 (omega (arith, many)) in omega (arith, a, b, c))
]

pub same_or_below : (m n : ℕ) → m < suc n → (m < n) ⊎ (m ≡ n)
same_or_below m n l = grind arith

-- one more pair: the lists of pairs and of the places that made entries, with it and with what it made
module _ {space : StateSpace} {D K : List State → State → Type 0} {rank : State → ℕ} {r : SearchRecord}
    (s : IsRecordUpTo space D K rank r) (p : Pair) (new : List ℕ)
    (at_end : All (λ m. m ≡ length r.pairs) new) where
  pub pair_before : (m : ℕ) → m < length r.pairs → pair_at (r.pairs ++ p ∷ []) m ≡ pair_at r.pairs m
  pair_before m l = get_or_append_left r.pairs (p ∷ []) _ m l

  below_before : (m : ℕ) → m ≤ length r.pairs → below m (s.made ++ new) ≡ below m s.made
  below_before m l =
      filter-append _ s.made new
      ∙ ap (λ xs. below m s.made ++ xs)
      (below_none m new (λ k w. (let e = at_end k 0 w in omega (arith, e, l))))
      ∙ append-nil (below m s.made)

  pub seen_grown : (m : ℕ) → m ≤ length r.pairs → seen_before space (r.pairs ++ p ∷ [])
      (s.made ++ new) m ≡ seen_before space r.pairs s.made m
  seen_grown m l = seen_same space (r.pairs ++ p ∷ []) r.pairs (s.made ++ new) s.made m
      (λ k w. pair_before k (omega arith)) (below_before m l)

-- all states that were seen
pub seen_all : {space : StateSpace} {D K : List State → State → Type 0} {rank : State → ℕ} {r : SearchRecord}
    (s : IsRecordUpTo space D K rank r) →
    seen_before space r.pairs s.made (length r.pairs) ≡ states_of r.entries
seen_all {space = space} {r = r} s =
    ap (λ ks. space.initial ∷ map (λ k. (pair_at r.pairs k).target) ks)
    (below_all (length r.pairs) s.made (λ k l. made_within s k l))
    ∙ ap (λ ts. space.initial ∷ ts)
    (sym (map-map (λ (e : Entry). e.state) (λ m. entry_by (pair_at r.pairs m)) s.made))
    ∙ sym (ap states_of s.entries_are)

-- what is said of a pair, moved to other lists that are the same
pub moved : (D : List State → State → Type 0) (u v w x : List State) (p q : Pair) → v ≡ u → x ≡ w → q ≡ p
    → D u p.target ⊎ Contains w p.target → D v q.target ⊎ Contains x q.target
moved D u v w x p q a b e (inl dropped) =
    inl (subst (λ z. D z q.target) (sym a) (subst (λ (z : Pair). D u z.target) (sym e) dropped))
moved D u v w x p q a b e (inr known) =
    inr (subst (λ z. Contains z q.target) (sym b) (subst (λ (z : Pair). Contains w z.target) (sym e) known))
