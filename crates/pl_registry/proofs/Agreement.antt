-- Two records of one search: what they share.
use Rattle.std.proofs.Common.{◌≡◌, ◌≢◌, ◌⊎◌, ◌<◌, ◌≤◌, ℕ, zero, suc, true, nat_lt, List, [], ◌∷◌, ◌++◌, map}
use Rattle.std.proofs.Common.{length, slice_index, Contains, All, refl, sym, ap, ◌∙◌, subst, inl, inr, arith}
use Rattle.std.proofs.Common.{append_assoc, length-append}
use Rattle.std.proofs.lemmas.Bool.{ltb-true}
use Rattle.std.proofs.lemmas.List.{append-nil, get_or_default, get_or_append_left}
use Rattle.std.proofs.lemmas.List.Elements.{All-contains, All-head, All-tail, filter_passes}
use Rattle.pl_task.specs.States.{State}
use Rattle.pl_registry.specs.StateSpace.{StateSpace}
use Rattle.pl_registry.specs.SearchRecord.{Entry, Pair, SearchRecord, IsOpen, Precedes, entry_at, pair_at}
use Rattle.pl_registry.specs.SearchRecord.{pairs_of, pairs_below, seen_before, IsRecordUpTo}
use Rattle.pl_registry.proofs.Lists.{Contains-nil, Contains-cons_rest, Contains-cons_cases}
use Rattle.pl_registry.proofs.Turns.{within_or_past, turn_behind, turn_before, same_before}
use Rattle.pl_registry.proofs.Entries.{maker, pair_is, pairs_fit, first_state, made_in, made_within}
use Rattle.pl_registry.proofs.Entries.{made_in_order, seen_entry, entries_many}
use Rattle.pl_registry.proofs.Prefixes.{below, below_none, below_more, below_same, below_front, below_reach}

same_or_other : (x n : ℕ) → (x ≡ n) ⊎ (x ≢ n)
same_or_other x n = grind arith

pub has_or_not : (n : ℕ) (made : List ℕ) → Contains made n ⊎ (Contains made n → ⊥)
has_or_not n [] = inr (Contains-nil n)
has_or_not n (x ∷ made) = elim (same_or_other x n) [
  | inl e ↦ inl (0, omega arith, e)
  | inr other ↦ elim (has_or_not n made) [
    | inl h ↦ inl (Contains-cons_rest x made n h)
    | inr none ↦ inr (λ h. elim (Contains-cons_cases x made n h) [ inl e ↦ other e | inr r ↦ none r ])
  ]
]

-- the lists of pairs agree below n
abbrev pub AgreeBelow : ℕ → List Pair → List Pair → Type 0
AgreeBelow n ps qs = (m : ℕ) → m < n → pair_at ps m ≡ pair_at qs m

map_same : (f g : ℕ → State) (n : ℕ) (xs : List ℕ) → ((m : ℕ) → m < n → f m ≡ g m)
    → All (λ k. nat_lt k n ≡ true) xs → map f xs ≡ map g xs
map_same f g n [] same all = refl
map_same f g n (x ∷ xs) same all =
    let under = ltb-true x n (All-head (λ k. nat_lt k n ≡ true) x xs all) in
    let rest = map_same f g n xs same (All-tail (λ k. nat_lt k n ≡ true) x xs all) in
    λ i. same x under i ∷ rest i

pub seen_same : (space : StateSpace) (ps qs : List Pair) (made others : List ℕ) (m : ℕ) → AgreeBelow m ps qs
    → below m made ≡ below m others →
    seen_before space ps made m ≡ seen_before space qs others m
seen_same space ps qs made others m agree same =
    ap (λ ts. space.initial ∷ ts)
    (map_same (λ k. (pair_at ps k).target) (λ k. (pair_at qs k).target) m (below m made)
    (λ k l. ap (λ (p : Pair). p.target) (agree k l)) (filter_passes (λ k. nat_lt k m) made)
    ∙ ap (map (λ k. (pair_at qs k).target)) same)

-- the pairs of the turns below j come first among those of the turns below a greater one
pub below_prefix : (space : StateSpace) (entries : List Entry) (expanded : List ℕ) (j n : ℕ) → j ≤ n →
    (rest : List Pair) × (pairs_below space entries expanded n ≡ pairs_below space entries expanded j ++ rest)
below_prefix space entries expanded j zero l = (
  [],
  ap (pairs_below space entries expanded) (nothing j l)
      ∙ sym (append-nil (pairs_below space entries expanded j)),
)
  where
    nothing : (j : ℕ) → j ≤ 0 → 0 ≡ j
    nothing j l = omega arith
below_prefix space entries expanded j (suc n) l = elim (within_or_past j (suc n)) [
  | inl less ↦ (let (rest, e) = below_prefix space entries expanded j n (omega arith) in (
    rest ++ pairs_of space entries expanded n,
    ap (λ ps. ps ++ pairs_of space entries expanded n) e
        ∙ append_assoc (pairs_below space entries expanded j) rest (pairs_of space entries expanded n),
  ))
  | inr past ↦ (
    [],
    ap (pairs_below space entries expanded) (both j n l past)
        ∙ sym (append-nil (pairs_below space entries expanded j)),
  )
]
  where
    both : (j n : ℕ) → j ≤ suc n → suc n ≤ j → suc n ≡ j
    both j n l p = omega arith

pub prefix_read : (space : StateSpace) (entries : List Entry) (expanded : List ℕ) (j n m : ℕ) → j ≤ n
    → m < length (pairs_below space entries expanded j) →
    pair_at (pairs_below space entries expanded n) m ≡ pair_at (pairs_below space entries expanded j) m
prefix_read space entries expanded j n m l w =
    let (rest, e) = below_prefix space entries expanded j n l in
    ap (λ ps. pair_at ps m) e ∙ get_or_append_left (pairs_below space entries expanded j) rest _ m w

pub prefix_fits : (space : StateSpace) (entries : List Entry) (expanded : List ℕ) (j n : ℕ) → j ≤ n →
    length (pairs_below space entries expanded j) ≤ length (pairs_below space entries expanded n)
prefix_fits space entries expanded j n l =
    let (rest, e) = below_prefix space entries expanded j n l in
    let many = ap length e ∙ length-append (pairs_below space entries expanded j) rest in omega (arith, many)

-- a pair behind those of the turns below j is of turn j or a later one
pub turns_past : (space : StateSpace) (entries : List Entry) (expanded : List ℕ) (n j m : ℕ) → j ≤ n
    → length (pairs_below space entries expanded j) ≤ m →
    m < length (pairs_below space entries expanded n)
    → j ≤ (pair_at (pairs_below space entries expanded n) m).turn
turns_past space entries expanded zero j m l past w = omega arith
turns_past space entries expanded (suc n) j m l past w = elim (within_or_past j (suc n)) [
  | inr last ↦ (let f = prefix_fits space entries expanded (suc n) j last in
      absurd (omega (arith, f, past, w)))
  | inl less ↦ elim (within_or_past m (length (pairs_below space entries expanded n))) [
    | inl front ↦ (
        let rest = turns_past space entries expanded n j m (omega arith) past front in
        let same = ap (λ (p : Pair). p.turn) (same_before space entries expanded n m front) in
        omega (arith, rest, same))
    | inr behind ↦ (let turn = turn_behind space entries expanded n m behind w in omega (arith, turn, less))
  ]
]

-- all pairs of the turns below j were tried
abbrev pub IsComplete : StateSpace → SearchRecord → ℕ → Type 0
IsComplete space r j = length (pairs_below space r.entries r.expanded j) ≤ length r.pairs

module _ {space : StateSpace} {D K : List State → State → Type 0} {rank : State → ℕ} {p q : SearchRecord}
    (apart : (seen : List State) (t : State) → D seen t → K seen t → ⊥) (s : IsRecordUpTo space D K rank p)
    (t : IsRecordUpTo space D K rank q) where
  -- a pair that made an entry in one record made one in the other
  unmade : (n : ℕ) → n < length p.pairs → n < length q.pairs → pair_at p.pairs n ≡ pair_at q.pairs n →
      seen_before space p.pairs s.made n ≡ seen_before space q.pairs t.made n → Contains s.made n
      → (Contains t.made n → ⊥) → ⊥
  unmade n lp lq same seen has none =
      let target_same = ap (λ (x : Pair). x.target) same in
      elim (t.dropped_or_known n lq) [
        | inl dropped ↦ apart (seen_before space p.pairs s.made n) (pair_at p.pairs n).target
            (subst (λ u. D u (pair_at p.pairs n).target) (sym seen)
            (subst (D (seen_before space q.pairs t.made n)) (sym target_same) dropped))
            (All-contains (λ m. K (seen_before space p.pairs s.made m) (pair_at p.pairs m).target) s.made n
            s.kept has)
        | inr known ↦ (
            let before : Contains (seen_before space q.pairs t.made n) (pair_at q.pairs n).target =
            subst (λ xs. Contains (space.initial ∷ map (λ k. (pair_at q.pairs k).target) xs)
            (pair_at q.pairs n).target) (below_same n t.made none) known in
            let here : Contains (seen_before space p.pairs s.made n) (pair_at p.pairs n).target =
            subst (λ u. Contains u (pair_at p.pairs n).target) (sym seen)
            (subst (Contains (seen_before space q.pairs t.made n)) (sym target_same) before) in
            let (i, l, state, by) = seen_entry s n (pair_at p.pairs n).target here in
            let (k, w, e) = has in
            let at : slice_index s.made k ≡ n = get_or_default s.made k 0 n w ∙ e in
            let other : (entry_at p.entries (suc k)).state ≡ (pair_at p.pairs n).target =
            ap (λ (x : Entry). x.state) (maker s k w) ∙ ap (λ m. (pair_at p.pairs m).target) at in
            s.distinct i (suc k) _ (earlier i k w at by) (omega (arith, w, entries_many s))
            (state ∙ sym other))
      ]
    where
      earlier : (i k : ℕ) → k < length s.made → slice_index s.made k ≡ n → (i ≡ 0)
          ⊎ ((h : ℕ) × (i ≡ suc h) × (h < length s.made) × (slice_index s.made h < n)) → i < suc k
      earlier i k w at (inl e) = omega (arith, e)
      earlier i k w at (inr (h, e, v, b)) = elim (within_or_past h k) [
        | inl less ↦ omega (arith, e, less)
        | inr past ↦ (let o = made_in_order s k h past v in absurd (omega (arith, o, at, b)))
      ]

module _ {space : StateSpace} {D K : List State → State → Type 0} {rank : State → ℕ} {p q : SearchRecord}
    (apart : (seen : List State) (t : State) → D seen t → K seen t → ⊥) (s : IsRecordUpTo space D K rank p)
    (t : IsRecordUpTo space D K rank q) where
  -- where the pairs agree, the same ones made entries
  pub made_same : (n : ℕ) → n ≤ length p.pairs → n ≤ length q.pairs → AgreeBelow n p.pairs q.pairs
      → below n s.made ≡ below n t.made
  made_same zero lp lq agree = below_none 0 s.made (λ k l. omega arith)
      ∙ sym (below_none 0 t.made (λ k l. omega arith))
  made_same (suc n) lp lq agree =
      let before = made_same n (omega arith) (omega arith) (λ m l. agree m (omega arith)) in
      let seen = seen_same space p.pairs q.pairs s.made t.made n (λ m l. agree m (omega arith)) before in
      let here = agree n (omega arith) in
      elim (has_or_not n s.made) [
        | inl one ↦ elim (has_or_not n t.made) [
          | inl two ↦ below_more n s.made s.rising one ∙ ap (λ ms. ms ++ n ∷ []) before
              ∙ sym (below_more n t.made t.rising two)
          | inr none ↦ absurd (unmade apart s t n (omega arith) (omega arith) here seen one none)
        ]
        | inr none ↦ elim (has_or_not n t.made) [
          | inl two ↦ absurd (unmade apart t s n (omega arith) (omega arith) (sym here) (sym seen) two none)
          | inr also ↦ below_same n s.made none ∙ before ∙ sym (below_same n t.made also)
        ]
      ]

-- the pairs of a turn by what they depend on
abbrev turn_pairs : StateSpace → ℕ → ℕ → State → List Pair
turn_pairs space j i s =
    map (λ step. record { turn = j; entry = i; step = step; target = space.result s step }) (space.steps s)

module _ {space : StateSpace} {D K : List State → State → Type 0} {rank : State → ℕ} {r : SearchRecord}
    (s : IsRecordUpTo space D K rank r) where
  -- a pair below those of a turn, read among them
  pub pair_in_turns : (j m : ℕ) → j ≤ length r.expanded
      → m < length (pairs_below space r.entries r.expanded j) → m < length r.pairs →
      pair_at r.pairs m ≡ pair_at (pairs_below space r.entries r.expanded j) m
  pair_in_turns j m l w there = sym (pair_is s m there)
      ∙ prefix_read space r.entries r.expanded j (length r.expanded) m l w

  -- an entry that was made before turn j stands at a place below the pairs of turn j, and the other way round
  pub place_below : (j k : ℕ) → j ≤ length r.expanded → k < length s.made → made_in s k < j
      → slice_index s.made k < length (pairs_below space r.entries r.expanded j)
  place_below j k l w before =
      elim (within_or_past (slice_index s.made k) (length (pairs_below space r.entries r.expanded j))) [
        | inl under ↦ under
        | inr past ↦ (
            let here = made_within s k w in
            let fits = pairs_fit s in
            let turn = turns_past space r.entries r.expanded (length r.expanded) j
            (slice_index s.made k) l past
            (omega (arith, here, fits)) in
            let same = ap (λ (x : Pair). x.turn) (pair_is s (slice_index s.made k) here) in
            absurd (omega (arith, turn, same, before)))
      ]

  pub turn_below : (j k : ℕ) → j ≤ length r.expanded → k < length s.made
      → slice_index s.made k < length (pairs_below space r.entries r.expanded j) → made_in s k < j
  turn_below j k l w under =
      let same = ap (λ (x : Pair). x.turn)
      (pair_in_turns j (slice_index s.made k) l under (made_within s k w)) in
      let turn = turn_before space r.entries r.expanded j (slice_index s.made k) under in
      omega (arith, same, turn)

  -- an entry that may be expanded is registered
  pub open_registered : (j i : ℕ) → IsOpen r s.made j i → i < length r.entries
  open_registered j i o = elim o.early [
    | inl e ↦ omega (arith, e, entries_many s)
    | inr before ↦ (let (k, e, w, _) = before in omega (arith, e, w, entries_many s))
  ]

module _ {space : StateSpace} {D K : List State → State → Type 0} {rank : State → ℕ} {p q : SearchRecord}
    (apart : (seen : List State) (t : State) → D seen t → K seen t → ⊥) (s : IsRecordUpTo space D K rank p)
    (t : IsRecordUpTo space D K rank q) where
  -- an entry that may be expanded in one record may be in the other, and has the same state there
  pub open_same : (j : ℕ) → j ≤ length p.expanded → j ≤ length q.expanded → IsComplete space p j
      → IsComplete space q j →
      pairs_below space p.entries p.expanded j ≡ pairs_below space q.entries q.expanded j
      → ((h : ℕ) → h < j → slice_index p.expanded h ≡ slice_index q.expanded h) →
      (i : ℕ) → IsOpen p s.made j i → IsOpen q t.made j i
      × ((entry_at p.entries i).state ≡ (entry_at q.entries i).state)
  open_same j lp lq cp cq same order i o =
      let (early, state) = moved i o.early in
      (record { early = early; fresh = λ h l e. o.fresh h l (order h l ∙ e) }, state)
    where
      many : length (pairs_below space p.entries p.expanded j) ≡ length
          (pairs_below space q.entries q.expanded j)
      many = ap length same

      agree : AgreeBelow (length (pairs_below space p.entries p.expanded j)) p.pairs q.pairs
      agree m l = pair_in_turns s j m lp l (omega arith) ∙ ap (λ ps. pair_at ps m) same
          ∙ sym (pair_in_turns t j m lq (omega (arith, many)) (omega (arith, many)))

      moved : (i : ℕ) → (i ≡ 0) ⊎ ((k : ℕ) × (i ≡ suc k) × (k < length s.made) × (made_in s k < j)) →
          ((i ≡ 0) ⊎ ((k : ℕ) × (i ≡ suc k) × (k < length t.made) × (made_in t k < j)))
          × ((entry_at p.entries i).state ≡ (entry_at q.entries i).state)
      moved i (inl e) = (
        inl e,
        ap (λ h. (entry_at p.entries h).state) e ∙ first_state s ∙ sym (first_state t)
            ∙ ap (λ h. (entry_at q.entries h).state) (sym e),
      )
      moved i (inr (k, e, w, b)) =
          let n = length (pairs_below space p.entries p.expanded j) in
          let under = place_below s j k lp w b in
          let made = made_same apart s t n cp (omega (arith, many, cq)) agree in
          let there : k < length (below n t.made) = subst (λ ms. k < length ms) made
          (below_reach n s.made s.rising k w under) in
          let (v, read) = below_front n t.made t.rising k there in
          let (_, here) = below_front n s.made s.rising k (below_reach n s.made s.rising k w under) in
          let place : slice_index s.made k ≡ slice_index t.made k = sym here
          ∙ ap (λ ms. slice_index ms k) made ∙ read in
          let pair : pair_at p.pairs (slice_index s.made k) ≡ pair_at q.pairs (slice_index t.made k) =
          agree (slice_index s.made k) under ∙ ap (pair_at q.pairs) place in
          let turn = ap (λ (x : Pair). x.turn) pair in (
            inr (k, e, v, omega (arith, turn, b)),
            ap (λ h. (entry_at p.entries h).state) e ∙ ap (λ (x : Entry). x.state) (maker s k w)
                ∙ ap (λ (x : Pair). x.target) pair
                ∙ sym (ap (λ (x : Entry). x.state) (maker t k v))
                ∙ ap (λ h. (entry_at q.entries h).state) (sym e),
          )

one_first : (x y a b : ℕ) → (x < y) ⊎ ((x ≡ y) × (a ≤ b)) → (y < x) ⊎ ((y ≡ x) × (b ≤ a)) → a ≡ b
one_first x y a b (inl l) (inl m) = absurd (omega arith)
one_first x y a b (inl l) (inr (e, m)) = absurd (omega (arith, e))
one_first x y a b (inr (e, l)) (inl m) = absurd (omega (arith, e))
one_first x y a b (inr (e, l)) (inr (f, m)) = omega arith

module _ {space : StateSpace} {D K : List State → State → Type 0} {rank : State → ℕ} {p q : SearchRecord}
    (apart : (seen : List State) (t : State) → D seen t → K seen t → ⊥) (s : IsRecordUpTo space D K rank p)
    (t : IsRecordUpTo space D K rank q) where
  -- the same entry is expanded next, with the same state
  pub next_same : (j : ℕ) → j < length p.expanded → j < length q.expanded → IsComplete space p j
      → IsComplete space q j →
      pairs_below space p.entries p.expanded j ≡ pairs_below space q.entries q.expanded j
      → ((h : ℕ) → h < j → slice_index p.expanded h ≡ slice_index q.expanded h) →
      (slice_index p.expanded j ≡ slice_index q.expanded j) ×
      ((entry_at p.entries (slice_index p.expanded j)).state
      ≡ (entry_at q.entries (slice_index q.expanded j)).state)
  next_same j lp lq cp cq same order =
      let a = slice_index p.expanded j in
      let b = slice_index q.expanded j in
      let (open_a, state_a) = open_same apart s t j (omega arith) (omega arith) cp cq same order a
      (s.in_order j lp).open_itself in
      let (open_b, state_b) = open_same apart t s j (omega arith) (omega arith) cq cp (sym same)
      (λ h l. sym (order h l)) b (t.in_order j lq).open_itself in
      let first_p : Precedes rank p.entries a b = (s.in_order j lp).first b open_b in
      let first_q : Precedes rank q.entries b a = (t.in_order j lq).first a open_a in
      let moved : (rank (entry_at p.entries b).state < rank (entry_at p.entries a).state)
      ⊎ ((rank (entry_at p.entries b).state ≡ rank (entry_at p.entries a).state) × (b ≤ a)) =
      subst (λ x. (x < rank (entry_at p.entries a).state)
      ⊎ ((x ≡ rank (entry_at p.entries a).state) × (b ≤ a))) (ap rank state_b)
      (subst (λ y. (rank (entry_at q.entries b).state < y)
      ⊎ ((rank (entry_at q.entries b).state ≡ y) × (b ≤ a))) (sym (ap rank state_a)) first_q) in
      let e : a ≡ b = one_first (rank (entry_at p.entries a).state)
      (rank (entry_at p.entries b).state) a b first_p moved in
      (e, state_a ∙ ap (λ h. (entry_at q.entries h).state) e)

  -- the turns are the same as far as both records go
  pub turns_same : (j : ℕ) → j ≤ length p.expanded → j ≤ length q.expanded
      → ((h : ℕ) → h < j → IsComplete space p h) → ((h : ℕ) → h < j → IsComplete space q h) →
      ((h : ℕ) → h < j → slice_index p.expanded h ≡ slice_index q.expanded h)
      × (pairs_below space p.entries p.expanded j ≡ pairs_below space q.entries q.expanded j)
  turns_same zero lp lq cp cq = ((λ h l. absurd (omega arith)), refl)
  turns_same (suc j) lp lq cp cq =
      let (order, same) = turns_same j (omega arith) (omega arith) (λ h l. cp h (omega arith))
      (λ h l. cq h (omega arith)) in
      let (e, state) = next_same j (omega arith) (omega arith) (cp j (omega arith))
      (cq j (omega arith)) same order in
      let turn : pairs_of space p.entries p.expanded j ≡ pairs_of space q.entries q.expanded j = λ i.
      turn_pairs space j (e i) (state i) in
      ((λ h l. each h order e (within_or_past h j) l), λ i. same i ++ turn i)
    where
      each : (h : ℕ) → ((h : ℕ) → h < j → slice_index p.expanded h ≡ slice_index q.expanded h)
          → slice_index p.expanded j ≡ slice_index q.expanded j →
          (h < j) ⊎ (j ≤ h) → h < suc j → slice_index p.expanded h ≡ slice_index q.expanded h
      each h order e (inl less) l = order h less
      each h order e (inr past) l =
          let here : h ≡ j = omega arith in
          ap (slice_index p.expanded) here ∙ e ∙ ap (slice_index q.expanded) (sym here)
