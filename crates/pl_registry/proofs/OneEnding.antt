-- A search has one ending.
use Rattle.std.proofs.Common.{nat_lt, ◌≡◌, ◌⊎◌, ◌<◌, ◌≤◌, ℕ, suc, IsTrue, List, [], ◌∷◌, ◌++◌, map, length}
use Rattle.std.proofs.Common.{slice_index, Contains, refl, sym, ap, ◌∙◌, subst, inl, inr, arith}
use Rattle.std.proofs.Common.{length-append}
use Rattle.std.proofs.lemmas.List.{get_or_default, get_or_at, same_lists}
use Rattle.std.proofs.lemmas.Bool.{cases_Bool}
use Rattle.std.proofs.lemmas.List.Elements.{All-contains}
use Rattle.pl_task.specs.declared.task.Task.{Task}
use Rattle.pl_task.specs.Instance.{Instance}
use Rattle.pl_task.specs.States.{State}
use Rattle.pl_registry.specs.declared.ended.Stats.{Stats}
use Rattle.pl_registry.specs.StateSpace.{StateSpace}
use Rattle.pl_registry.specs.SearchRecord.{Entry, Pair, SearchRecord, entry_by, entry_of_initial, pair_at}
use Rattle.pl_registry.specs.SearchRecord.{pairs_below, all_pairs, seen_before, states_of, path_of}
use Rattle.pl_registry.specs.SearchRecord.{IsRecordUpTo}
use Rattle.pl_registry.specs.Ending.{Ending, IsNextPair, IsFoundAt, IsFull, IsClosed, IsUnderWay, IsUncut}
use Rattle.pl_registry.specs.Ending.{IsEnding, IsWidthEnding, IsWidthUnderWay, AreAllKnown, IsSomeLeftOut}
use Rattle.pl_registry.specs.Ending.Ending.{Found, Unsolvable, Exhausted, Limit}
use Rattle.pl_registry.proofs.Turns.{within_or_past, turn_before}
use Rattle.pl_registry.proofs.Entries.{entries_many, made_within, pair_is, pairs_fit}
use Rattle.pl_registry.proofs.Plans.{goal_or_not}
use Rattle.pl_registry.specs.Novelty.{IsNovel}
use Rattle.pl_registry.proofs.Prefixes.{below, below_all, below_same, below_more}
use Rattle.pl_registry.proofs.Agreement.{AgreeBelow, IsComplete, prefix_read, prefix_fits, seen_same}
use Rattle.pl_registry.proofs.Agreement.{has_or_not, made_same, open_same, open_registered, turns_same}

-- every entry was expanded, and every pair tried
pub record IsAllTried (space : StateSpace) (r : SearchRecord) : Type 0 where
  pub pairs_are : all_pairs space r ≡ r.pairs
  pub every : (i : ℕ) → i < length r.entries → Contains r.expanded i

-- where a record ends: at a next pair, or with all tried
abbrev pub IsBound : StateSpace → SearchRecord → Type 0
IsBound space r = ((at : Pair) × IsNextPair space r at) ⊎ IsAllTried space r

next_at : {space : StateSpace} {r : SearchRecord} {at : Pair} (n : IsNextPair space r at) →
    (length r.pairs < length (all_pairs space r)) × (pair_at (all_pairs space r) (length r.pairs) ≡ at)
next_at {r = r} {at = at} n =
    let many = ap length n.pairs_are ∙ length-append r.pairs (at ∷ n.rest) in (
      omega (arith, many),
      ap (λ ps. pair_at ps (length r.pairs)) n.pairs_are
          ∙ get_or_at r.pairs at n.rest _ (length r.pairs) refl,
    )

-- the pairs of all turns but the last were tried
complete_within : (space : StateSpace) (r : SearchRecord) → IsBound space r → (h : ℕ) → h < length r.expanded
    → IsComplete space r h
complete_within space r (inl (at, n)) h l =
    let (w, is) = next_at n in
    let turn = n.last_turn in
    elim (within_or_past (length r.pairs) (length (pairs_below space r.entries r.expanded h))) [
      | inr past ↦ past
      | inl under ↦ (
          let before = turn_before space r.entries r.expanded h (length r.pairs) under in
          let same = ap (λ (p : Pair). p.turn)
          (sym (prefix_read space r.entries r.expanded h (length r.expanded) (length r.pairs)
          (omega arith) under) ∙ is) in
          absurd (omega (arith, before, same, turn, l)))
    ]
complete_within space r (inr all) h l =
    let f = prefix_fits space r.entries r.expanded h (length r.expanded) (omega arith) in
    let many = ap length all.pairs_are in
    omega (arith, f, many)

module _ {space : StateSpace} {D K : List State → State → Type 0} {rank : State → ℕ} {p q : SearchRecord}
    (apart : (seen : List State) (t : State) → D seen t → K seen t → ⊥) (s : IsRecordUpTo space D K rank p)
    (t : IsRecordUpTo space D K rank q)
    (one : IsBound space p) (other : IsBound space q) where
  -- the turns agree as far as the shorter record goes
  turns_shared : (j : ℕ) → j ≤ length p.expanded → j ≤ length q.expanded →
      ((h : ℕ) → h < j → slice_index p.expanded h ≡ slice_index q.expanded h)
      × (pairs_below space p.entries p.expanded j ≡ pairs_below space q.entries q.expanded j)
  turns_shared j lp lq =
      turns_same apart s t j lp lq (λ h l. complete_within space p one h (omega arith))
      (λ h l. complete_within space q other h (omega arith))

  -- where one record has no more turns, its pairs come first in the other
  shared_front : length p.expanded ≤ length q.expanded →
      (length (all_pairs space p) ≤ length (all_pairs space q))
      × ((m : ℕ) → m < length (all_pairs space p)
      → pair_at (all_pairs space p) m ≡ pair_at (all_pairs space q) m)
  shared_front l =
      let (_, same) = turns_shared (length p.expanded) (omega arith) l in
      let many = ap length same in
      let fits = prefix_fits space q.entries q.expanded (length p.expanded) (length q.expanded) l in (
        omega (arith, many, fits),
        λ m w. ap (λ ps. pair_at ps m) same
            ∙ sym (prefix_read space q.entries q.expanded (length p.expanded) (length q.expanded) m l
            (omega (arith, many, w))),
      )

  -- where all is tried in the one, the other has no further turn
  no_further : IsAllTried space p → length p.expanded < length q.expanded → ⊥
  no_further all less =
      let j = length p.expanded in
      let (order, same) = turns_shared j (omega arith) (omega arith) in
      let cp : IsComplete space p j = (let many = ap length all.pairs_are in omega (arith, many)) in
      let cq = complete_within space q other j less in
      let i = slice_index q.expanded j in
      let (open_i, _) = open_same apart t s j (omega arith) (omega arith) cq cp (sym same)
      (λ h l. sym (order h l)) i (t.in_order j less).open_itself in
      let (h, w, e) = all.every i (open_registered s j i open_i) in
      open_i.fresh h w (get_or_default p.expanded h 0 i w ∙ e)

module _ {space : StateSpace} {D K : List State → State → Type 0} {rank : State → ℕ} {p q : SearchRecord}
    (apart : (seen : List State) (t : State) → D seen t → K seen t → ⊥) (s : IsRecordUpTo space D K rank p)
    (t : IsRecordUpTo space D K rank q)
    (one : IsBound space p) (other : IsBound space q) where
  all_agree : (m : ℕ) → m < length (all_pairs space p) → m < length (all_pairs space q)
      → pair_at (all_pairs space p) m ≡ pair_at (all_pairs space q) m
  all_agree m lp lq = elim (within_or_past (length p.expanded) (length q.expanded)) [
    | inl less ↦ (shared_front apart s t one other (omega arith)).1 m lp
    | inr past ↦ sym ((shared_front apart t s other one past).1 m lq)
  ]

  pairs_agree : (n : ℕ) → n ≤ length p.pairs → n ≤ length q.pairs → AgreeBelow n p.pairs q.pairs
  pairs_agree n lp lq m l =
      let a = pairs_fit s in
      let b = pairs_fit t in
      sym (pair_is s m (omega arith)) ∙ all_agree m (omega (arith, a)) (omega (arith, b))
      ∙ pair_is t m (omega arith)

  -- where all is tried in the one, the other has no pair beyond
  none_beyond : IsAllTried space p → length (all_pairs space q) ≤ length p.pairs
  none_beyond all = elim (within_or_past (length p.expanded) (length q.expanded)) [
    | inl less ↦ absurd (no_further apart s t one other all less)
    | inr past ↦ (let f = (shared_front apart t s other one past).0 in let many = ap length all.pairs_are in
        omega (arith, f, many))
  ]

  -- where the one ends at a pair that the other left behind: the pair is the same, and so is what was
  -- registered before it
  left_behind : {at : Pair} → IsNextPair space p at → length p.pairs < length q.pairs →
      (pair_at q.pairs (length p.pairs) ≡ at) × (below (length p.pairs) t.made ≡ s.made)
      × AgreeBelow (length p.pairs) p.pairs q.pairs
  left_behind {at = at} next l =
      let (w, is) = next_at next in
      let b = pairs_fit t in
      let agree = pairs_agree (length p.pairs) (omega arith) (omega arith) in (
        sym (pair_is t (length p.pairs) l) ∙ sym (all_agree (length p.pairs) w (omega (arith, b, l))) ∙ is,
        sym (made_same apart s t (length p.pairs) (omega arith) (omega arith) agree)
            ∙ below_all (length p.pairs) s.made (λ k v. made_within s k v),
        agree,
      )

module _ {space : StateSpace} {D K : List State → State → Type 0} {rank : State → ℕ} {p q : SearchRecord}
    (apart : (seen : List State) (t : State) → D seen t → K seen t → ⊥) (s : IsRecordUpTo space D K rank p)
    (t : IsRecordUpTo space D K rank q) where
  -- equally many pairs: the turns are as many
  turns_many : IsBound space p → IsBound space q → length p.pairs ≡ length q.pairs
      → length p.expanded ≡ length q.expanded
  turns_many (inl (at, n)) (inl (to, m)) many =
      let (w, is) = next_at n in
      let (v, also) = next_at m in
      let same : at ≡ to =
      sym is ∙ all_agree apart s t (inl (at, n)) (inl (to, m)) (length p.pairs) w (omega (arith, many, v))
      ∙ ap (pair_at (all_pairs space q)) many ∙ also in
      let turn = ap (λ (x : Pair). x.turn) same in
      let c = n.last_turn in
      let d = m.last_turn in
      omega (arith, turn, c, d)
  turns_many (inl (at, n)) (inr all) many =
      let (w, _) = next_at n in
      let none = none_beyond apart t s (inr all) (inl (at, n)) all in
      absurd (omega (arith, w, none, many))
  turns_many (inr all) (inl (to, m)) many =
      let (w, _) = next_at m in
      let none = none_beyond apart s t (inr all) (inl (to, m)) all in
      absurd (omega (arith, w, none, many))
  turns_many (inr all) (inr also) many = as_long (within_or_past (length p.expanded) (length q.expanded))
      (within_or_past (length q.expanded) (length p.expanded))
    where
      as_long : (length p.expanded < length q.expanded) ⊎ (length q.expanded ≤ length p.expanded) →
          (length q.expanded < length p.expanded) ⊎ (length p.expanded ≤ length q.expanded)
          → length p.expanded ≡ length q.expanded
      as_long (inl l) _ = absurd (no_further apart s t (inr all) (inr also) all l)
      as_long (inr _) (inl l) = absurd (no_further apart t s (inr also) (inr all) also l)
      as_long (inr x) (inr y) = omega arith

  -- and the records are one
  pub same_record : IsBound space p → IsBound space q → length p.pairs ≡ length q.pairs → p ≡ q
  same_record one other many =
      let agree = pairs_agree apart s t one other (length p.pairs) (omega arith) (omega (arith, many)) in
      let pairs : p.pairs ≡ q.pairs = same_lists p.pairs q.pairs many
      (λ k d l. get_or_default p.pairs k d _ l ∙ agree k l
      ∙ get_or_default q.pairs k _ d (omega (arith, many, l))) in
      let made : s.made ≡ t.made =
      sym (below_all (length p.pairs) s.made (λ k v. made_within s k v))
      ∙ made_same apart s t (length p.pairs) (omega arith) (omega (arith, many)) agree
      ∙ below_all (length p.pairs) t.made (λ k v. (let w = made_within t k v in omega (arith, w, many))) in
      let entries : p.entries ≡ q.entries = s.entries_are
      ∙ (λ i. entry_of_initial space.initial ∷ map (λ m. entry_by (pair_at (pairs i) m)) (made i))
      ∙ sym t.entries_are in
      let turns = turns_many one other many in
      let (order, _) = turns_shared apart s t one other (length p.expanded) (omega arith)
      (omega (arith, turns)) in
      let expanded : p.expanded ≡ q.expanded =
      same_lists p.expanded q.expanded turns
      (λ k d l. get_or_default p.expanded k d 0 l ∙ order k l
      ∙ get_or_default q.expanded k 0 d (omega (arith, turns, l))) in
      λ i. record { entries = entries i; expanded = expanded i; pairs = pairs i }

-- how a search ends that is under way
abbrev pub IsOver : StateSpace → (List State → State → Type 0) → ℕ → SearchRecord → Stats → Type 0
IsOver space K limit r stats = ((plan : List Instance) × IsFoundAt space r plan stats)
    ⊎ (IsFull space K limit r stats ⊎ IsClosed space r stats)

bound_of : {space : StateSpace} {K : List State → State → Type 0} {limit : ℕ} {r : SearchRecord}
    {stats : Stats} → IsOver space K limit r stats → IsBound space r
bound_of (inl (plan, f)) = inl (f.at, f.next)
bound_of (inr (inl f)) = inl (f.at, f.next)
bound_of (inr (inr c)) = inr (record { pairs_are = c.pairs_are; every = c.every })

-- the states of the entries are those seen before the end
states_seen : {space : StateSpace} {D K : List State → State → Type 0} {rank : State → ℕ} {r : SearchRecord}
    (s : IsRecordUpTo space D K rank r) →
    states_of r.entries ≡ seen_before space r.pairs s.made (length r.pairs)
states_seen {space = space} {r = r} s =
    ap states_of s.entries_are ∙ ap (λ ts. space.initial ∷ ts)
    (mapped s.made ∙ ap (map (λ k. (pair_at r.pairs k).target))
    (sym (below_all (length r.pairs) s.made (λ k v. made_within s k v))))
  where
    mapped : (made : List ℕ) → map (λ (e : Entry). e.state) (map (λ m. entry_by (pair_at r.pairs m)) made)
        ≡ map (λ k. (pair_at r.pairs k).target) made
    mapped [] = refl
    mapped (x ∷ made) = ap (λ ts. (pair_at r.pairs x).target ∷ ts) (mapped made)

module _ {space : StateSpace} {D K : List State → State → Type 0} {rank : State → ℕ} {p q : SearchRecord}
    (apart : (seen : List State) (t : State) → D seen t → K seen t → ⊥) (s : IsRecordUpTo space D K rank p)
    (t : IsRecordUpTo space D K rank q)
    (one : IsBound space p) (other : IsBound space q) where
  found_behind : {plan : List Instance} {stats : Stats} → IsFoundAt space p plan stats
      → length p.pairs < length q.pairs → ⊥
  found_behind f l =
      let (same, _, _) = left_behind apart s t one other f.next l in
      goal_or_not (t.no_goal (length p.pairs) _ l)
      (subst (λ (x : Pair). IsTrue (space.is_goal x.target)) (sym same) f.goal)

  full_behind : {limit : ℕ} {stats : Stats} → IsFull space K limit p stats → length q.entries ≤ limit
      → length p.pairs < length q.pairs → ⊥
  full_behind {limit = limit} f few l =
      let n = length p.pairs in
      let (same, made, agree) = left_behind apart s t one other f.next l in
      let target_same = ap (λ (x : Pair). x.target) same in
      let seen : seen_before space q.pairs t.made n ≡ states_of p.entries =
      sym (states_seen s ∙ seen_same space p.pairs q.pairs s.made t.made n agree
      (below_all n s.made (λ k v. made_within s k v) ∙ sym made)) in
      elim (t.dropped_or_known n l) [
        | inl dropped ↦ apart (states_of p.entries) f.at.target
            (subst (λ u. D u f.at.target) seen
            (subst (D (seen_before space q.pairs t.made n)) target_same dropped)) f.kept
        | inr known ↦ elim (has_or_not n t.made) [
          | inr none ↦ f.unknown (subst (λ u. Contains u f.at.target) seen
              (subst (Contains (seen_before space q.pairs t.made n)) target_same
              (subst (λ xs. Contains (space.initial ∷ map (λ k. (pair_at q.pairs k).target) xs)
              (pair_at q.pairs n).target) (below_same n t.made none) known)))
          | inl has ↦ (
              let more = ap length (below_more n t.made t.rising has ∙ ap (λ ms. ms ++ n ∷ []) made) in
              let longer = length-append s.made (n ∷ []) in
              let upto = below_few (suc n) t.made in
              let full = f.full in
              omega (arith, more, longer, upto, full, few, entries_many s, entries_many t))
        ]
      ]
    where
      below_few : (n : ℕ) (made : List ℕ) → length (below n made) ≤ length made
      below_few n [] = omega arith
      below_few n (x ∷ made) = let rest = below_few n made in
          elim (cases_Bool (nat_lt x n))
          [ inl there ↦ rw there (omega (arith, rest)) | inr gone ↦ rw gone (omega (arith, rest)) ]

  closed_behind : {stats : Stats} → IsClosed space p stats → length p.pairs < length q.pairs → ⊥
  closed_behind c l =
      let none = none_beyond apart s t one other (record { pairs_are = c.pairs_are; every = c.every }) in
      let fits = pairs_fit t in
      omega (arith, none, fits, l)

  not_behind : {limit : ℕ} {stats : Stats} → IsOver space K limit p stats → length q.entries ≤ limit
      → length p.pairs < length q.pairs → ⊥
  not_behind {stats = stats} (inl (plan, f)) few l = found_behind {plan = plan} {stats = stats} f l
  not_behind {stats = stats} (inr (inl f)) few l = full_behind {stats = stats} f few l
  not_behind {stats = stats} (inr (inr c)) few l = closed_behind {stats = stats} c l

module _ {space : StateSpace} {D K : List State → State → Type 0} {rank : State → ℕ} {limit : ℕ}
    {p q : SearchRecord} {a b : Stats}
    (apart : (seen : List State) (t : State) → D seen t → K seen t → ⊥) where
  -- a search under way has one record at its end
  pub one_record : IsUnderWay space D K rank limit p → IsUnderWay space D K rank limit q
      → IsOver space K limit p a → IsOver space K limit q b → p ≡ q
  one_record u v e f =
      let one = bound_of e in
      let other = bound_of f in
      same_record apart u.stands v.stands one other
      (even (within_or_past (length p.pairs) (length q.pairs))
      (within_or_past (length q.pairs) (length p.pairs)))
    where
      even : (length p.pairs < length q.pairs) ⊎ (length q.pairs ≤ length p.pairs)
          → (length q.pairs < length p.pairs) ⊎ (length p.pairs ≤ length q.pairs) →
          length p.pairs ≡ length q.pairs
      even (inl l) _ =
          absurd (not_behind apart u.stands v.stands (bound_of e) (bound_of f) {stats = a} e v.few l)
      even (inr _) (inl l) =
          absurd (not_behind apart v.stands u.stands (bound_of f) (bound_of e) {stats = b} f u.few l)
      even (inr x) (inr y) = omega arith

-- one record has one ending

next_one : {space : StateSpace} {r : SearchRecord} {at to : Pair} → IsNextPair space r at
    → IsNextPair space r to → at ≡ to
next_one m n = sym (next_at m).1 ∙ (next_at n).1

found_found : {space : StateSpace} {r : SearchRecord} {plan other : List Instance} {a b : Stats}
    → IsFoundAt space r plan a → IsFoundAt space r other b → (plan ≡ other) × (a ≡ b)
found_found {r = r} f g =
    let same = next_one f.next g.next in (
      f.plan_is ∙ ap (λ (x : Pair). path_of r.entries x.entry ++ x.step ∷ []) same ∙ sym g.plan_is,
      f.stats_are
          ∙ sym g.stats_are,
    )

found_full : {space : StateSpace} {K : List State → State → Type 0} {limit : ℕ} {r : SearchRecord}
    {plan : List Instance} {a b : Stats} →
    IsFoundAt space r plan a → IsFull space K limit r b → ⊥
found_full {space = space} f g =
    goal_or_not g.no_goal
    (subst (λ (x : Pair). IsTrue (space.is_goal x.target)) (next_one f.next g.next) f.goal)

next_closed : {space : StateSpace} {r : SearchRecord} {at : Pair} {b : Stats} → IsNextPair space r at
    → IsClosed space r b → ⊥
next_closed n c = let (w, _) = next_at n in let many = ap length c.pairs_are in omega (arith, w, many)

same_found : {space : StateSpace} {p q : SearchRecord} {plan : List Instance} {b : Stats} → p ≡ q
    → IsFoundAt space q plan b → IsFoundAt space p plan b
same_found {space = space} {plan = plan} {b = b} e f = subst (λ r. IsFoundAt space r plan b) (sym e) f

same_full : {space : StateSpace} {K : List State → State → Type 0} {limit : ℕ} {p q : SearchRecord}
    {b : Stats} → p ≡ q → IsFull space K limit q b → IsFull space K limit p b
same_full {space = space} {K = K} {limit = limit} {b = b} e f =
    subst (λ r. IsFull space K limit r b) (sym e) f

same_closed : {space : StateSpace} {p q : SearchRecord} {b : Stats} → p ≡ q → IsClosed space q b
    → IsClosed space p b
same_closed {space = space} {b = b} e f = subst (λ r. IsClosed space r b) (sym e) f

same_stats : {space : StateSpace} {K : List State → State → Type 0} {limit : ℕ} {r : SearchRecord}
    {a b : Stats} → IsFull space K limit r a → IsFull space K limit r b → a ≡ b
same_stats f g = f.stats_are ∙ sym g.stats_are

closed_stats : {space : StateSpace} {r : SearchRecord} {a b : Stats} → IsClosed space r a → IsClosed space r b
    → a ≡ b
closed_stats f g = f.stats_are ∙ sym g.stats_are

module _ (space : StateSpace) (D K : State → Type 0) (rank : State → ℕ) (limit : ℕ)
    (apart : (t : State) → D t → K t → ⊥) where
  uncut_same : (p q : SearchRecord) (a b : Stats) → IsUncut space D K rank limit p
      → IsUncut space D K rank limit q →
      IsOver space (λ _. K) limit p a → IsOver space (λ _. K) limit q b → p ≡ q
  uncut_same p q a b u v e f = one_record {a = a} {b = b} (λ seen t d k. apart t d k) u.1 v.1 e f

  -- a search that cuts states has one ending
  pub one_cut : (p q : SearchRecord) (e f : Ending) (a b : Stats) → IsEnding space D K rank limit p e a
      → IsEnding space D K rank limit q f b →
      (p ≡ q) × (e ≡ f) × (a ≡ b)
  one_cut p q Exhausted f a b h k = absurd h
  one_cut p q (Found x) Exhausted a b h k = absurd k
  one_cut p q Unsolvable Exhausted a b h k = absurd k
  one_cut p q Limit Exhausted a b h k = absurd k
  one_cut p q (Found x) (Found y) a b (inl (g, n, o)) (inl (h, m, i)) =
      (o.is ∙ sym i.is, ap Found (n ∙ sym m), o.stats_are ∙ sym i.stats_are)
  one_cut p q (Found x) (Found y) a b (inl (g, n, o)) (inr (v, k)) = absurd (goal_or_not v.1.no_goal g)
  one_cut p q (Found x) (Found y) a b (inr (u, h)) (inl (g, n, o)) = absurd (goal_or_not u.1.no_goal g)
  one_cut p q (Found x) (Found y) a b (inr (u, h)) (inr (v, k)) =
      let same = uncut_same p q a b u v (inl (x, h)) (inl (y, k)) in
      let (plan, stats) = found_found h (same_found same k) in
      (same, ap Found plan, stats)
  one_cut p q (Found x) Unsolvable a b (inl (g, n, o)) (inl (none, cut, i)) = absurd (goal_or_not none g)
  one_cut p q (Found x) Unsolvable a b (inl (g, n, o)) (inr (v, k)) = absurd (goal_or_not v.1.no_goal g)
  one_cut p q (Found x) Unsolvable a b (inr (u, h)) (inl (none, cut, i)) =
      absurd (apart space.initial cut u.0)
  one_cut p q (Found x) Unsolvable a b (inr (u, h)) (inr (v, k)) =
      absurd (next_closed h.next (same_closed (uncut_same p q a b u v (inl (x, h)) (inr (inr k))) k))
  one_cut p q (Found x) Limit a b (inl (g, n, o)) (v, k) = absurd (goal_or_not v.1.no_goal g)
  one_cut p q (Found x) Limit a b (inr (u, h)) (v, k) =
      absurd (found_full h (same_full (uncut_same p q a b u v (inl (x, h)) (inr (inl k))) k))
  one_cut p q Unsolvable (Found y) a b (inl (none, cut, i)) (inl (g, n, o)) = absurd (goal_or_not none g)
  one_cut p q Unsolvable (Found y) a b (inl (none, cut, i)) (inr (v, k)) =
      absurd (apart space.initial cut v.0)
  one_cut p q Unsolvable (Found y) a b (inr (u, h)) (inl (g, n, o)) = absurd (goal_or_not u.1.no_goal g)
  one_cut p q Unsolvable (Found y) a b (inr (u, h)) (inr (v, k)) =
      absurd (next_closed (same_found (uncut_same p q a b u v (inr (inr h)) (inl (y, k))) k).next h)
  one_cut p q Unsolvable Unsolvable a b (inl (none, cut, o)) (inl (also, out, i)) =
      (o.is ∙ sym i.is, refl, o.stats_are ∙ sym i.stats_are)
  one_cut p q Unsolvable Unsolvable a b (inl (none, cut, o)) (inr (v, k)) =
      absurd (apart space.initial cut v.0)
  one_cut p q Unsolvable Unsolvable a b (inr (u, h)) (inl (none, cut, o)) =
      absurd (apart space.initial cut u.0)
  one_cut p q Unsolvable Unsolvable a b (inr (u, h)) (inr (v, k)) =
      let same = uncut_same p q a b u v (inr (inr h)) (inr (inr k)) in
      (same, refl, closed_stats h (same_closed same k))
  one_cut p q Unsolvable Limit a b (inl (none, cut, o)) (v, k) = absurd (apart space.initial cut v.0)
  one_cut p q Unsolvable Limit a b (inr (u, h)) (v, k) =
      absurd (next_closed (same_full (uncut_same p q a b u v (inr (inr h)) (inr (inl k))) k).next h)
  one_cut p q Limit (Found y) a b (u, h) (inl (g, n, o)) = absurd (goal_or_not u.1.no_goal g)
  one_cut p q Limit (Found y) a b (u, h) (inr (v, k)) =
      absurd (found_full (same_found (uncut_same p q a b u v (inr (inl h)) (inl (y, k))) k) h)
  one_cut p q Limit Unsolvable a b (u, h) (inl (none, cut, o)) = absurd (apart space.initial cut u.0)
  one_cut p q Limit Unsolvable a b (u, h) (inr (v, k)) =
      absurd (next_closed h.next (same_closed (uncut_same p q a b u v (inr (inl h)) (inr (inr k))) k))
  one_cut p q Limit Limit a b (u, h) (v, k) =
      let same = uncut_same p q a b u v (inr (inl h)) (inr (inl k)) in
      (same, refl, same_stats h (same_full same k))

module _ (space : StateSpace) (task : Task) (width limit : ℕ) where
  width_same : (p q : SearchRecord) (a b : Stats) → IsWidthUnderWay space task width limit p
      → IsWidthUnderWay space task width limit q →
      IsOver space (IsNovel task width) limit p a → IsOver space (IsNovel task width) limit q b → p ≡ q
  width_same p q a b u v e f = one_record {a = a} {b = b} (λ seen t stale novel. stale novel) u v e f

  known_or_left : (p q : SearchRecord) → p ≡ q → AreAllKnown p → IsSomeLeftOut q → ⊥
  known_or_left p q e known (x, there, out) =
      out (subst (λ r. Contains (states_of r.entries) x.target) e
      (All-contains (λ (y : Pair). Contains (states_of p.entries) y.target) p.pairs x known
      (subst (λ r. Contains r.pairs x) (sym e) there)))

  -- a width search has one ending
  pub one_width : (p q : SearchRecord) (e f : Ending) (a b : Stats)
      → IsWidthEnding space task width limit p e a → IsWidthEnding space task width limit q f b →
      (p ≡ q) × (e ≡ f) × (a ≡ b)
  one_width p q (Found x) (Found y) a b (inl (g, n, o)) (inl (h, m, i)) =
      (o.is ∙ sym i.is, ap Found (n ∙ sym m), o.stats_are ∙ sym i.stats_are)
  one_width p q (Found x) (Found y) a b (inl (g, n, o)) (inr (v, k)) = absurd (goal_or_not v.no_goal g)
  one_width p q (Found x) (Found y) a b (inr (u, h)) (inl (g, n, o)) = absurd (goal_or_not u.no_goal g)
  one_width p q (Found x) (Found y) a b (inr (u, h)) (inr (v, k)) =
      let same = width_same p q a b u v (inl (x, h)) (inl (y, k)) in
      let (plan, stats) = found_found h (same_found same k) in
      (same, ap Found plan, stats)
  one_width p q (Found x) Unsolvable a b (inl (g, n, o)) (v, k, all) = absurd (goal_or_not v.no_goal g)
  one_width p q (Found x) Unsolvable a b (inr (u, h)) (v, k, all) =
      absurd (next_closed h.next (same_closed (width_same p q a b u v (inl (x, h)) (inr (inr k))) k))
  one_width p q (Found x) Exhausted a b (inl (g, n, o)) (v, k, some) = absurd (goal_or_not v.no_goal g)
  one_width p q (Found x) Exhausted a b (inr (u, h)) (v, k, some) =
      absurd (next_closed h.next (same_closed (width_same p q a b u v (inl (x, h)) (inr (inr k))) k))
  one_width p q (Found x) Limit a b (inl (g, n, o)) (v, k) = absurd (goal_or_not v.no_goal g)
  one_width p q (Found x) Limit a b (inr (u, h)) (v, k) =
      absurd (found_full h (same_full (width_same p q a b u v (inl (x, h)) (inr (inl k))) k))
  one_width p q Unsolvable (Found y) a b (u, h, all) (inl (g, n, o)) = absurd (goal_or_not u.no_goal g)
  one_width p q Unsolvable (Found y) a b (u, h, all) (inr (v, k)) =
      absurd (next_closed (same_found (width_same p q a b u v (inr (inr h)) (inl (y, k))) k).next h)
  one_width p q Unsolvable Unsolvable a b (u, h, all) (v, k, also) =
      let same = width_same p q a b u v (inr (inr h)) (inr (inr k)) in
      (same, refl, closed_stats h (same_closed same k))
  one_width p q Unsolvable Exhausted a b (u, h, all) (v, k, some) =
      absurd (known_or_left p q (width_same p q a b u v (inr (inr h)) (inr (inr k))) all some)
  one_width p q Unsolvable Limit a b (u, h, all) (v, k) =
      absurd (next_closed (same_full (width_same p q a b u v (inr (inr h)) (inr (inl k))) k).next h)
  one_width p q Exhausted (Found y) a b (u, h, some) (inl (g, n, o)) = absurd (goal_or_not u.no_goal g)
  one_width p q Exhausted (Found y) a b (u, h, some) (inr (v, k)) =
      absurd (next_closed (same_found (width_same p q a b u v (inr (inr h)) (inl (y, k))) k).next h)
  one_width p q Exhausted Unsolvable a b (u, h, some) (v, k, all) =
      absurd (known_or_left q p (sym (width_same p q a b u v (inr (inr h)) (inr (inr k)))) all some)
  one_width p q Exhausted Exhausted a b (u, h, some) (v, k, also) =
      let same = width_same p q a b u v (inr (inr h)) (inr (inr k)) in
      (same, refl, closed_stats h (same_closed same k))
  one_width p q Exhausted Limit a b (u, h, some) (v, k) =
      absurd (next_closed (same_full (width_same p q a b u v (inr (inr h)) (inr (inl k))) k).next h)
  one_width p q Limit (Found y) a b (u, h) (inl (g, n, o)) = absurd (goal_or_not u.no_goal g)
  one_width p q Limit (Found y) a b (u, h) (inr (v, k)) =
      absurd (found_full (same_found (width_same p q a b u v (inr (inl h)) (inl (y, k))) k) h)
  one_width p q Limit Unsolvable a b (u, h) (v, k, all) =
      absurd (next_closed h.next (same_closed (width_same p q a b u v (inr (inl h)) (inr (inr k))) k))
  one_width p q Limit Exhausted a b (u, h) (v, k, some) =
      absurd (next_closed h.next (same_closed (width_same p q a b u v (inr (inl h)) (inr (inr k))) k))
  one_width p q Limit Limit a b (u, h) (v, k) =
      let same = width_same p q a b u v (inr (inl h)) (inr (inl k)) in
      (same, refl, same_stats h (same_full same k))
