-- How the record of a search by any rank grows: turn by turn, and in a turn pair by pair. Each step of the
-- loop of such a search is a lemma here, and so is each of its endings. What a search keeps to expand by rank
-- is its own affair: a turn begins with an entry that was not expanded, and precedes all those that were not.
use Rattle.std.proofs.Common.{◌≡◌, ◌≢◌, ◌⊎◌, ◌+◌, ◌-◌, add-one, ◌<◌, ◌≤◌, ℕ, zero, suc, IsTrue, IsFalse, List}
use Rattle.std.proofs.Common.{[], ◌∷◌, ◌++◌, map, length, get_or, slice_index, Contains, All, AllPairs, refl}
use Rattle.std.proofs.Common.{sym, ap, ◌∙◌, subst, inl, inr, arith, append_assoc, length-append}
use Rattle.std.proofs.lemmas.List.{append-nil, get_or_append_left, get_or-append_right, get_or_at}
use Rattle.std.proofs.lemmas.List.{get_or_default, map-append}
use Rattle.std.proofs.lemmas.List.Elements.{All-append, All-push, Contains-append_right, Contains-get_or}
use Rattle.std.proofs.lemmas.List.Quantifiers.{all_pairs_push}
use Rattle.pl_task.specs.Instance.{Instance}
use Rattle.pl_task.specs.States.{State}
use Rattle.pl_registry.specs.StateSpace.{StateSpace}
use Rattle.pl_registry.specs.SearchRecord.{Entry, Pair, SearchRecord, entry_of_initial, entry_by, entry_at}
use Rattle.pl_registry.specs.SearchRecord.{pair_at, states_of, path_of, pair_by, pairs_below, all_pairs}
use Rattle.pl_registry.specs.SearchRecord.{seen_before, IsRising, Precedes, IsFirstOpen, IsRecordUpTo}
use Rattle.pl_registry.specs.Ending.{record_at_once, stats_of, IsNextPair, IsFoundAt, IsFull, IsClosed}
use Rattle.pl_registry.specs.Held.{with_turn, with_pair, with_new}
use Rattle.pl_registry.specs.HeldByRank.{IsBetweenRanked, IsInRanked}
use Rattle.pl_registry.proofs.Lists.{Contains-cons_first, Contains-cons_rest, Contains-map}
use Rattle.pl_registry.proofs.Prefixes.{below, below_more, below_same}
use Rattle.pl_registry.proofs.Turns.{within_or_past, turn_before}
use Rattle.pl_registry.proofs.Entries.{entries_many, pair_is, made_within, expanded_registered}
use Rattle.pl_registry.proofs.Growing.{pairs_below_more, pairs_below_turn, map_members, rising_push}
use Rattle.pl_registry.proofs.Growing.{same_or_below, moved, pair_before, seen_grown, seen_all}

-- entry i was there before turn j
abbrev IsThere : List Pair → List ℕ → ℕ → ℕ → Type 0
IsThere pairs made i j = (i ≡ 0)
    ⊎ ((k : ℕ) × (i ≡ suc k) × (k < length made) × ((pair_at pairs (slice_index made k)).turn < j))

-- more entries behind two change nothing of their order
precedes_more : (rank : State → ℕ) (entries more : List Entry) (a b : ℕ) → a < length entries
    → b < length entries →
    Precedes rank entries a b → Precedes rank (entries ++ more) a b
precedes_more rank entries more a b la lb h =
    let ra : rank (entry_at (entries ++ more) a).state ≡ rank (entry_at entries a).state =
    ap (λ (e : Entry). rank e.state) (get_or_append_left entries more _ a la) in
    let rb : rank (entry_at (entries ++ more) b).state ≡ rank (entry_at entries b).state =
    ap (λ (e : Entry). rank e.state) (get_or_append_left entries more _ b lb) in
    as_read (rank (entry_at (entries ++ more) a).state) (rank (entry_at entries a).state)
    (rank (entry_at (entries ++ more) b).state) (rank (entry_at entries b).state) a b ra rb h
  where
    as_read : (m k p q a b : ℕ) → m ≡ k → p ≡ q → (k < q) ⊎ ((k ≡ q) × (a ≤ b)) → (m < p)
        ⊎ ((m ≡ p) × (a ≤ b))
    as_read m k p q a b e f (inl less) = inl (omega (arith, e, f, less))
    as_read m k p q a b e f (inr (same, l)) = inr (omega (arith, e, f, same), l)

-- where an entry was there before a turn, it is registered
there_is_registered : {space : StateSpace} {D K : List State → State → Type 0} {rank : State → ℕ}
    {r : SearchRecord} (s : IsRecordUpTo space D K rank r) (i j : ℕ) →
    IsThere r.pairs s.made i j → i < length r.entries
there_is_registered s i j (inl e) = let many = entries_many s in omega (arith, e, many)
there_is_registered s i j (inr (k, e, w, b)) = let many = entries_many s in omega (arith, e, w, many)

-- one more pair, of the last turn, and with what it made: the open entries of each turn are those that they
-- were
module _ {space : StateSpace} {D K : List State → State → Type 0} {rank : State → ℕ} {r : SearchRecord}
    (s : IsRecordUpTo space D K rank r) (p : Pair) (new : List ℕ)
    (at_end : All (λ m. m ≡ length r.pairs) new) (last_turn : suc p.turn ≡ length r.expanded) where
  there_on : (i j : ℕ) → IsThere r.pairs s.made i j → IsThere (r.pairs ++ p ∷ []) (s.made ++ new) i j
  there_on i j (inl e) = inl e
  there_on i j (inr (k, e, w, b)) =
      let many = length-append s.made new in
      let place : slice_index (s.made ++ new) k ≡ slice_index s.made k =
      get_or_append_left s.made new 0 k w in
      let turn = ap (λ m. (pair_at (r.pairs ++ p ∷ []) m).turn) place
      ∙ ap (λ (q : Pair). q.turn)
      (pair_before s p new at_end (slice_index s.made k) (made_within s k w)) in
      inr (k, e, omega (arith, many, w), omega (arith, turn, b))

  there_before : (i j : ℕ) → j < length r.expanded → IsThere (r.pairs ++ p ∷ []) (s.made ++ new) i j
      → IsThere r.pairs s.made i j
  there_before i j l (inl e) = inl e
  there_before i j l (inr (k, e, w, b)) = elim (within_or_past k (length s.made)) [
    | inl less ↦ (
        let place : slice_index (s.made ++ new) k ≡ slice_index s.made k =
        get_or_append_left s.made new 0 k less in
        let turn = ap (λ m. (pair_at (r.pairs ++ p ∷ []) m).turn) place
        ∙ ap (λ (q : Pair). q.turn)
        (pair_before s p new at_end (slice_index s.made k) (made_within s k less)) in
        inr (k, e, less, omega (arith, turn, b)))
    | inr past ↦ (
        let many = length-append s.made new in
        let within : k - length s.made < length new = omega (arith, many, w) in
        let read : slice_index (s.made ++ new) k ≡ get_or new (k - length s.made) 0 =
        get_or-append_right s.made new (length s.made) k 0 refl past in
        let place : slice_index (s.made ++ new) k ≡ length r.pairs = read
        ∙ at_end (k - length s.made) 0 within in
        let turn : (pair_at (r.pairs ++ p ∷ []) (slice_index (s.made ++ new) k)).turn ≡ p.turn =
        ap (λ (q : Pair). q.turn)
        (get_or_at r.pairs p [] _ (slice_index (s.made ++ new) k) (sym place)) in
        absurd (omega (arith, turn, b, l, last_turn)))
  ]

  order_on : (more : List Entry) (j : ℕ) → j < length r.expanded →
      IsFirstOpen rank
      (record { entries = r.entries ++ more; expanded = r.expanded; pairs = r.pairs ++ p ∷ [] })
      (s.made ++ new) j
  order_on more j l = record {
    open_itself = record {
      early = there_on (slice_index r.expanded j) j (s.in_order j l).open_itself.early;
      fresh = (s.in_order j l).open_itself.fresh;
    };
    first = λ i o. still i (there_before i j l o.early) o.fresh;
  }
    where
      still : (i : ℕ) → IsThere r.pairs s.made i j → ((h : ℕ) → h < j → slice_index r.expanded h ≢ i)
          → Precedes rank (r.entries ++ more) (slice_index r.expanded j) i
      still i there fresh =
          precedes_more rank r.entries more (slice_index r.expanded j) i (expanded_registered s j l)
          (there_is_registered s i j there)
          ((s.in_order j l).first i (record { early = there; fresh = fresh }))

-- A record with one more pair, and with what it made. What is said of the new pair is a premise.
module _ {space : StateSpace} {D K : List State → State → Type 0} {rank : State → ℕ} {r : SearchRecord}
    (s : IsRecordUpTo space D K rank r)
    (p : Pair) (rest : List Pair) (next : all_pairs space r ≡ r.pairs ++ p ∷ rest)
    (last_turn : suc p.turn ≡ length r.expanded) where
  pairs_grown : (more : List Entry)
      → all_pairs space
      (record { entries = r.entries ++ more; expanded = r.expanded; pairs = r.pairs ++ p ∷ [] })
      ≡ (r.pairs ++ p ∷ []) ++ rest
  pairs_grown more =
      pairs_below_more space r.entries more r.expanded (length r.expanded) (λ j l. expanded_registered s j l)
      ∙ next ∙ sym (append_assoc r.pairs (p ∷ []) rest)

  grown : (more : List Entry) (new : List ℕ) → All (λ m. m ≡ length r.pairs) new
      → more ≡ map (λ m. entry_by (pair_at (r.pairs ++ p ∷ []) m)) new →
      IsRising (s.made ++ new) → AllPairs (λ (a b : Entry). a.state ≢ b.state) (r.entries ++ more)
      → IsFalse (space.is_goal p.target) →
      (D (seen_before space (r.pairs ++ p ∷ []) (s.made ++ new) (length r.pairs)) p.target ⊎
      Contains (seen_before space (r.pairs ++ p ∷ []) (s.made ++ new) (suc (length r.pairs))) p.target) →
      All (λ m. K (seen_before space (r.pairs ++ p ∷ []) (s.made ++ new) m)
      (pair_at (r.pairs ++ p ∷ []) m).target) new →
      IsRecordUpTo space D K rank
      (record { entries = r.entries ++ more; expanded = r.expanded; pairs = r.pairs ++ p ∷ [] })
  grown more new at_end more_is rising distinct no_goal last kept = record {
    made = s.made ++ new;
    begun = (rest, pairs_grown more);
    entries_are = ap (λ es. es ++ more) s.entries_are
        ∙ (λ i. entry_of_initial space.initial
        ∷ (map_members (λ m. entry_by (pair_at r.pairs m)) (λ m. entry_by (pair_at (r.pairs ++ p ∷ []) m))
        (length r.pairs) s.made
        (λ m l. sym (ap entry_by (pair_before s p new at_end m l))) s.within i ++ more_is i))
        ∙ ap (λ es. entry_of_initial space.initial ∷ es)
        (sym (map-append (λ m. entry_by (pair_at (r.pairs ++ p ∷ []) m)) s.made new));
    rising = rising;
    within = All-append (λ m. m < length (r.pairs ++ p ∷ [])) s.made new
        (λ k d l. (let w = s.within k d l in omega (arith, w, long)))
        (λ k d l. (let e = at_end k d l in omega (arith, e, long)));
    distinct = distinct;
    no_goal = All-push (λ (q : Pair). IsFalse (space.is_goal q.target)) r.pairs p s.no_goal no_goal;
    dropped_or_known = λ m l. at_place m (same_or_below m (length r.pairs) (omega (arith, l, long)));
    kept = All-append
        (λ m. K (seen_before space (r.pairs ++ p ∷ []) (s.made ++ new) m)
        (pair_at (r.pairs ++ p ∷ []) m).target) s.made new still kept;
    in_order = λ j l. order_on s p new at_end last_turn more j l;
  }
    where
      long : length (r.pairs ++ p ∷ []) ≡ suc (length r.pairs)
      long = let both = length-append r.pairs (p ∷ []) in omega (arith, both)

      at_place : (m : ℕ) → (m < length r.pairs) ⊎ (m ≡ length r.pairs) →
          D (seen_before space (r.pairs ++ p ∷ []) (s.made ++ new) m) (pair_at (r.pairs ++ p ∷ []) m).target ⊎
          Contains (seen_before space (r.pairs ++ p ∷ []) (s.made ++ new) (suc m))
          (pair_at (r.pairs ++ p ∷ []) m).target
      at_place m (inl less) =
          moved D (seen_before space r.pairs s.made m)
          (seen_before space (r.pairs ++ p ∷ []) (s.made ++ new) m)
          (seen_before space r.pairs s.made (suc m))
          (seen_before space (r.pairs ++ p ∷ []) (s.made ++ new) (suc m)) (pair_at r.pairs m)
          (pair_at (r.pairs ++ p ∷ []) m)
          (seen_grown s p new at_end m (omega (arith, less)))
          (seen_grown s p new at_end (suc m) (omega (arith, less))) (pair_before s p new at_end m less)
          (s.dropped_or_known m less)
      at_place m (inr e) =
          moved D (seen_before space (r.pairs ++ p ∷ []) (s.made ++ new) (length r.pairs))
          (seen_before space (r.pairs ++ p ∷ []) (s.made ++ new) m)
          (seen_before space (r.pairs ++ p ∷ []) (s.made ++ new) (suc (length r.pairs)))
          (seen_before space (r.pairs ++ p ∷ []) (s.made ++ new) (suc m)) p
          (pair_at (r.pairs ++ p ∷ []) m)
          (ap (seen_before space (r.pairs ++ p ∷ []) (s.made ++ new)) e)
          (ap (λ k. seen_before space (r.pairs ++ p ∷ []) (s.made ++ new) (suc k)) e)
          (get_or_at r.pairs p [] _ m (sym e)) last

      still : All (λ m. K (seen_before space (r.pairs ++ p ∷ []) (s.made ++ new) m)
          (pair_at (r.pairs ++ p ∷ []) m).target) s.made
      still k d l =
          let m = get_or s.made k d in
          let under : get_or s.made k d < length r.pairs = s.within k d l in
          subst (λ u. K u (pair_at (r.pairs ++ p ∷ []) m).target)
          (sym (seen_grown s p new at_end m (omega (arith, under))))
          (subst (λ (q : Pair). K (seen_before space r.pairs s.made m) q.target)
          (sym (pair_before s p new at_end m under)) (s.kept k d l))

-- the record of a search that has not expanded a state
pub at_once : (space : StateSpace) (D K : List State → State → Type 0) (rank : State → ℕ)
    → IsBetweenRanked space D K rank [] (record_at_once space)
at_once space D K rank = record {
  stands = record {
    made = [];
    begun = ([], refl);
    entries_are = refl;
    rising = λ i k less l. absurd (omega arith);
    within = λ k d l. absurd (omega arith);
    distinct = λ i j d less l. absurd (omega arith);
    no_goal = λ k d l. absurd (omega arith);
    dropped_or_known = λ m l. absurd (omega arith);
    kept = λ k d l. absurd (omega arith);
    in_order = λ j l. absurd (omega arith);
  };
  turns_are = refl;
  pairs_are = refl;
}

module _ {space : StateSpace} {D K : List State → State → Type 0} {rank : State → ℕ} {past : List ℕ}
    {r : SearchRecord} where
  -- The turn of an entry begins that was not expanded, and that precedes every other one.
  pub next_turn : (t : ℕ) → IsBetweenRanked space D K rank past r → t < length r.entries
      → (Contains past t → ⊥) →
      ((i : ℕ) → i < length r.entries → (Contains past i → ⊥) → Precedes rank r.entries t i) →
      IsInRanked space D K rank past t (space.steps (entry_at r.entries t).state) (with_turn r t)
  next_turn t b l unexpanded precedes = record {
    stands = record {
      made = b.stands.made;
      begun = (
        map (pair_by space r.entries (length past) t) (space.steps (entry_at r.entries t).state),
        pairs,
      );
      entries_are = b.stands.entries_are;
      rising = b.stands.rising;
      within = b.stands.within;
      distinct = b.stands.distinct;
      no_goal = b.stands.no_goal;
      dropped_or_known = b.stands.dropped_or_known;
      kept = b.stands.kept;
      in_order = λ j w. order j (within_or_past j (length r.expanded))
          (let both = length-append r.expanded (t ∷ []) in omega (arith, both, w));
    };
    turns_are = ap (λ xs. xs ++ t ∷ []) b.turns_are;
    pairs_are = pairs;
  }
    where
      many : length r.expanded ≡ length past
      many = ap length b.turns_are

      last : slice_index (r.expanded ++ t ∷ []) (length past) ≡ t
      last = get_or_at r.expanded t [] 0 (length past) many

      -- the pairs of all turns with this one
      pairs : all_pairs space (with_turn r t) ≡ r.pairs
          ++ map (pair_by space r.entries (length past) t) (space.steps (entry_at r.entries t).state)
      pairs =
          ap (pairs_below space r.entries (r.expanded ++ t ∷ []))
          (length-append r.expanded (t ∷ []) ∙ ap (λ n. n + 1) many ∙ add-one (length past))
          ∙ (λ i. pairs_below_turn space r.entries r.expanded (t ∷ []) (length past) (omega (arith, many)) i
          ++ map (pair_by space r.entries (length past) (last i))
          (space.steps (entry_at r.entries (last i)).state))
          ∙ ap (λ n. pairs_below space r.entries r.expanded n
          ++ map (pair_by space r.entries (length past) t) (space.steps (entry_at r.entries t).state))
          (sym many)
          ∙ ap (λ ps. ps ++ map (pair_by space r.entries (length past) t)
          (space.steps (entry_at r.entries t).state)) b.pairs_are

      read_before : (h : ℕ) → h < length r.expanded
          → slice_index (r.expanded ++ t ∷ []) h ≡ slice_index r.expanded h
      read_before h w = get_or_append_left r.expanded (t ∷ []) 0 h w

      -- every entry was made before this turn, since all pairs are of turns before
      there : (i : ℕ) → i < length r.entries → IsThere r.pairs b.stands.made i (length r.expanded)
      there zero w = inl refl
      there (suc k) w =
          let made : k < length b.stands.made = (let all = entries_many b.stands in omega (arith, all, w)) in
          inr (k, refl, made, turn_below (slice_index b.stands.made k) (made_within b.stands k made))
        where
          turn_below : (m : ℕ) → m < length r.pairs → (pair_at r.pairs m).turn < length r.expanded
          turn_below m w =
              let same = ap (λ (q : Pair). q.turn) (pair_is b.stands m w) in
              let all = ap length b.pairs_are in
              let under = turn_before space r.entries r.expanded (length r.expanded) m
              (omega (arith, all, w)) in
              omega (arith, same, under)

      -- what is in the list of the turns before was expanded in one of them
      not_past : (i : ℕ) → ((h : ℕ) → h < length r.expanded → slice_index r.expanded h ≢ i) → Contains past i
          → ⊥
      not_past i fresh has =
          let (k, w, e) = subst (λ xs. Contains xs i) (sym b.turns_are) has in
          fresh k w (get_or_default r.expanded k 0 i w ∙ e)

      fresh_now : (h : ℕ) → h < length r.expanded → slice_index r.expanded h ≢ t
      fresh_now h w e = unexpanded (
        h,
        omega (arith, many, w),
        ap (λ xs. get_or xs h t) (sym b.turns_are)
            ∙ get_or_default r.expanded h t 0 w ∙ e,
      )

      this_turn : IsFirstOpen rank (with_turn r t) b.stands.made (length r.expanded)
      this_turn =
          let is : slice_index (r.expanded ++ t ∷ []) (length r.expanded) ≡ t =
          get_or_at r.expanded t [] 0 (length r.expanded) refl in
          record {
            open_itself = record {
              early = subst (λ i. IsThere r.pairs b.stands.made i (length r.expanded)) (sym is) (there t l);
              fresh = λ h w e. fresh_now h w (sym (read_before h w) ∙ e ∙ is);
            };
            first = λ i o. subst (λ a. Precedes rank r.entries a i) (sym is)
                (precedes i (there_is_registered b.stands i (length r.expanded) o.early)
                (not_past i (λ h w e. o.fresh h w (read_before h w ∙ e))));
          }

      turn_of_old : (j : ℕ) → j < length r.expanded → IsFirstOpen rank (with_turn r t) b.stands.made j
      turn_of_old j w =
          let was = b.stands.in_order j w in
          let is = read_before j w in
          record {
            open_itself = record {
              early = subst (λ i. IsThere r.pairs b.stands.made i j) (sym is) was.open_itself.early;
              fresh = λ h less e. was.open_itself.fresh h less
                  (sym (read_before h (omega (arith, less, w))) ∙ e ∙ is);
            };
            first = λ i o. subst (λ a. Precedes rank r.entries a i) (sym is)
                (was.first i (record {
                  early = o.early;
                  fresh = λ h less e. o.fresh h less
                      (read_before h (omega (arith, less, w)) ∙ e);
                }));
          }

      order : (j : ℕ) → (j < length r.expanded) ⊎ (length r.expanded ≤ j) → j ≤ length r.expanded
          → IsFirstOpen rank (with_turn r t) b.stands.made j
      order j (inl less) upto = turn_of_old j less
      order j (inr past) upto = let e : length r.expanded ≡ j = omega (arith, past, upto) in
          subst (IsFirstOpen rank (with_turn r t) b.stands.made) e this_turn

  -- a turn in which no step is left is over
  pub turn_over : (t : ℕ) → IsInRanked space D K rank past t [] r
      → IsBetweenRanked space D K rank (past ++ t ∷ []) r
  turn_over t h = record {
    stands = h.stands;
    turns_are = h.turns_are;
    pairs_are = h.pairs_are
        ∙ append-nil r.pairs;
  }

  -- where every entry was expanded, the record is closed
  pub closed_at : IsBetweenRanked space D K rank past r → length past ≡ length r.entries
      → ((i : ℕ) → i < length r.entries → Contains past i) →
      IsClosed space r (stats_of (length r.entries) (length past) (length r.pairs))
  closed_at b e all = record {
    pairs_are = b.pairs_are;
    every = λ i l. subst (λ xs. Contains xs i) (sym b.turns_are) (all i l);
    stats_are = ap (λ n. stats_of (length r.entries) n (length r.pairs)) e;
  }

  pub turns_begun : {t : ℕ} {left : List Instance} → IsInRanked space D K rank past t left r
      → length r.expanded ≡ suc (length past)
  turns_begun {t = t} h = ap length h.turns_are ∙ length-append past (t ∷ []) ∙ add-one (length past)

  -- the entry of a turn is registered
  pub turn_is_there : {t : ℕ} {left : List Instance} → IsInRanked space D K rank past t left r
      → t < length r.entries
  turn_is_there {t = t} h =
      let many = turns_begun h in
      let read : slice_index r.expanded (length past) ≡ t =
      ap (λ xs. slice_index xs (length past)) h.turns_are ∙ get_or_at past t [] 0 (length past) refl in
      let l = expanded_registered h.stands (length past) (omega (arith, many)) in omega (arith, read, l)

module _ {space : StateSpace} {D K : List State → State → Type 0} {rank : State → ℕ} {past : List ℕ} {t : ℕ}
    {step : Instance} {left : List Instance} {r : SearchRecord}
    (h : IsInRanked space D K rank past t (step ∷ left) r) where
  -- the pair of the first step that is left is the next one
  pub next_pair : IsNextPair space r (pair_by space r.entries (length past) t step)
  next_pair = record {
    rest = map (pair_by space r.entries (length past) t) left;
    pairs_are =
        h.pairs_are;
    last_turn = sym (turns_begun h);
  }

  -- where the pair makes no entry
  without_entry : IsFalse (space.is_goal (pair_by space r.entries (length past) t step).target) →
      (D (seen_before space (r.pairs ++ pair_by space r.entries (length past) t step ∷ [])
      (h.stands.made ++ []) (length r.pairs)) (pair_by space r.entries (length past) t step).target ⊎
      Contains (seen_before space (r.pairs ++ pair_by space r.entries (length past) t step ∷ [])
      (h.stands.made ++ []) (suc (length r.pairs))) (pair_by space r.entries (length past) t step).target)
      →
      IsInRanked space D K rank past t left (with_pair r (pair_by space r.entries (length past) t step))
  without_entry no_goal last = record {
    stands = subst
        (λ es. IsRecordUpTo space D K rank
        (record {
          entries = es;
          expanded = r.expanded;
          pairs = r.pairs
              ++ pair_by space r.entries (length past) t step ∷ [];
        })) (append-nil r.entries)
        (grown h.stands (pair_by space r.entries (length past) t step)
        (map (pair_by space r.entries (length past) t) left) h.pairs_are (sym (turns_begun h)) [] []
        (λ k d l. absurd (omega arith)) refl
        (subst IsRising (sym (append-nil h.stands.made)) h.stands.rising)
        (subst (AllPairs (λ (a b : Entry). a.state ≢ b.state)) (sym (append-nil r.entries)) h.stands.distinct)
        no_goal last (λ k d l. absurd (omega arith)));
    turns_are = h.turns_are;
    pairs_are = h.pairs_are
        ∙ sym (append_assoc r.pairs (pair_by space r.entries (length past) t step ∷ [])
        (map (pair_by space r.entries (length past) t) left));
  }

  seen_now : (new : List ℕ) → All (λ m. m ≡ length r.pairs) new →
      seen_before space (r.pairs ++ pair_by space r.entries (length past) t step ∷ []) (h.stands.made ++ new)
      (length r.pairs) ≡ states_of r.entries
  seen_now new at_end = seen_grown h.stands (pair_by space r.entries (length past) t step) new at_end
      (length r.pairs) (omega arith) ∙ seen_all h.stands

  -- its target is dropped
  pub one_more_dropped : IsFalse (space.is_goal (pair_by space r.entries (length past) t step).target)
      → D (states_of r.entries) (pair_by space r.entries (length past) t step).target →
      IsInRanked space D K rank past t left (with_pair r (pair_by space r.entries (length past) t step))
  one_more_dropped no_goal dropped =
      without_entry no_goal
      (inl (subst (λ seen. D seen (pair_by space r.entries (length past) t step).target)
      (sym (seen_now [] (λ k d l. absurd (omega arith)))) dropped))

  -- its target is registered
  pub one_more_known : IsFalse (space.is_goal (pair_by space r.entries (length past) t step).target)
      → Contains (states_of r.entries) (pair_by space r.entries (length past) t step).target →
      IsInRanked space D K rank past t left (with_pair r (pair_by space r.entries (length past) t step))
  one_more_known no_goal known =
      without_entry no_goal
      (inr (subst (λ seen. Contains seen (pair_by space r.entries (length past) t step).target)
      (sym (seen_now [] (λ k d l. absurd (omega arith)))
      ∙ sym (ap (λ ks. space.initial ∷ map
      (λ k. (pair_at (r.pairs ++ pair_by space r.entries (length past) t step ∷ []) k).target) ks)
      (below_same (length r.pairs) (h.stands.made ++ []) none)))
      known))
    where
      none : Contains (h.stands.made ++ []) (length r.pairs) → ⊥
      none has =
          let (k, l, e) = subst (λ ks. Contains ks (length r.pairs)) (append-nil h.stands.made) has in
          let w = h.stands.within k (length r.pairs) l in omega (arith, w, e)

  -- its target is a new state, which is kept
  pub one_more_new : IsFalse (space.is_goal (pair_by space r.entries (length past) t step).target)
      → (Contains (states_of r.entries) (pair_by space r.entries (length past) t step).target → ⊥) →
      K (states_of r.entries) (pair_by space r.entries (length past) t step).target
      → IsInRanked space D K rank past t left (with_new r (pair_by space r.entries (length past) t step))
  one_more_new no_goal unknown kept = record {
    stands = grown h.stands (pair_by space r.entries (length past) t step)
        (map (pair_by space r.entries (length past) t) left) h.pairs_are (sym (turns_begun h))
        (entry_by (pair_by space r.entries (length past) t step) ∷ []) (length r.pairs ∷ [])
        at_end (λ i. entry_by (sym last_read i) ∷ []) rising
        (all_pairs_push (λ (a b : Entry). a.state ≢ b.state) r.entries
        (entry_by (pair_by space r.entries (length past) t step)) h.stands.distinct
        (λ k d l e. unknown
        (subst (Contains (states_of r.entries)) e
        (Contains-map (λ (a : Entry). a.state) r.entries (get_or r.entries k d)
        (Contains-get_or r.entries k d l)))))
        no_goal (inr known)
        (λ k d l. subst
        (λ m. K (seen_before space (r.pairs ++ pair_by space r.entries (length past) t step ∷ [])
        (h.stands.made ++ length r.pairs ∷ []) m)
        (pair_at (r.pairs ++ pair_by space r.entries (length past) t step ∷ []) m).target)
        (sym (at_end k d l)) here);
    turns_are = h.turns_are;
    pairs_are = pairs_grown h.stands (pair_by space r.entries (length past) t step)
        (map (pair_by space r.entries (length past) t) left) h.pairs_are (sym (turns_begun h))
        (entry_by (pair_by space r.entries (length past) t step) ∷ [])
        ∙ (λ i. (r.pairs ++ pair_by space r.entries (length past) t step ∷ [])
        ++ map (λ step.
        record {
          turn = length past;
          entry = t;
          step = step;
          target =
              space.result (sym same_entry i).state step;
        }) left);
  }
    where
      same_entry : entry_at (r.entries ++ entry_by (pair_by space r.entries (length past) t step) ∷ [])
          t ≡ entry_at r.entries t
      same_entry = get_or_append_left r.entries (entry_by (pair_by space r.entries (length past) t step) ∷ [])
          _ t (turn_is_there h)

      at_end : All (λ m. m ≡ length r.pairs) (length r.pairs ∷ [])
      at_end zero d l = refl
      at_end (suc k) d l = absurd (omega arith)

      last_read : pair_at (r.pairs ++ pair_by space r.entries (length past) t step ∷ [])
          (length r.pairs) ≡ pair_by space r.entries (length past) t step
      last_read = get_or_at r.pairs (pair_by space r.entries (length past) t step) [] _ (length r.pairs) refl

      rising : IsRising (h.stands.made ++ length r.pairs ∷ [])
      rising = rising_push h.stands.made (length r.pairs) h.stands.rising h.stands.within

      here : K (seen_before space (r.pairs ++ pair_by space r.entries (length past) t step ∷ [])
          (h.stands.made ++ length r.pairs ∷ []) (length r.pairs))
          (pair_at (r.pairs ++ pair_by space r.entries (length past) t step ∷ []) (length r.pairs)).target
      here =
          subst (λ u. K u
          (pair_at (r.pairs ++ pair_by space r.entries (length past) t step ∷ [])
          (length r.pairs)).target) (sym (seen_now (length r.pairs ∷ []) at_end))
          (subst (λ (q : Pair). K (states_of r.entries) q.target) (sym last_read) kept)

      -- the place of the pair is the last one that made an entry
      known : Contains
          (seen_before space (r.pairs ++ pair_by space r.entries (length past) t step ∷ [])
          (h.stands.made ++ length r.pairs ∷ []) (suc (length r.pairs)))
          (pair_by space r.entries (length past) t step).target
      known =
          let f : ℕ → State = λ k.
          (pair_at (r.pairs ++ pair_by space r.entries (length past) t step ∷ []) k).target in
          let made = h.stands.made ++ length r.pairs ∷ [] in
          let more : below (suc (length r.pairs)) made ≡ below (length r.pairs) made ++ length r.pairs ∷ [] =
          below_more (length r.pairs) made rising
          (Contains-append_right h.stands.made (length r.pairs ∷ []) (length r.pairs)
          (Contains-cons_first (length r.pairs) [])) in
          let member = Contains-append_right (below (length r.pairs) made) (length r.pairs ∷ [])
          (length r.pairs) (Contains-cons_first (length r.pairs) []) in
          subst (Contains
          (seen_before space (r.pairs ++ pair_by space r.entries (length past) t step ∷ []) made
          (suc (length r.pairs)))) (ap (λ (q : Pair). q.target) last_read)
          (Contains-cons_rest space.initial (map f (below (suc (length r.pairs)) made)) (f (length r.pairs))
          (Contains-map f (below (suc (length r.pairs)) made) (length r.pairs)
          (subst (λ ks. Contains ks (length r.pairs)) (sym more) member)))

  -- its target is a goal state
  pub found_at : IsTrue (space.is_goal (pair_by space r.entries (length past) t step).target) →
      IsFoundAt space r (path_of r.entries t ++ step ∷ [])
      (stats_of (length r.entries) (suc (length past)) (suc (length r.pairs)))
  found_at goal = record {
    at = pair_by space r.entries (length past) t step;
    next = next_pair;
    goal = goal;
    plan_is = refl;
    stats_are = ap (λ n. stats_of (length r.entries) n (suc (length r.pairs))) (sym (turns_begun h));
  }

  -- its target is a new state, which is kept, and as many states as the limit are registered
  pub full_at : {limit : ℕ} → IsFalse (space.is_goal (pair_by space r.entries (length past) t step).target)
      → (Contains (states_of r.entries) (pair_by space r.entries (length past) t step).target → ⊥) →
      K (states_of r.entries) (pair_by space r.entries (length past) t step).target
      → length r.entries ≡ limit →
      IsFull space K limit r (stats_of (length r.entries) (suc (length past)) (suc (length r.pairs)))
  full_at no_goal unknown kept full = record {
    at = pair_by space r.entries (length past) t step;
    next = next_pair;
    no_goal = no_goal;
    unknown = unknown;
    kept = kept;
    full = full;
    stats_are = ap (λ n. stats_of (length r.entries) n (suc (length r.pairs))) (sym (turns_begun h));
  }
