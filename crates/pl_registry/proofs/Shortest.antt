-- Breadth-first search: entries are expanded by number, depths rise, and no plan is shorter than the one
-- found.
use Rattle.std.proofs.Common.{◌≡◌, ◌⊎◌, ◌+◌, ◌<◌, ◌≤◌, ℕ, zero, suc, IsTrue, IsFalse, List, [], ◌∷◌, length}
use Rattle.std.proofs.Common.{get_or, slice_index, Contains, refl, sym, ap, ◌∙◌, subst, inl, inr, arith}
use Rattle.std.proofs.Common.{length-append}
use Rattle.std.proofs.lemmas.List.{get_or_default, get_or_at}
use Rattle.pl_task.specs.Instance.{Instance}
use Rattle.pl_task.specs.States.{State}
use Rattle.pl_registry.specs.StateSpace.{StateSpace, LeadsTo}
use Rattle.pl_registry.specs.Cut.{IsDeadEnd}
use Rattle.pl_registry.specs.SearchRecord.{Pair, SearchRecord, IsOpen, pair_by, entry_at, pair_at, all_pairs}
use Rattle.pl_registry.specs.SearchRecord.{path_of, IsRecordUpTo}
use Rattle.pl_registry.specs.Ending.{IsNextPair, IsFoundAt, by_number}
use Rattle.pl_registry.specs.declared.ended.Stats.{Stats}
use Rattle.pl_registry.proofs.Turns.{step_in_turn, turn_within, turns_rise}
use Rattle.pl_registry.proofs.Entries.{entries_many, first_state, pair_is, made_in, made_in-rises, parent_is}
use Rattle.pl_registry.proofs.Entries.{parent_lower, path_grows, turns_in_order}
use Rattle.pl_registry.proofs.Plans.{goal_or_not, next_tried, entry_no_goal, onward}

pub less_or_past : (h k : ℕ) → (h < k) ⊎ (k ≤ h)
less_or_past h k = grind arith

module _ {space : StateSpace} {D K : List State → State → Type 0} {r : SearchRecord}
    (s : IsRecordUpTo space D K by_number r) where
  not_below : (j : ℕ) → j < length r.expanded → ((h : ℕ) → h < j → slice_index r.expanded h ≡ h) →
      (slice_index r.expanded j < j) ⊎ (j ≤ slice_index r.expanded j) → j ≤ slice_index r.expanded j
  not_below j l earlier (inr past) = past
  not_below j l earlier (inl less) =
      absurd ((s.in_order j l).open_itself.fresh (slice_index r.expanded j) less
      (earlier (slice_index r.expanded j) less))

  -- where an entry with a greater number was there before a turn, so was this one
  early_before : (j i : ℕ) → i ≤ slice_index r.expanded j →
      (slice_index r.expanded j ≡ 0)
      ⊎ ((k : ℕ) × (slice_index r.expanded j ≡ suc k) × (k < length s.made) × (made_in s k < j)) →
      (i ≡ 0) ⊎ ((k : ℕ) × (i ≡ suc k) × (k < length s.made) × (made_in s k < j))
  early_before j zero least is = inl refl
  early_before j (suc i) least (inl e) = absurd (omega (arith, e, least))
  early_before j (suc i) least (inr (k, e, w, b)) =
      let rises = made_in-rises s i k (omega (arith, e, least)) w in
      inr (i, refl, omega (arith, e, least, w), omega (arith, rises, b))

  -- entries are expanded in the order of their numbers
  expanded_within : (n j : ℕ) → j < n → j < length r.expanded → slice_index r.expanded j ≡ j
  expanded_within zero j b l = absurd (omega arith)
  expanded_within (suc n) j b l =
      let is = s.in_order j l in
      let earlier : (h : ℕ) → h < j → slice_index r.expanded h ≡ h = λ h below.
      expanded_within n h (omega arith) (omega arith) in
      let least = not_below j l earlier (less_or_past (slice_index r.expanded j) j) in
      let open_j : IsOpen r s.made j j = record {
        early = early_before j j least is.open_itself.early;
        fresh = λ h below e. (let same = earlier h below in omega (arith, below, e, same));
      } in
      elim (is.first j open_j) [
        | inl less ↦ absurd (omega (arith, less))
        | inr same ↦ (let upto = same.1 in omega (arith, upto, least))
      ]

  pub expanded_in_turn : (j : ℕ) → j < length r.expanded → slice_index r.expanded j ≡ j
  expanded_in_turn j l = expanded_within (suc j) j (omega arith) l

  -- the parent of entry k + 1 is the number of the turn in which it was made
  pub parent_turn : (k : ℕ) → k < length s.made → (entry_at r.entries (suc k)).parent ≡ made_in s k
  parent_turn k l = let (p, t) = parent_is s k l in p ∙ expanded_in_turn (made_in s k) t

  -- the number of steps to an entry
  abbrev pub depth : ℕ → ℕ
  depth i = length (path_of r.entries i)

  pub depth_grows : (k : ℕ) → k < length s.made → depth (suc k) ≡ depth
      (entry_at r.entries (suc k)).parent + 1
  depth_grows k l =
      ap length (path_grows s k l) ∙ length-append (path_of r.entries (entry_at r.entries (suc k)).parent)
      ((entry_at r.entries (suc k)).step ∷ [])

  -- depths rise with the numbers
  depths_within : (n i k : ℕ) → k ≤ n → i ≤ k → k < length r.entries → depth i ≤ depth k
  depths_within n zero k b l w = omega arith
  depths_within n (suc i) zero b l w = absurd (omega arith)
  depths_within zero (suc i) (suc k) b l w = absurd (omega arith)
  depths_within (suc n) (suc i) (suc k) b l w =
      let last : k < length s.made = omega (arith, entries_many s) in
      let first : i < length s.made = omega arith in
      let low = parent_lower s k last in
      let rises = made_in-rises s i k (omega arith) last in
      let p = parent_turn i first in
      let q = parent_turn k last in
      let c = depths_within n (entry_at r.entries (suc i)).parent (entry_at r.entries (suc k)).parent
      (omega (arith, low)) (omega (arith, rises, p, q)) (omega (arith, low)) in
      let a = depth_grows i first in
      let d = depth_grows k last in
      omega (arith, a, c, d)

  pub depths_rise : (i k : ℕ) → i ≤ k → k < length r.entries → depth i ≤ depth k
  depths_rise i k l w = depths_within k i k (omega arith) l w

  -- a step of an entry that was expanded before the turn of the next pair was tried
  pub tried_before : {at : Pair} → IsNextPair space r at → (i : ℕ) (step : Instance) → i < at.turn
      → Contains (space.steps (entry_at r.entries i).state) step →
      (m : ℕ) × (m < length r.pairs) × (pair_at r.pairs m ≡ pair_by space r.entries i i step)
  tried_before {at = at} next i step less step_of =
      let (turn, _) = next_tried next in
      let is = expanded_in_turn i (omega arith) in
      let in_turn = step_in_turn space r.entries r.expanded i step
      (subst (λ h. Contains (space.steps (entry_at r.entries h).state) step) (sym is) step_of) in
      let in_all = turn_within space r.entries r.expanded (length r.expanded) i
      (pair_by space r.entries i (slice_index r.expanded i) step) (omega arith) in_turn in
      let (m, l, e) = subst (λ h. Contains (all_pairs space r) (pair_by space r.entries i h step)) is
      in_all in
      front m l e (less_or_past m (length r.pairs))
    where
      front : (m : ℕ) → m < length (all_pairs space r)
          → get_or (all_pairs space r) m (pair_by space r.entries i i step) ≡ pair_by space r.entries i i step
          →
          (m < length r.pairs) ⊎ (length r.pairs ≤ m) → (m : ℕ) × (m < length r.pairs)
          × (pair_at r.pairs m ≡ pair_by space r.entries i i step)
      front m l e (inl there) =
          (m, there, sym (pair_is s m there) ∙ get_or_default (all_pairs space r) m _ _ l ∙ e)
      front m l e (inr past) =
          let rises = turns_rise space r.entries r.expanded (length r.expanded) (length r.pairs) m past l in
          let at_is : pair_at (all_pairs space r) (length r.pairs) ≡ at =
          ap (λ ps. pair_at ps (length r.pairs)) next.pairs_are
          ∙ get_or_at r.pairs at next.rest _ (length r.pairs) refl in
          let a = ap (λ (p : Pair). p.turn) at_is in
          let b : (pair_at (all_pairs space r) m).turn ≡ i =
          ap (λ (p : Pair). p.turn) (get_or_default (all_pairs space r) m _ _ l ∙ e) in
          absurd (omega (arith, rises, a, b, less))

  -- an entry made by a pair or a lower one is at most one deeper than the pair's entry
  pub one_deeper : (m i h : ℕ) (step : Instance) → m < length r.pairs → i < length r.entries
      → pair_at r.pairs m ≡ pair_by space r.entries i i step →
      (h ≡ 0) ⊎ ((k : ℕ) × (h ≡ suc k) × (k < length s.made) × (slice_index s.made k < suc m))
      → depth h ≤ depth i + 1
  one_deeper m i h step l w is (inl e) = let z = ap depth e in omega (arith, z)
  one_deeper m i h step l w is (inr (k, e, made, below)) =
      let t = turns_in_order s (slice_index s.made k) m (omega arith) l in
      let turn = ap (λ (p : Pair). p.turn) is in
      let p = parent_turn k made in
      let grows = depth_grows k made in
      let low = depths_rise (entry_at r.entries (suc k)).parent i (omega (arith, t, turn, p)) w in
      let z = ap depth e in
      omega (arith, grows, low, z)

  -- from an entry, no goal state is reached by so few steps
  pub none_nearer : {at : Pair} → ((seen : List State) (t : State) → D seen t → IsDeadEnd space t)
      → IsFalse (space.is_goal space.initial) → IsNextPair space r at →
      (steps : List Instance) (i : ℕ) → i < length r.entries → (last : State)
      → LeadsTo space (entry_at r.entries i).state steps last → IsTrue (space.is_goal last) →
      depth i + length steps ≤ depth at.entry → ⊥
  none_nearer sound start next [] i l last leads goal few = goal_or_not (entry_no_goal s start i l)
      (subst (λ t. IsTrue (space.is_goal t)) (sym leads) goal)
  none_nearer {at = at} sound start next (step ∷ steps) i l last leads goal few =
      let (turn, of) = next_tried next in
      let entry_is : at.entry ≡ at.turn = of.entry_is ∙ expanded_in_turn at.turn turn in
      let less : i < at.turn = nearer entry_is (less_or_past i at.turn) in
      let (m, under, same) = tried_before next i step less leads.0 in
      let target_same : (pair_at r.pairs m).target ≡ space.result (entry_at r.entries i).state step =
      ap (λ (p : Pair). p.target) same in
      let rest : LeadsTo space (pair_at r.pairs m).target steps last =
      subst (λ t. LeadsTo space t steps last) (sym target_same) leads.1 in
      elim (onward s m under) [
        | inl dropped ↦ sound _ _ dropped steps last rest goal
        | inr known ↦ (let (h, there, state, by) = known in
            let deeper = one_deeper m i h step under l same by in
            none_nearer {at = at} sound start next steps h there last
            (subst (λ t. LeadsTo space t steps last) (sym state) rest) goal (omega (arith, deeper, few)))
      ]
    where
      nearer : at.entry ≡ at.turn → (i < at.turn) ⊎ (at.turn ≤ i) → i < at.turn
      nearer e (inl less) = less
      nearer e (inr past) = let rises = depths_rise at.entry i (omega (arith, e)) l in
          absurd (omega (arith, rises, few))

  -- no steps from the initial state to a goal state are fewer than those of the plan
  pub none_shorter : {plan : List Instance} {stats : Stats}
      → ((seen : List State) (t : State) → D seen t → IsDeadEnd space t)
      → IsFalse (space.is_goal space.initial) →
      IsFoundAt space r plan stats → (steps : List Instance) (last : State)
      → LeadsTo space space.initial steps last → IsTrue (space.is_goal last) → length plan ≤ length steps
  none_shorter {plan = plan} sound start found steps last leads goal =
      let many = ap length found.plan_is ∙ length-append (path_of r.entries found.at.entry)
      (found.at.step ∷ []) in
      elim (less_or_past (length steps) (length plan)) [
        | inr enough ↦ enough
        | inl few ↦ absurd (none_nearer sound start found.next steps 0 (omega (arith, entries_many s)) last
            (subst (λ t. LeadsTo space t steps last) (sym (first_state s)) leads) goal
            (omega (arith, few, many)))
      ]
