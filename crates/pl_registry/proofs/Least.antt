-- Breadth-first search: entries of equal depth have their paths in order, and the plan found is the first
-- of those with as many steps.
use Rattle.std.proofs.Common.{◌≡◌, ◌⊎◌, ◌+◌, ◌-◌, ◌<◌, ◌≤◌, ℕ, zero, suc, IsTrue, IsFalse, List, [], ◌∷◌}
use Rattle.std.proofs.Common.{◌++◌, length, get_or, slice_index, Contains, refl, sym, ap, ◌∙◌, subst, inl}
use Rattle.std.proofs.Common.{inr, arith, length-append}
use Rattle.std.specs.Cmp.{IsTotalOrder}
use Rattle.std.specs.declared.cmp.Ordering.{Ordering}
use Rattle.std.specs.declared.cmp.Ordering.TheVariants.{Less}
use Rattle.std.specs.List.Sorted.{IsStrictlySortedBy}
use Rattle.std.proofs.lemmas.List.{get_or-map, get_or_default, get_or_at, get_or-append_right, append_assoc}
use Rattle.std.proofs.lemmas.List.{length-map}
use Rattle.pl_task.specs.Instance.{Instance}
use Rattle.pl_task.specs.States.{State}
use Rattle.pl_registry.specs.StateSpace.{StateSpace, LeadsTo}
use Rattle.pl_registry.specs.Cut.{IsDeadEnd}
use Rattle.pl_registry.specs.SearchRecord.{Entry, Pair, SearchRecord, no_step, pair_by, entry_at, pair_at}
use Rattle.pl_registry.specs.SearchRecord.{pairs_of, pairs_below, all_pairs, path_of, IsRecordUpTo}
use Rattle.pl_registry.specs.Ending.{IsNextPair, IsFoundAt, by_number}
use Rattle.pl_registry.specs.declared.ended.Stats.{Stats}
use Rattle.pl_registry.proofs.Turns.{step_in_turn, turn_within, turn_behind, turn_before, same_before}
use Rattle.pl_registry.proofs.Turns.{within_or_past}
use Rattle.pl_registry.proofs.Entries.{entries_many, first_state, maker, made_within, made_in, made_in-rises}
use Rattle.pl_registry.proofs.Entries.{pair_is, pairs_fit, parent_lower, path_grows, turns_in_order}
use Rattle.pl_registry.proofs.Plans.{goal_or_not, next_tried, entry_no_goal, onward}
use Rattle.pl_registry.proofs.PlanOrder.{sorted_read, IsBefore, IsUpTo, before_more, before_up_to, up_to_same}
use Rattle.pl_registry.proofs.PlanOrder.{up_to_less}
use Rattle.pl_registry.proofs.Shortest.{depth, depth_grows, depths_rise, expanded_in_turn, parent_turn}
use Rattle.pl_registry.proofs.Shortest.{tried_before, one_deeper, none_nearer}

less_or_same : (i k : ℕ) → i ≤ k → (i < k) ⊎ (i ≡ k)
less_or_same i k l = grind arith

less_same_past : (i k : ℕ) → (i < k) ⊎ ((i ≡ k) ⊎ (k < i))
less_same_past i k = grind arith

-- ---- the pairs of one turn

module _ (space : StateSpace) (R : Instance → Instance → Ordering)
    (ascend : (t : State) → IsStrictlySortedBy R (space.steps t)) (entries : List Entry)
    (expanded : List ℕ) where
  abbrev pairs_to : ℕ → List Pair
  pairs_to n = pairs_below space entries expanded n

  abbrev steps_in : ℕ → List Instance
  steps_in j = space.steps (entry_at entries (slice_index expanded j)).state

  -- the step of a pair behind those of the turns below j
  step_behind : (j k : ℕ) → length (pairs_to j) ≤ k → k < length (pairs_to (suc j)) →
      ((pair_at (pairs_to (suc j)) k).step ≡ get_or (steps_in j) (k - length (pairs_to j)) no_step)
      × (k - length (pairs_to j) < length (steps_in j))
  step_behind j k past l =
      let last = pairs_of space entries expanded j in
      let make = pair_by space entries j (slice_index expanded j) in
      let many = length-append (pairs_to j) last in
      let mapped = length-map (steps_in j) make in
      let at = k - length (pairs_to j) in
      let within : at < length (steps_in j) = omega (arith, many, mapped, past, l) in
      let read : pair_at (pairs_to j ++ last) k ≡ pair_at last at =
      get_or-append_right (pairs_to j) last (length (pairs_to j)) k _ refl past in
      let mapped_at = get_or-map make (steps_in j) at no_step _ within in
      (ap (λ (p : Pair). p.step) (read ∙ mapped_at), within)

  -- steps of one turn ascend along the list
  steps_rise : (n i k : ℕ) → i < k → k < length (pairs_to n) →
      (pair_at (pairs_to n) i).turn ≡ (pair_at (pairs_to n) k).turn →
      R (pair_at (pairs_to n) i).step (pair_at (pairs_to n) k).step ≡ Less
  steps_rise zero i k less l same = absurd (omega arith)
  steps_rise (suc j) i k less l same = elim (within_or_past k (length (pairs_to j))) [
    | inl front ↦ (
        let a = same_before space entries expanded j i (omega arith) in
        let b = same_before space entries expanded j k front in
        let turns = sym (ap (λ (p : Pair). p.turn) a) ∙ same ∙ ap (λ (p : Pair). p.turn) b in
        ap (λ p. R p (pair_at (pairs_to (suc j)) k).step) (ap (λ (p : Pair). p.step) a)
        ∙ ap (R (pair_at (pairs_to j) i).step) (ap (λ (p : Pair). p.step) b)
        ∙ steps_rise j i k less front turns)
    | inr behind ↦ elim (within_or_past i (length (pairs_to j))) [
      | inl front ↦ (
          let a = ap (λ (p : Pair). p.turn) (same_before space entries expanded j i front) in
          let b = turn_before space entries expanded j i front in
          let c = turn_behind space entries expanded j k behind l in
          absurd (omega (arith, a, b, c, same)))
      | inr past ↦ (
          let (a, _) = step_behind j i past (omega arith) in
          let (b, within) = step_behind j k behind l in
          let at = i - length (pairs_to j) in
          let to = k - length (pairs_to j) in
          let sorted = ascend (entry_at entries (slice_index expanded j)).state in
          ap (λ p. R p (pair_at (pairs_to (suc j)) k).step) a
          ∙ ap (R (get_or (steps_in j) at no_step)) b
          ∙ sorted_read R (steps_in j) at to no_step no_step sorted (omega (arith, past, less)) within)
    ]
  ]

-- ---- the entries

module _ {space : StateSpace} {D K : List State → State → Type 0} {r : SearchRecord}
    (s : IsRecordUpTo space D K by_number r) (R : Instance → Instance → Ordering) (o : IsTotalOrder R)
    (ascend : (t : State) → IsStrictlySortedBy R (space.steps t)) where
  abbrev path : ℕ → List Instance
  path i = path_of r.entries i

  -- the parent of entry k + 1, and the step that led to it
  abbrev parent_of : ℕ → ℕ
  parent_of k = (entry_at r.entries (suc k)).parent

  abbrev step_to : ℕ → Instance
  step_to k = (entry_at r.entries (suc k)).step

  abbrev pair : ℕ → Pair
  pair m = pair_at r.pairs m

  -- steps that were tried in one turn ascend
  tried_rise : (m n : ℕ) → m < n → n < length r.pairs → (pair m).turn ≡ (pair n).turn →
      R (pair m).step (pair n).step ≡ Less
  tried_rise m n less l same =
      let a = pair_is s m (omega arith) in
      let b = pair_is s n l in
      let turns = ap (λ (p : Pair). p.turn) a ∙ same ∙ sym (ap (λ (p : Pair). p.turn) b) in
      let all = length r.expanded in
      let within : n < length (all_pairs space r) = omega (arith, pairs_fit s) in
      let rise = steps_rise space R ascend r.entries r.expanded all m n less within turns in
      sym (ap (λ (p : Pair). R p.step (pair_at (all_pairs space r) n).step) a
      ∙ ap (λ (p : Pair). R (pair m).step p.step) b) ∙ rise

  -- entries of one parent are numbered in the order of their steps
  siblings : (i k : ℕ) → i < k → k < length s.made → made_in s i ≡ made_in s k →
      R (step_to i) (step_to k) ≡ Less
  siblings i k less l same =
      let rising = s.rising i k less l in
      ap (λ (e : Entry). R e.step (step_to k)) (maker s i (omega arith))
      ∙ ap (λ (e : Entry). R (pair (slice_index s.made i)).step e.step) (maker s k l)
      ∙ tried_rise (slice_index s.made i) (slice_index s.made k) rising (made_within s k l) same

  -- of entries of equal depth, the path of the lower one is before that of the other
  paths_within : (n i k : ℕ) → k ≤ n → i < k → k < length r.entries → depth s i ≡ depth s k →
      IsBefore R (path i) (path k)
  paths_within n i zero b less l same = absurd (omega arith)
  paths_within zero i (suc k) b less l same = absurd (omega arith)
  paths_within (suc n) zero (suc k) b less l same =
      let grows = depth_grows s k (omega (arith, entries_many s)) in absurd (omega (arith, grows, same))
  paths_within (suc n) (suc i) (suc k) b less l same =
      let last : k < length s.made = omega (arith, entries_many s) in
      let first : i < length s.made = omega arith in
      let low = parent_lower s k last in
      let rises = made_in-rises s i k (omega arith) last in
      let p = parent_turn s i first in
      let q = parent_turn s k last in
      let c = depth_grows s i first in
      let d = depth_grows s k last in
      let deep : depth s (parent_of i) ≡ depth s (parent_of k) = omega (arith, c, d, same) in
      rw (path_grows s i first, path_grows s k last)
      (elim (less_or_same (made_in s i) (made_in s k) rises) [
        | inl lower ↦
            before_more R (path (parent_of i)) (path (parent_of k)) (step_to i ∷ []) (step_to k ∷ [])
            (paths_within n (parent_of i) (parent_of k) (omega (arith, low)) (omega (arith, lower, p, q))
            (omega (arith, low)) deep)
        | inr one ↦
            up_to_less R (path (parent_of i)) (path (parent_of k)) (step_to i) (step_to k)
            (inl (ap path (p ∙ one ∙ sym q))) (siblings i k (omega arith) last one)
      ])

  pub paths_in_order : (i k : ℕ) → i < k → k < length r.entries → depth s i ≡ depth s k →
      IsBefore R (path i) (path k)
  paths_in_order i k less l same = paths_within k i k (omega arith) less l same

  -- An entry that a pair or a lower one made, as deep as the pair leads: its path is up to what the pair's
  -- step makes of a list that the path of the pair's entry is up to.
  path_reached : (m i h : ℕ) (step : Instance) (walked : List Instance) → m < length r.pairs →
      i < length r.entries → pair m ≡ pair_by space r.entries i i step →
      (h ≡ 0) ⊎ ((k : ℕ) × (h ≡ suc k) × (k < length s.made) × (slice_index s.made k < suc m)) →
      depth s h ≡ depth s i + 1 → IsUpTo R (path i) walked → IsUpTo R (path h) (walked ++ step ∷ [])
  path_reached m i h step walked l w is (inl e) deep before =
      let z = ap (depth s) e in absurd (omega (arith, z, deep))
  path_reached m i h step walked l w is (inr (k, e, made, below)) deep before =
      let t = turns_in_order s (slice_index s.made k) m (omega arith) l in
      let grows = depth_grows s k made in
      let z = ap (depth s) e in
      let from : path h ≡ path (parent_of k) ++ step_to k ∷ [] = ap path e ∙ path_grows s k made in
      let order = less_or_same (made_in s k) i (omega (arith, t, turn)) in
      rw from (of_parent (omega (arith, grows, z, deep)) order)
    where
      turn : (pair m).turn ≡ i
      turn = ap (λ (p : Pair). p.turn) is

      -- the pair of the entry is the one that leads here, or a lower one of its turn
      of_step : made_in s k ≡ i → (slice_index s.made k < m) ⊎ (slice_index s.made k ≡ m) →
          (step_to k ≡ step) ⊎ (R (step_to k) step ≡ Less)
      of_step one (inl lower) =
          let rise = tried_rise (slice_index s.made k) m lower l (one ∙ sym turn) in
          inr (ap (λ (e : Entry). R e.step step) (maker s k made)
          ∙ ap (λ (p : Pair). R (pair (slice_index s.made k)).step p.step) (sym is) ∙ rise)
      of_step one (inr same) =
          inl (ap (λ (e : Entry). e.step) (maker s k made) ∙ ap (λ n. (pair n).step) same
          ∙ ap (λ (p : Pair). p.step) is)

      ends : parent_of k ≡ i → (step_to k ≡ step) ⊎ (R (step_to k) step ≡ Less) →
          IsUpTo R (path (parent_of k) ++ step_to k ∷ []) (walked ++ step ∷ [])
      ends from (inl same) =
          let here = up_to_same R (path i) walked (step ∷ []) before in
          subst (λ a. IsUpTo R (path (parent_of k) ++ a ∷ []) (walked ++ step ∷ [])) (sym same)
          (subst (λ j. IsUpTo R (path j ++ step ∷ []) (walked ++ step ∷ [])) (sym from) here)
      ends from (inr less) =
          let here = up_to_less R (path i) walked (step_to k) step before less in
          inr (subst (λ j. IsBefore R (path j ++ step_to k ∷ []) (walked ++ step ∷ [])) (sym from) here)

      of_parent : depth s (parent_of k) ≡ depth s i → (made_in s k < i) ⊎ (made_in s k ≡ i) →
          IsUpTo R (path (parent_of k) ++ step_to k ∷ []) (walked ++ step ∷ [])
      of_parent even (inl lower) =
          let p = parent_turn s k made in
          let order = paths_in_order (parent_of k) i (omega (arith, p, lower)) w even in
          let first = before_up_to R o (path (parent_of k)) (path i) walked order before in
          inr (before_more R (path (parent_of k)) walked (step_to k ∷ []) (step ∷ []) first)
      of_parent even (inr one) =
          let order = less_or_same (slice_index s.made k) m (omega arith) in
          ends (parent_turn s k made ∙ one) (of_step one order)

  -- ---- the plan

  abbrev all : List Pair
  all = all_pairs space r

  -- a step of the entry expanded last leads to no goal state before the step of the next pair does
  last_step : {at : Pair} → IsNextPair space r at → (i : ℕ) → i ≡ at.turn → (step : Instance) →
      Contains (space.steps (entry_at r.entries i).state) step →
      IsTrue (space.is_goal (space.result (entry_at r.entries i).state step)) →
      (at.step ≡ step) ⊎ (R at.step step ≡ Less)
  last_step {at = at} next i here step step_of goal =
      let (turn, of) = next_tried next in
      let within : i < length r.expanded = omega (arith, here, turn) in
      let is : slice_index r.expanded i ≡ i = expanded_in_turn s i within in
      let there = subst (λ h. Contains (space.steps (entry_at r.entries h).state) step) (sym is) step_of in
      let in_turn = step_in_turn space r.entries r.expanded i step there in
      let made = pair_by space r.entries i (slice_index r.expanded i) step in
      let in_all = turn_within space r.entries r.expanded (length r.expanded) i made within in_turn in
      placed (subst (λ h. Contains all (pair_by space r.entries i h step)) is in_all)
    where
      at_is : pair_at all (length r.pairs) ≡ at
      at_is =
          ap (λ ps. pair_at ps (length r.pairs)) next.pairs_are
          ∙ get_or_at r.pairs at next.rest _ (length r.pairs) refl

      -- the pair of the step comes after the next one, or is the next one, or was tried
      by_place : (m : ℕ) → m < length all → pair_at all m ≡ pair_by space r.entries i i step →
          (m < length r.pairs) ⊎ ((m ≡ length r.pairs) ⊎ (length r.pairs < m)) →
          (at.step ≡ step) ⊎ (R at.step step ≡ Less)
      by_place m l m_is (inl tried) =
          let tried_is = sym (pair_is s m tried) ∙ m_is in
          absurd (goal_or_not (s.no_goal m _ tried)
          (subst (λ (p : Pair). IsTrue (space.is_goal p.target)) (sym tried_is) goal))
      by_place m l m_is (inr (inl same)) =
          inl (ap (λ (p : Pair). p.step) (sym at_is ∙ ap (pair_at all) (sym same) ∙ m_is))
      by_place m l m_is (inr (inr past)) =
          let turns : (pair_at all (length r.pairs)).turn ≡ (pair_at all m).turn =
          ap (λ (p : Pair). p.turn) at_is ∙ sym here ∙ sym (ap (λ (p : Pair). p.turn) m_is) in
          let many = length r.expanded in
          let rise = steps_rise space R ascend r.entries r.expanded many (length r.pairs) m past l turns in
          inr (sym (ap (λ (p : Pair). R p.step (pair_at all m).step) at_is
          ∙ ap (λ (p : Pair). R at.step p.step) m_is) ∙ rise)

      placed : Contains all (pair_by space r.entries i i step) → (at.step ≡ step) ⊎ (R at.step step ≡ Less)
      placed (m, l, e) =
          by_place m l (get_or_default all m _ _ l ∙ e) (less_same_past m (length r.pairs))

  -- the plan that the next pair ends
  abbrev plan_of : Pair → List Instance
  plan_of at = path at.entry ++ at.step ∷ []

  -- Where steps from an entry lead to a goal state, and with the entry's depth are as many as the plan's, the
  -- plan is up to a list that the entry's path is up to, and then those steps.
  least_from : {at : Pair} → ((seen : List State) (t : State) → D seen t → IsDeadEnd space t) →
      IsFalse (space.is_goal space.initial) → IsNextPair space r at →
      (steps : List Instance) (i : ℕ) (walked : List Instance) → i < length r.entries →
      IsUpTo R (path i) walked → (last : State) → LeadsTo space (entry_at r.entries i).state steps last →
      IsTrue (space.is_goal last) → depth s i + length steps ≡ depth s at.entry + 1 →
      IsUpTo R (plan_of at) (walked ++ steps)
  least_from sound start next [] i walked l before last leads goal many =
      let here = subst (λ t. IsTrue (space.is_goal t)) (sym leads) goal in
      absurd (goal_or_not (entry_no_goal s start i l) here)
  least_from {at = at} sound start next (step ∷ steps) i walked l before last leads goal many =
      let (turn, of) = next_tried next in
      by_turn (of.entry_is ∙ expanded_in_turn s at.turn turn) (less_same_past i at.turn)
      (λ h rest to there from even.
      least_from {at = at} sound start next steps h rest there to last from goal even)
    where
      past : at.entry ≡ at.turn → (i ≡ at.turn) ⊎ (at.turn < i) → depth s at.entry ≤ depth s i
      past is (inl same) = (let z = ap (depth s) (same ∙ sym is) in omega (arith, z))
      past is (inr more) = depths_rise s at.entry i (omega (arith, is, more)) l

      none_left : (rest : List Instance) → length rest ≡ 0 → rest ≡ []
      none_left [] none = refl
      none_left (a ∷ rest) none = absurd (omega (arith, none))

      -- the step is the last one, from the entry of the next pair or a later one
      at_last : at.entry ≡ at.turn → space.result (entry_at r.entries i).state step ≡ last →
          (i ≡ at.turn) ⊎ (at.turn < i) → IsUpTo R (plan_of at) (walked ++ step ∷ [])
      at_last is end (inl same) =
          let entry_same : i ≡ at.entry = same ∙ sym is in
          let up_to = subst (λ j. IsUpTo R (path j) walked) entry_same before in
          let met = subst (λ t. IsTrue (space.is_goal t)) (sym end) goal in
          elim (last_step next i same step leads.0 met) [
            | inl one ↦
                subst (λ a. IsUpTo R (plan_of at) (walked ++ a ∷ [])) one
                (up_to_same R (path at.entry) walked (at.step ∷ []) up_to)
            | inr less ↦ inr (up_to_less R (path at.entry) walked at.step step up_to less)
          ]
      at_last is end (inr more) =
          let deep = past is (inr more) in
          let order = paths_in_order at.entry i (omega (arith, is, more)) l (omega (arith, deep, many)) in
          let first = before_up_to R o (path at.entry) (path i) walked order before in
          inr (before_more R (path at.entry) walked (at.step ∷ []) (step ∷ []) first)

      -- the step was tried: it leads to a registered state, one step deeper, since no goal state is nearer
      onwards : at.entry ≡ at.turn → i < at.turn →
          ((h : ℕ) (rest : List Instance) → IsUpTo R (path h) rest → h < length r.entries →
          LeadsTo space (entry_at r.entries h).state steps last →
          depth s h + length steps ≡ depth s at.entry + 1 → IsUpTo R (plan_of at) (rest ++ steps)) →
          IsUpTo R (plan_of at) (walked ++ step ∷ steps)
      onwards is less go_on =
          let (m, under, same) = tried_before s next i step less leads.0 in
          let target_same = ap (λ (p : Pair). p.target) same in
          let rest = subst (λ t. LeadsTo space t steps last) (sym target_same) leads.1 in
          elim (onward s m under) [
            | inl dropped ↦ absurd (sound _ _ dropped steps last rest goal)
            | inr known ↦ (
                let (h, there, state, by) = known in
                let deeper = one_deeper s m i h step under l same by in
                let from = subst (λ t. LeadsTo space t steps last) (sym state) rest in
                elim (less_or_same (depth s h) (depth s i + 1) deeper) [
                  | inl nearer ↦
                      absurd (none_nearer s {at = at} sound start next steps h there last from goal
                      (omega (arith, nearer, many)))
                  | inr deep ↦
                      subst (IsUpTo R (plan_of at)) (append_assoc walked (step ∷ []) steps)
                      (go_on h (walked ++ step ∷ [])
                      (path_reached m i h step walked under l same by deep before) there from
                      (omega (arith, deep, many)))
                ])
          ]

      by_turn : at.entry ≡ at.turn → (i < at.turn) ⊎ ((i ≡ at.turn) ⊎ (at.turn < i)) →
          ((h : ℕ) (rest : List Instance) → IsUpTo R (path h) rest → h < length r.entries →
          LeadsTo space (entry_at r.entries h).state steps last →
          depth s h + length steps ≡ depth s at.entry + 1 → IsUpTo R (plan_of at) (rest ++ steps)) →
          IsUpTo R (plan_of at) (walked ++ step ∷ steps)
      by_turn is (inl less) go_on = onwards is less go_on
      by_turn is (inr other) go_on =
          let low = past is other in
          let none = none_left steps (omega (arith, many, low)) in
          let target = space.result (entry_at r.entries i).state step in
          let end = subst (λ rest. LeadsTo space target rest last) none leads.1 in
          subst (λ (rest : List Instance). IsUpTo R (plan_of at) (walked ++ step ∷ rest)) (sym none)
          (at_last is end other)

  -- of steps from the initial state to a goal state, as many as the plan's, the plan's are the first
  pub found_first : {plan : List Instance} {stats : Stats} →
      ((seen : List State) (t : State) → D seen t → IsDeadEnd space t) →
      IsFalse (space.is_goal space.initial) → IsFoundAt space r plan stats →
      (steps : List Instance) (last : State) → LeadsTo space space.initial steps last →
      IsTrue (space.is_goal last) → length steps ≡ length plan → IsUpTo R plan steps
  found_first {plan = plan} sound start found steps last leads goal same =
      let many = ap length found.plan_is ∙ length-append (path found.at.entry) (found.at.step ∷ []) in
      let from = subst (λ t. LeadsTo space t steps last) (sym (first_state s)) leads in
      subst (λ p. IsUpTo R p steps) (sym found.plan_is)
      (least_from sound start found.next steps 0 [] (omega (arith, entries_many s)) (inl refl) last from goal
      (omega (arith, same, many)))
