-- A found list leads to a goal state, a closed record has no plan, and a full one has more states than the
-- limit.
use Rattle.std.proofs.Common.{◌≡◌, ◌≢◌, ◌⊎◌, ◌<◌, ℕ, zero, suc, Bool, true, false, IsTrue, IsFalse, List, []}
use Rattle.std.proofs.Common.{◌∷◌, ◌++◌, length, slice_index, Contains, All, AllPairs, sym, ap, ◌∙◌, subst}
use Rattle.std.proofs.Common.{inl, inr, arith, length-append}
use Rattle.std.proofs.lemmas.List.{get_or-map, get_or_default, length-map}
use Rattle.std.proofs.lemmas.List.Elements.{Contains-append_left, Contains-append_right, All-push}
use Rattle.std.proofs.lemmas.List.Quantifiers.{all_pairs_push}
use Rattle.pl_task.specs.Instance.{Instance}
use Rattle.pl_task.specs.States.{State}
use Rattle.pl_registry.specs.StateSpace.{StateSpace, LeadsTo}
use Rattle.pl_registry.specs.Cut.{IsDeadEnd}
use Rattle.pl_registry.specs.SearchRecord.{Entry, Pair, SearchRecord, pair_by, entry_at, pair_at, path_of}
use Rattle.pl_registry.specs.SearchRecord.{states_of, seen_before, IsRecordUpTo}
use Rattle.pl_registry.specs.Ending.{IsNextPair, IsFoundAt, IsFull, IsClosed}
use Rattle.pl_registry.specs.declared.ended.Stats.{Stats}
use Rattle.pl_registry.proofs.Lists.{Contains-cons_first}
use Rattle.pl_registry.proofs.Turns.{IsPairOf, pair_below, step_in_turn, turn_within}
use Rattle.pl_registry.proofs.Entries.{entries_many, first_state, maker, made_within, leads_on, path_leads}
use Rattle.pl_registry.proofs.Entries.{expanded_registered, seen_entry}

unit_true : true ≡ false → ⊥
unit_true e = cc

-- no state is both a goal state and none
pub goal_or_not : {b : Bool} → IsFalse b → IsTrue b → ⊥
goal_or_not f t = unit_true (sym t ∙ f)

-- the next pair is of an expanded entry and a step of its state
pub next_tried : {space : StateSpace} {r : SearchRecord} {at : Pair} (n : IsNextPair space r at) →
    (at.turn < length r.expanded) × IsPairOf space r.entries r.expanded at
next_tried {space = space} {r = r} {at = at} n =
    pair_below space r.entries r.expanded (length r.expanded) at
    (subst (λ ps. Contains ps at) (sym n.pairs_are)
    (Contains-append_right r.pairs (at ∷ n.rest) at (Contains-cons_first at n.rest)))

module _ {space : StateSpace} {D K : List State → State → Type 0} {rank : State → ℕ} {r : SearchRecord}
    (s : IsRecordUpTo space D K rank r) where
  -- the path of the next pair's entry and its step lead to its target
  pub next_leads : {at : Pair} → IsNextPair space r at
      → LeadsTo space space.initial (path_of r.entries at.entry ++ at.step ∷ []) at.target
  next_leads {at = at} n =
      let (turn, of) = next_tried n in
      let there : at.entry < length r.entries = subst (λ i. i < length r.entries) (sym of.entry_is)
      (expanded_registered s at.turn turn) in
      subst (LeadsTo space space.initial (path_of r.entries at.entry ++ at.step ∷ [])) (sym of.target_is)
      (leads_on space space.initial (entry_at r.entries at.entry).state (path_of r.entries at.entry) at.step
      (path_leads s at.entry there) of.step_of)

  -- and so do those of each pair that was tried
  pub pair_leads : (p : Pair) → Contains r.pairs p →
      (steps : List Instance) × LeadsTo space space.initial steps p.target
  pair_leads p has =
      let (rest, all) = s.begun in
      let among = subst (λ ps. Contains ps p) (sym all) (Contains-append_left r.pairs rest p has) in
      let (turn, of) = pair_below space r.entries r.expanded (length r.expanded) p among in
      let there = subst (λ i. i < length r.entries) (sym of.entry_is) (expanded_registered s p.turn turn) in
      let from = (entry_at r.entries p.entry).state in
      let path = path_of r.entries p.entry in
      let leads = leads_on space space.initial from path p.step (path_leads s p.entry there) of.step_of in (
        path ++ p.step ∷ [],
        subst (LeadsTo space space.initial (path ++ p.step ∷ [])) (sym of.target_is) leads,
      )

  pub found_leads : {plan : List Instance} {stats : Stats} → IsFoundAt space r plan stats →
      (last : State) × LeadsTo space space.initial plan last × IsTrue (space.is_goal last)
  found_leads {plan = plan} f = (
    f.at.target,
    subst (λ p. LeadsTo space space.initial p f.at.target) (sym f.plan_is)
        (next_leads f.next),
    f.goal,
  )

  -- no registered state is a goal state
  pub entry_no_goal : IsFalse (space.is_goal space.initial) → (i : ℕ) → i < length r.entries
      → IsFalse (space.is_goal (entry_at r.entries i).state)
  entry_no_goal start zero l = ap space.is_goal (first_state s) ∙ start
  entry_no_goal start (suc k) l =
      let made : k < length s.made = omega (arith, entries_many s) in
      ap (λ (e : Entry). space.is_goal e.state) (maker s k made)
      ∙ s.no_goal (slice_index s.made k) _ (made_within s k made)

  -- where a pair that was tried leads: its target is dropped, or a registered state
  pub onward : (m : ℕ) → m < length r.pairs → D (seen_before space r.pairs s.made m)
      (pair_at r.pairs m).target ⊎
      ((i : ℕ) × (i < length r.entries) × ((entry_at r.entries i).state ≡ (pair_at r.pairs m).target) ×
      ((i ≡ 0) ⊎ ((k : ℕ) × (i ≡ suc k) × (k < length s.made) × (slice_index s.made k < suc m))))
  onward m l = elim (s.dropped_or_known m l) [
    | inl dropped ↦ inl dropped
    | inr known ↦ inr (seen_entry s (suc m) (pair_at r.pairs m).target known)
  ]

  -- from the entries of a closed record no goal state is reached, where none is reached from the targets that
  -- are not registered
  closed_walk : {stats : Stats} → ((m : ℕ) → m < length r.pairs → IsDeadEnd space (pair_at r.pairs m).target ⊎
      ((i : ℕ) × (i < length r.entries) × ((entry_at r.entries i).state ≡ (pair_at r.pairs m).target))) →
      IsFalse (space.is_goal space.initial) → IsClosed space r stats →
      (steps : List Instance) (i : ℕ) → i < length r.entries → (last : State)
      → LeadsTo space (entry_at r.entries i).state steps last → IsTrue (space.is_goal last) → ⊥
  closed_walk go start closed [] i l last leads goal =
      goal_or_not (entry_no_goal start i l) (subst (λ t. IsTrue (space.is_goal t)) (sym leads) goal)
  closed_walk {stats = stats} go start closed (step ∷ steps) i l last leads goal =
      let (j, w, e) = closed.every i l in
      let is : slice_index r.expanded j ≡ i = get_or_default r.expanded j 0 i w ∙ e in
      let step_of = subst (λ h. Contains (space.steps (entry_at r.entries h).state) step) (sym is) leads.0 in
      let in_all = turn_within space r.entries r.expanded (length r.expanded) j
      (pair_by space r.entries j (slice_index r.expanded j) step) w
      (step_in_turn space r.entries r.expanded j step step_of) in
      let (m, under, same) =
      subst (λ ps. Contains ps (pair_by space r.entries j (slice_index r.expanded j) step))
      closed.pairs_are in_all in
      let pair_same : pair_at r.pairs m ≡ pair_by space r.entries j (slice_index r.expanded j) step =
      get_or_default r.pairs m _ _ under ∙ same in
      let target_same : (pair_at r.pairs m).target ≡ space.result (entry_at r.entries i).state step =
      ap (λ (p : Pair). p.target) pair_same ∙ ap (λ h. space.result (entry_at r.entries h).state step) is in
      let rest : LeadsTo space (pair_at r.pairs m).target steps last =
      subst (λ t. LeadsTo space t steps last) (sym target_same) leads.1 in
      elim (go m under) [
        | inl dead ↦ dead steps last rest goal
        | inr known ↦ (let (h, there, state) = known in
            closed_walk {stats = stats} go start closed steps h there last
            (subst (λ t. LeadsTo space t steps last) (sym state) rest) goal)
      ]

  closed_from_first : {stats : Stats}
      → ((m : ℕ) → m < length r.pairs → IsDeadEnd space (pair_at r.pairs m).target ⊎
      ((i : ℕ) × (i < length r.entries) × ((entry_at r.entries i).state ≡ (pair_at r.pairs m).target))) →
      IsFalse (space.is_goal space.initial) → IsClosed space r stats → IsDeadEnd space space.initial
  closed_from_first {stats = stats} go start closed steps last leads goal =
      closed_walk {stats = stats} go start closed steps 0 (omega (arith, entries_many s)) last
      (subst (λ t. LeadsTo space t steps last) (sym (first_state s)) leads) goal

  -- no goal state is reached at all, where none is reached from what is dropped
  pub closed_dead : {stats : Stats} → ((seen : List State) (t : State) → D seen t → IsDeadEnd space t)
      → IsFalse (space.is_goal space.initial) → IsClosed space r stats →
      IsDeadEnd space space.initial
  closed_dead {stats = stats} sound start closed = closed_from_first {stats = stats} go start closed
    where
      go : (m : ℕ) → m < length r.pairs → IsDeadEnd space (pair_at r.pairs m).target ⊎
          ((i : ℕ) × (i < length r.entries) × ((entry_at r.entries i).state ≡ (pair_at r.pairs m).target))
      go m l = elim (onward m l) [
        | inl dropped ↦ inl (sound _ _ dropped)
        | inr known ↦ (let (h, there, state, _) = known in inr (h, there, state))
      ]

  -- and where every target is registered
  pub known_dead : {stats : Stats} → All (λ (p : Pair). Contains (states_of r.entries) p.target) r.pairs
      → IsFalse (space.is_goal space.initial) → IsClosed space r stats →
      IsDeadEnd space space.initial
  known_dead {stats = stats} known start closed = closed_from_first {stats = stats} go start closed
    where
      go : (m : ℕ) → m < length r.pairs → IsDeadEnd space (pair_at r.pairs m).target ⊎
          ((i : ℕ) × (i < length r.entries) × ((entry_at r.entries i).state ≡ (pair_at r.pairs m).target))
      go m l =
          let (i, w, e) = known m _ l in
          let there : i < length r.entries = subst (λ n. i < n) (length-map r.entries (λ e. e.state)) w in
          inr (
            i,
            there,
            sym (get_or-map (λ (e : Entry). e.state) r.entries i _ (pair_at r.pairs m).target there) ∙ e,
          )

  -- each registered state is reached by steps
  pub entries_reached : All (λ t. (steps : List Instance) × LeadsTo space space.initial steps t)
      (states_of r.entries)
  entries_reached k d l =
      let w : k < length r.entries = subst (λ n. k < n) (length-map r.entries (λ e. e.state)) l in (
        path_of r.entries k,
        subst (LeadsTo space space.initial (path_of r.entries k))
            (sym (get_or-map (λ (e : Entry). e.state) r.entries k _ d w)) (path_leads s k w),
      )

  -- the states of the entries differ
  pub states_differ : AllPairs (λ (a b : State). a ≢ b) (states_of r.entries)
  states_differ i j d less l e =
      let w : j < length r.entries = subst (λ n. j < n) (length-map r.entries (λ e. e.state)) l in
      let at_i = get_or-map (λ (e : Entry). e.state) r.entries i (entry_at [] 0) d (omega arith) in
      let at_j = get_or-map (λ (e : Entry). e.state) r.entries j (entry_at [] 0) d w in
      s.distinct i j (entry_at [] 0) less w (sym at_i ∙ e ∙ at_j)

  -- as many states as the limit and one more are reached
  pub full_reached : {limit : ℕ} {stats : Stats} → IsFull space K limit r stats →
      (states : List State) × (length states ≡ suc limit) × AllPairs (λ (a b : State). a ≢ b) states ×
      All (λ t. (steps : List Instance) × LeadsTo space space.initial steps t) states
  full_reached {limit = limit} f = (
    states_of r.entries ++ f.at.target ∷ [],
    (let a = length-append (states_of r.entries) (f.at.target ∷ []) in let b =
        length-map r.entries (λ (e : Entry). e.state) in let c = f.full in omega (arith, a, b, c)),
    all_pairs_push (λ (a b : State). a ≢ b) (states_of r.entries) f.at.target states_differ
        (λ k d l e. f.unknown (k, l, get_or_default (states_of r.entries) k f.at.target d l ∙ e)),
    All-push (λ t. (steps : List Instance) × LeadsTo space space.initial steps t)
        (states_of r.entries) f.at.target entries_reached
        (path_of r.entries f.at.entry ++ f.at.step ∷ [], next_leads f.next),
  )
