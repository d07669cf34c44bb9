-- The entries of a record: what made each one, that its parent has a lower number, and the path to it.
use Rattle.std.proofs.Common.{◌≡◌, ◌⊎◌, ◌<◌, ◌≤◌, ℕ, zero, suc, nat_lt, List, [], ◌∷◌, ◌++◌, map, length}
use Rattle.std.proofs.Common.{get_or, slice_index, Contains, refl, sym, ap, ◌∙◌, subst, inl, inr, arith}
use Rattle.std.proofs.Common.{length-append}
use Rattle.std.specs.List.{filter}
use Rattle.std.proofs.lemmas.Bool.{ltb-true}
use Rattle.std.proofs.lemmas.List.{get_or-map, get_or_append_left, length-map, get_or_default}
use Rattle.std.proofs.lemmas.List.Elements.{Contains-get_or}
use Rattle.pl_task.specs.Instance.{Instance}
use Rattle.pl_task.specs.States.{State}
use Rattle.pl_registry.specs.StateSpace.{StateSpace, LeadsTo}
use Rattle.pl_registry.specs.SearchRecord.{Entry, Pair, SearchRecord, entry_by, entry_at, pair_at, all_pairs}
use Rattle.pl_registry.specs.SearchRecord.{path_within, path_of, seen_before, IsRecordUpTo}
use Rattle.pl_registry.proofs.Lists.{Contains-cons_cases, Contains-map_cases, Contains-from_filter}
use Rattle.pl_registry.proofs.Turns.{IsPairOf, pair_below, turns_rise}

same_or_less : (i k : ℕ) → i ≤ k → (i ≡ k) ⊎ (i < k)
same_or_less i k l = grind arith

-- steps that lead to a state, and one more from there
pub leads_on : (space : StateSpace) (s t : State) (steps : List Instance) (step : Instance)
    → LeadsTo space s steps t → Contains (space.steps t) step →
    LeadsTo space s (steps ++ step ∷ []) (space.result t step)
leads_on space s t [] step h m =
    (subst (λ u. Contains (space.steps u) step) (sym h) m, ap (λ u. space.result u step) h)
leads_on space s t (a ∷ steps) step h m = (h.0, leads_on space (space.result s a) t steps step h.1 m)

module _ {space : StateSpace} {D K : List State → State → Type 0} {rank : State → ℕ} {r : SearchRecord}
    (s : IsRecordUpTo space D K rank r) where
  pub entries_many : length r.entries ≡ suc (length s.made)
  entries_many = ap length s.entries_are ∙ ap suc (length-map s.made (λ m. entry_by (pair_at r.pairs m)))

  pub first_state : (entry_at r.entries 0).state ≡ space.initial
  first_state = ap (λ es. (entry_at es 0).state) s.entries_are

  -- entry k + 1 is made by the pair at the place that stands at k
  pub maker : (k : ℕ) → k < length s.made → entry_at r.entries (suc k) ≡ entry_by
      (pair_at r.pairs (slice_index s.made k))
  maker k l = ap (λ es. entry_at es (suc k)) s.entries_are
      ∙ get_or-map (λ m. entry_by (pair_at r.pairs m)) s.made k 0 _ l

  pub pair_is : (m : ℕ) → m < length r.pairs → pair_at (all_pairs space r) m ≡ pair_at r.pairs m
  pair_is m l = let (rest, e) = s.begun in ap (λ ps. pair_at ps m) e ∙ get_or_append_left r.pairs rest _ m l

  pub pairs_fit : length r.pairs ≤ length (all_pairs space r)
  pairs_fit = let (rest, e) = s.begun in let many = ap length e
      ∙ length-append r.pairs rest in omega (arith, many)

  -- a pair of the record is of an expanded entry and a step of its state
  pub tried : (m : ℕ) → m < length r.pairs → ((pair_at r.pairs m).turn < length r.expanded)
      × IsPairOf space r.entries r.expanded (pair_at r.pairs m)
  tried m l =
      let fits : m < length (all_pairs space r) = omega (arith, pairs_fit) in
      let there = Contains-get_or (all_pairs space r) m (pair_at r.pairs m) fits in
      let e : get_or (all_pairs space r) m (pair_at r.pairs m) ≡ pair_at r.pairs m =
      get_or_default (all_pairs space r) m _ _ fits ∙ pair_is m l in
      pair_below space r.entries r.expanded (length r.expanded) (pair_at r.pairs m)
      (subst (Contains (all_pairs space r)) e there)

  pub turns_in_order : (i k : ℕ) → i ≤ k → k < length r.pairs
      → (pair_at r.pairs i).turn ≤ (pair_at r.pairs k).turn
  turns_in_order i k l h =
      let a = ap (λ (p : Pair). p.turn) (pair_is i (omega arith)) in
      let b = ap (λ (p : Pair). p.turn) (pair_is k h) in
      let c = turns_rise space r.entries r.expanded (length r.expanded) i k l (omega (arith, pairs_fit)) in
      omega (arith, a, b, c)

  pub made_within : (k : ℕ) → k < length s.made → slice_index s.made k < length r.pairs
  made_within k l = s.within k 0 l

  pub made_in_order : (i k : ℕ) → i ≤ k → k < length s.made → slice_index s.made i ≤ slice_index s.made k
  made_in_order i k l h = elim (same_or_less i k l) [
    | inl e ↦ (let same = ap (λ n. slice_index s.made n) e in omega (arith, same))
    | inr less ↦ (let b = s.rising i k less h in omega (arith, b))
  ]

  -- the turn in which entry k + 1 was made
  abbrev pub made_in : ℕ → ℕ
  made_in k = (pair_at r.pairs (slice_index s.made k)).turn

  pub made_in-rises : (i k : ℕ) → i ≤ k → k < length s.made → made_in i ≤ made_in k
  made_in-rises i k l h = turns_in_order (slice_index s.made i) (slice_index s.made k) (made_in_order i k l h)
      (made_within k h)

  -- the parent of an entry is the one expanded in the turn in which the entry was made
  pub parent_is : (k : ℕ) → k < length s.made
      → ((entry_at r.entries (suc k)).parent ≡ slice_index r.expanded (made_in k))
      × (made_in k < length r.expanded)
  parent_is k l =
      let (turn, of) = tried (slice_index s.made k) (made_within k l) in
      (ap (λ (e : Entry). e.parent) (maker k l) ∙ of.entry_is, turn)

  pub expanded_registered : (j : ℕ) → j < length r.expanded → slice_index r.expanded j < length r.entries
  expanded_registered j l = elim (s.in_order j l).open_itself.early [
    | inl e ↦ omega (arith, e, entries_many)
    | inr before ↦ (let (k, e, w, _) = before in omega (arith, e, w, entries_many))
  ]

  -- what is expanded in the turn in which an entry was made was made before it
  pub parent_lower : (k : ℕ) → k < length s.made → (entry_at r.entries (suc k)).parent ≤ k
  parent_lower k l =
      let (p, t) = parent_is k l in
      elim (s.in_order (made_in k) t).open_itself.early [
        | inl e ↦ omega (arith, e, p)
        | inr before ↦ (let (h, e, w, b) = before in elim (same_or_past h k) [
          | inl less ↦ omega (arith, e, p, less)
          | inr past ↦ (let c = made_in-rises k h past w in absurd (omega (arith, b, c)))
        ])
      ]
    where
      same_or_past : (h k : ℕ) → (h < k) ⊎ (k ≤ h)
      same_or_past h k = grind arith

  -- a path is the same with any more steps allowed
  pub path_settled : (a b i : ℕ) → i ≤ a → i ≤ b → i < length r.entries
      → path_within r.entries a i ≡ path_within r.entries b i
  path_settled zero zero i la lb l = refl
  path_settled zero (suc b) zero la lb l = refl
  path_settled zero (suc b) (suc i) la lb l = absurd (omega arith)
  path_settled (suc a) zero zero la lb l = refl
  path_settled (suc a) zero (suc i) la lb l = absurd (omega arith)
  path_settled (suc a) (suc b) zero la lb l = refl
  path_settled (suc a) (suc b) (suc i) la lb l =
      let low = parent_lower i (omega (arith, entries_many)) in
      ap (λ p. p ++ (entry_at r.entries (suc i)).step ∷ [])
      (path_settled a b (entry_at r.entries (suc i)).parent (omega (arith, low)) (omega (arith, low))
      (omega (arith, low)))

  -- the path of an entry is its parent's, then its step
  pub path_grows : (k : ℕ) → k < length s.made →
      path_of r.entries (suc k) ≡ path_of r.entries (entry_at r.entries (suc k)).parent
      ++ (entry_at r.entries (suc k)).step ∷ []
  path_grows k l =
      let low = parent_lower k l in
      ap (λ p. p ++ (entry_at r.entries (suc k)).step ∷ [])
      (path_settled k (entry_at r.entries (suc k)).parent (entry_at r.entries (suc k)).parent low
      (omega arith) (omega (arith, low, entries_many)))

  -- the path of an entry leads to its state
  path_leads_within : (n i : ℕ) → i ≤ n → i < length r.entries
      → LeadsTo space space.initial (path_of r.entries i) (entry_at r.entries i).state
  path_leads_within n zero l w = sym first_state
  path_leads_within zero (suc k) l w = absurd (omega arith)
  path_leads_within (suc n) (suc k) l w =
      let made : k < length s.made = omega (arith, entries_many) in
      let low = parent_lower k made in
      let there = path_leads_within n (entry_at r.entries (suc k)).parent (omega (arith, low))
      (omega (arith, low)) in
      let is = maker k made in
      let of = (tried (slice_index s.made k) (made_within k made)).1 in
      rw (path_grows k made) (
      let step_is = ap (λ (e : Entry). e.step) is in
      let parent_same = ap (λ (e : Entry). e.parent) is in
      let state_is = ap (λ (e : Entry). e.state) is in
      let step_of : Contains (space.steps (entry_at r.entries (entry_at r.entries (suc k)).parent).state)
      (entry_at r.entries (suc k)).step =
      subst (λ i. Contains (space.steps (entry_at r.entries i).state) (entry_at r.entries (suc k)).step)
      (sym parent_same)
      (subst (Contains
      (space.steps (entry_at r.entries (pair_at r.pairs (slice_index s.made k)).entry).state))
      (sym step_is) of.step_of) in
      let target_is : space.result (entry_at r.entries (entry_at r.entries (suc k)).parent).state
      (entry_at r.entries (suc k)).step ≡ (entry_at r.entries (suc k)).state =
      ap (λ i. space.result (entry_at r.entries i).state (entry_at r.entries (suc k)).step) parent_same
      ∙ ap (λ a. space.result (entry_at r.entries (pair_at r.pairs (slice_index s.made k)).entry).state a)
      step_is ∙ sym of.target_is ∙ sym state_is in
      subst (LeadsTo space space.initial
      (path_of r.entries (entry_at r.entries (suc k)).parent ++ (entry_at r.entries (suc k)).step ∷ []))
      target_is
      (leads_on space space.initial (entry_at r.entries (entry_at r.entries (suc k)).parent).state
      (path_of r.entries (entry_at r.entries (suc k)).parent) (entry_at r.entries (suc k)).step there
      step_of))

  pub path_leads : (i : ℕ) → i < length r.entries → LeadsTo space space.initial (path_of r.entries i)
      (entry_at r.entries i).state
  path_leads i w = path_leads_within i i (omega arith) w

  -- a state seen before a pair is that of entry 0, or of an entry made by a lower pair
  pub seen_entry : (m : ℕ) (t : State) → Contains (seen_before space r.pairs s.made m) t →
      (i : ℕ) × (i < length r.entries) × ((entry_at r.entries i).state ≡ t)
      × ((i ≡ 0) ⊎ ((k : ℕ) × (i ≡ suc k) × (k < length s.made) × (slice_index s.made k < m)))
  seen_entry m t h =
      elim (Contains-cons_cases space.initial
      (map (λ k. (pair_at r.pairs k).target) (filter (λ k. nat_lt k m) s.made)) t h) [
        | inl e ↦ (0, omega (arith, entries_many), first_state ∙ e, inl refl)
        | inr later ↦ (
            let (at, kept, e) = Contains-map_cases (λ k. (pair_at r.pairs k).target)
            (filter (λ k. nat_lt k m) s.made) t later in
            let (there, below) = Contains-from_filter (λ k. nat_lt k m) s.made at kept in
            let (k, l, is) = there in
            let is_zero : slice_index s.made k ≡ at = get_or_default s.made k 0 at l ∙ is in
            let under : slice_index s.made k < m = (let b = ltb-true at m below in omega (arith, is_zero, b))
            in (
              suc k,
              omega (arith, entries_many),
              ap (λ (e : Entry). e.state) (maker k l)
                  ∙ ap (λ n. (pair_at r.pairs n).target) is_zero ∙ e,
              inr (k, refl, l, under),
            ))
      ]
