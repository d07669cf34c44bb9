-- A search by any rank, run as a fold over the steps of its entries: it comes to an end. What is dropped and
-- what is kept must be decided of the states that are reached, and so must be whether two of them are one.
-- The steps that are left of a turn end the turn, and the limit on entries ends the turns.
use Rattle.std.proofs.Common.{◌≡◌, ◌≢◌, ◌⊎◌, ◌+◌, ◌<◌, ◌≤◌, ℕ, zero, suc, IsFalse, List, [], ◌∷◌, ◌++◌}
use Rattle.std.proofs.Common.{length, slice_index, Contains, All, sym, ◌∙◌, subst, inl, inr, arith}
use Rattle.std.proofs.Common.{length-append}
use Rattle.std.proofs.lemmas.Bool.{cases_Bool}
use Rattle.std.proofs.lemmas.List.{get_or_default}
use Rattle.std.proofs.lemmas.List.Elements.{All-head, All-tail}
use Rattle.pl_task.specs.Instance.{Instance}
use Rattle.pl_task.specs.States.{State}
use Rattle.pl_registry.specs.declared.ended.Stats.{Stats}
use Rattle.pl_registry.specs.StateSpace.{StateSpace, LeadsTo}
use Rattle.pl_registry.specs.SearchRecord.{SearchRecord, entry_at, entry_by, states_of, pair_by, IsRecordUpTo}
use Rattle.pl_registry.specs.Ending.{record_at_once, IsFoundAt, IsFull, IsClosed, IsUnderWay}
use Rattle.pl_registry.specs.Held.{with_turn, with_pair, with_new}
use Rattle.pl_registry.specs.HeldByRank.{IsBetweenRanked, IsInRanked}
use Rattle.pl_registry.proofs.Lists.{Contains-nil, Contains-cons_rest, Contains-cons_cases}
use Rattle.pl_registry.proofs.Turns.{within_or_past}
use Rattle.pl_registry.proofs.Entries.{expanded_registered}
use Rattle.pl_registry.proofs.Plans.{entries_reached, next_leads}
use Rattle.pl_registry.proofs.Choosing.{HasNext, all_or_next, so_many, so_many-all, so_many-fit, so_many-push}
use Rattle.pl_registry.proofs.ByRank.{at_once, next_turn, turn_over, closed_at, next_pair, one_more_dropped}
use Rattle.pl_registry.proofs.ByRank.{one_more_known, one_more_new, found_at, full_at}

-- how a search ends that went on from an initial state that is no goal state: at a goal state, with no state
-- left, or full
pub data HowItEnds (space : StateSpace) (K : List State → State → Type 0) (limit : ℕ)
    (r : SearchRecord) : Type 0 where
  AtGoal : (plan : List Instance) (stats : Stats) → IsFoundAt space r plan stats → HowItEnds space K limit r
  AtEnd : (stats : Stats) → IsClosed space r stats → HowItEnds space K limit r
  AtLimit : (stats : Stats) → IsFull space K limit r stats → HowItEnds space K limit r

-- a record under way that has come to an end
pub record HasRun (space : StateSpace) (D K : List State → State → Type 0) (rank : State → ℕ)
    (limit : ℕ) : Type 0 where
  pub of : SearchRecord
  pub under_way : IsUnderWay space D K rank limit of
  pub how : HowItEnds space K limit of

-- steps lead to the state from the initial one
abbrev pub IsReached : StateSpace → State → Type 0
IsReached space t = (steps : List Instance) × LeadsTo space space.initial steps t

-- two states that are reached are one, or they are not
abbrev pub AreToldApart : StateSpace → Type 0
AreToldApart space = (s t : State) → IsReached space s → IsReached space t → (s ≡ t) ⊎ (s ≢ t)

-- a state that is reached may be dropped, or it may be kept, whatever was registered before
abbrev pub IsDecided : StateSpace → (List State → State → Type 0) → (List State → State → Type 0) → Type 0
IsDecided space D K = (seen : List State) (t : State) → IsReached space t → D seen t ⊎ K seen t

-- a state that is reached is among those of a list that are, or it is not
pub among_or_not : (space : StateSpace) → AreToldApart space → (states : List State) (t : State) →
    IsReached space t → All (IsReached space) states → Contains states t ⊎ (Contains states t → ⊥)
among_or_not space apart [] t leads reached = inr (Contains-nil t)
among_or_not space apart (s ∷ states) t leads reached =
    elim (apart s t (All-head (IsReached space) s states reached) leads) [
      | inl e ↦ inl (0, omega arith, e)
      | inr other ↦ (
          let later = All-tail (IsReached space) s states reached in
          elim (among_or_not space apart states t leads later) [
            | inl has ↦ inl (Contains-cons_rest s states t has)
            | inr none ↦ inr (λ has. elim (Contains-cons_cases s states t has) [
              | inl e ↦ other e
              | inr rest ↦ none rest
            ])
          ])
    ]

module _ (space : StateSpace) (D K : List State → State → Type 0) (rank : State → ℕ) (limit : ℕ)
    (decide : IsDecided space D K) (apart : AreToldApart space)
    (start : IsFalse (space.is_goal space.initial)) where
  -- the search goes on after these turns
  abbrev GoesOn : List ℕ → Type 0
  GoesOn past = (r : SearchRecord) × IsBetweenRanked space D K rank past r × (length r.entries ≤ limit)

  ended : (r : SearchRecord) → IsRecordUpTo space D K rank r → length r.entries ≤ limit →
      HowItEnds space K limit r → HasRun space D K rank limit
  ended r stands few how =
      record { of = r; under_way = record { no_goal = start; few = few; stands = stands }; how = how }

  -- from a point of a turn on: an end, or the turn is over
  run_turn : (past : List ℕ) (t : ℕ) (left : List Instance) (r : SearchRecord) →
      IsInRanked space D K rank past t left r → length r.entries ≤ limit →
      HasRun space D K rank limit ⊎ GoesOn (past ++ t ∷ [])
  run_turn past t [] r h few = inr (r, turn_over t h, few)
  run_turn past t (step ∷ left) r h few =
      let next = pair_by space r.entries (length past) t step in
      let reached : IsReached space next.target = (_, next_leads h.stands (next_pair h)) in
      let states = states_of r.entries in
      let met = among_or_not space apart states next.target reached (entries_reached h.stands) in
      elim (cases_Bool (space.is_goal next.target)) [
        | inl goal ↦ inl (ended r h.stands few (AtGoal _ _ (found_at h goal)))
        | inr none ↦ elim (decide states next.target reached) [
          | inl dropped ↦ run_turn past t left (with_pair r next) (one_more_dropped h none dropped) few
          | inr kept ↦ elim met [
            | inl known ↦ run_turn past t left (with_pair r next) (one_more_known h none known) few
            | inr unknown ↦ elim (within_or_past (length r.entries) limit) [
              | inl room ↦ (
                  let many = length-append r.entries (entry_by next ∷ []) in
                  run_turn past t left (with_new r next) (one_more_new h none unknown kept)
                  (omega (arith, many, room)))
              | inr full ↦ (
                  let end = full_at h none unknown kept (omega (arith, few, full)) in
                  inl (ended r h.stands few (AtLimit _ end)))
            ]
          ]
        ]
      ]

  -- what was expanded is registered
  past_there : (past : List ℕ) (r : SearchRecord) → IsBetweenRanked space D K rank past r →
      (i : ℕ) → Contains past i → i < length r.entries
  past_there past r b i has =
      let (k, w, e) = subst (λ xs. Contains xs i) (sym b.turns_are) has in
      let read : slice_index r.expanded k ≡ i = get_or_default r.expanded k 0 i w ∙ e in
      subst (λ n. n < length r.entries) read (expanded_registered b.stands k w)

  -- every entry was expanded
  closed : (past : List ℕ) (r : SearchRecord) → IsBetweenRanked space D K rank past r →
      length r.entries ≤ limit → so_many past limit ≡ length past →
      ((i : ℕ) → i < length r.entries → Contains past i) → HasRun space D K rank limit
  closed past r b few counted all =
      let as_many = so_many-all past (length r.entries) limit all (past_there past r b) few in
      ended r b.stands few (AtEnd _ (closed_at b (sym counted ∙ as_many) all))

  -- one more entry was expanded
  counted_on : (past : List ℕ) (r : SearchRecord) → so_many past limit ≡ length past →
      length r.entries ≤ limit → (next : HasNext rank r.entries past (length r.entries)) →
      so_many (past ++ next.at ∷ []) limit ≡ length (past ++ next.at ∷ [])
  counted_on past r counted few next =
      let there = next.there in
      let more = so_many-push past next.at limit (omega (arith, there, few)) next.unexpanded in
      let many = length-append past (next.at ∷ []) in
      omega (arith, more, many, counted)

  -- the turn of the next entry: an end, or the search goes on
  next_run : (past : List ℕ) (r : SearchRecord) → IsBetweenRanked space D K rank past r →
      length r.entries ≤ limit → (next : HasNext rank r.entries past (length r.entries)) →
      HasRun space D K rank limit ⊎ GoesOn (past ++ next.at ∷ [])
  next_run past r b few next =
      let steps = space.steps (entry_at r.entries next.at).state in
      let begun = next_turn next.at b next.there next.unexpanded next.precedes in
      run_turn past next.at steps (with_turn r next.at) begun few

  -- from a point between turns on, with as many turns as the limit allows
  run_turns : (fuel : ℕ) (past : List ℕ) (r : SearchRecord) → IsBetweenRanked space D K rank past r →
      length r.entries ≤ limit → so_many past limit ≡ length past → limit ≤ length past + fuel →
      HasRun space D K rank limit
  run_turns zero past r b few counted enough = elim (all_or_next rank r.entries past (length r.entries)) [
    | inl all ↦ closed past r b few counted all
    | inr next ↦ (
        let more = counted_on past r counted few next in
        let fits = so_many-fit (past ++ next.at ∷ []) limit in
        let many = length-append past (next.at ∷ []) in
        absurd (omega (arith, more, fits, many, enough)))
  ]
  run_turns (suc fuel) past r b few counted enough =
      elim (all_or_next rank r.entries past (length r.entries)) [
        | inl all ↦ closed past r b few counted all
        | inr next ↦ elim (next_run past r b few next) [
          | inl end ↦ end
          | inr over ↦ (
              let (q, between, fits) = over in
              let many = length-append past (next.at ∷ []) in
              run_turns fuel (past ++ next.at ∷ []) q between fits (counted_on past r counted few next)
              (omega (arith, enough, many)))
        ]
      ]

  none_yet : (n : ℕ) → so_many [] n ≡ 0
  none_yet n =
      so_many-all [] 0 n (λ i l. absurd (omega (arith, l))) (λ i has. absurd (Contains-nil i has))
      (omega arith)

  pub has_run : 1 ≤ limit → HasRun space D K rank limit
  has_run some =
      run_turns limit [] (record_at_once space) (at_once space D K rank) some (none_yet limit) (omega arith)
