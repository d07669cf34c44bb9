-- A search by any rank whose entries a registry holds: how the registry and the record of the search grow
-- together, and the endings. The state space is any one here; the task says what packed states stand for.
use Rattle.std.proofs.Common.{◌≡◌, ◌+◌, ◌<◌, ◌≤◌, ℕ, suc, IsTrue, IsFalse, List, [], ◌∷◌, ◌++◌, length}
use Rattle.std.proofs.Common.{Contains, All, refl, sym, ap, ◌∙◌, subst, inl, inr, arith, length-append}
use Rattle.std.proofs.lemmas.List.Elements.{All-push}
use Rattle.pl_task.specs.declared.task.Task.{Task}
use Rattle.pl_task.specs.Instance.{Instance}
use Rattle.pl_task.specs.States.{State}
use Rattle.pl_state.specs.StateOf.{state_in, IsStateOf}
use Rattle.pl_state.specs.Laws.{StatesHaveOneLayout}
use Rattle.pl_registry.specs.StateSpace.{StateSpace}
use Rattle.pl_registry.specs.SearchRecord.{Pair, SearchRecord, states_of, path_of, pair_by, Precedes}
use Rattle.pl_registry.specs.SearchRecord.{IsRecordUpTo}
use Rattle.pl_registry.specs.Ending.{capped, record_at_once, IsUnderWay, IsFoundAt, IsFull, IsClosed}
use Rattle.pl_registry.specs.Ending.Ending.{Found, Unsolvable, Limit}
use Rattle.pl_registry.specs.Registered.{Register, Registered, IsRegister, IsHeld, IsHeldAs, initially}
use Rattle.pl_registry.specs.Registered.{registered_path, with_entry, entries_of}
use Rattle.pl_registry.proofs.ByRank.{at_once, next_turn, turn_over, closed_at, turn_is_there}
use Rattle.pl_registry.proofs.ByRank.{one_more_dropped, one_more_known, one_more_new, found_at, full_at}
use Rattle.pl_registry.proofs.Holding.{entries_more, path_is, held_is_known, unheld_is_unknown, entries_alike}
use Rattle.pl_registry.proofs.Holding.{state_is, count_on, first_entries, counts_are}
use Rattle.pl_registry.specs.Held.{with_turn, with_pair, with_new, state_at, IsUncutSearch, HoldsRecord}
use Rattle.pl_registry.specs.HeldByRank.{IsInRanked, HoldsBetweenRanked, HoldsInRanked, HasEndedRanked}
use Rattle.pl_registry.specs.HeldByRank.{HoldsRanked}

module _ (space : StateSpace) {task : Task} {now : Register} {r : SearchRecord} {t : ℕ} (j : ℕ)
    (holds : HoldsRecord task now r) (l : t < length now.entries) where
  -- the target of a pair, by the packed state
  target_is : (step : Instance) → (pair_by space r.entries j t step).target ≡ space.result
      (state_at task now t) step
  target_is step = ap (λ s. space.result s step) (state_is holds t l)

  target_no_goal : (step : Instance) → IsFalse (space.is_goal (space.result (state_at task now t) step))
      → IsFalse (space.is_goal (pair_by space r.entries j t step).target)
  target_no_goal step no_goal = ap space.is_goal (target_is step) ∙ no_goal

module _ {task : Task} {space : StateSpace} {D K : State → Type 0} {rank : State → ℕ} where
  -- before the first turn
  pub begun : (now : Register) (words : List ℕ) → now.entries ≡ initially words ∷ [] → IsStateOf task words
      → state_in task words ≡ space.initial →
      HoldsBetweenRanked task space D K rank now [] 0
  begun now words only state initial = record {
    of = record_at_once space;
    at = at_once space (λ _. D) (λ _. K) rank;
    holds = record {
      entries_are = first_entries task space now words only initial;
      states = subst (All (λ (e : Registered). IsStateOf task e.words)) (sym only)
          (All-push (λ (e : Registered). IsStateOf task e.words) [] (initially words)
          (λ k d l. absurd (omega arith)) state);
    };
    counted = refl;
  }

  -- The turn of an entry begins that was not expanded and precedes every other one, with all steps of its
  -- state left.
  pub turn_begun : {now : Register} {past : List ℕ} {generated : ℕ} (t : ℕ)
      → HoldsBetweenRanked task space D K rank now past generated → t < length now.entries →
      (Contains past t → ⊥)
      → ((i : ℕ) → i < length now.entries → (Contains past i → ⊥)
      → Precedes rank (entries_of task now) t i) →
      HoldsInRanked task space D K rank now past t (space.steps (state_at task now t)) generated
  turn_begun {past = past} t h l unexpanded precedes = record {
    of = with_turn h.of t;
    at = subst (λ steps. IsInRanked space (λ _. D) (λ _. K) rank past t steps (with_turn h.of t))
        (ap space.steps (state_is h.holds t l))
        (next_turn t h.at (let many = entries_alike h.holds in omega (arith, many, l)) unexpanded
        (λ i w free. subst (λ es. Precedes rank es t i) h.holds.entries_are
        (precedes i (let many = entries_alike h.holds in omega (arith, many, w)) free)));
    holds = record { entries_are = h.holds.entries_are; states = h.holds.states };
    counted = h.counted;
  }

  -- a turn in which no step is left is over
  pub turn_ended : {now : Register} {past : List ℕ} {generated : ℕ} (t : ℕ)
      → HoldsInRanked task space D K rank now past t [] generated →
      HoldsBetweenRanked task space D K rank now (past ++ t ∷ []) generated
  turn_ended t h = record { of = h.of; at = turn_over t h.at; holds = h.holds; counted = h.counted }

  -- the entry of a turn is registered, and its state is a state of the task
  pub turn_registered : {now : Register} {past : List ℕ} {t generated : ℕ} {left : List Instance}
      → HoldsInRanked task space D K rank now past t left generated → t < length now.entries
  turn_registered h = let many = entries_alike h.holds in let l = turn_is_there h.at in omega (arith, many, l)

  -- one more pair is counted
  counted_on : {now : Register} {past : List ℕ} {t generated : ℕ} {left : List Instance}
      (h : HoldsInRanked task space D K rank now past t left generated) (p : Pair) →
      capped (suc generated) ≡ capped (length (h.of.pairs ++ p ∷ []))
  counted_on {generated = generated} h p =
      count_on (length h.of.pairs) generated _ h.counted
      ∙ ap capped (let both = length-append h.of.pairs (p ∷ []) in more (length h.of.pairs) _ both)
    where
      more : (n m : ℕ) → m ≡ n + 1 → suc n ≡ m
      more n m e = omega arith

  -- one more pair, by its first step that is left: its target is dropped
  pub dropped_one : {now : Register} {past : List ℕ} {t generated : ℕ} {step : Instance}
      {left : List Instance} → HoldsInRanked task space D K rank now past t (step ∷ left) generated →
      IsFalse (space.is_goal (space.result (state_at task now t) step))
      → D (space.result (state_at task now t) step) →
      HoldsInRanked task space D K rank now past t left (capped (suc generated))
  dropped_one {past = past} {t = t} {step = step} h no_goal dropped =
      let l = turn_registered h in
      record {
        of = with_pair h.of (pair_by space h.of.entries (length past) t step);
        at = one_more_dropped h.at (target_no_goal space (length past) h.holds l step no_goal)
            (subst D (sym (target_is space (length past) h.holds l step)) dropped);
        holds = record { entries_are = h.holds.entries_are; states = h.holds.states };
        counted = counted_on h (pair_by space h.of.entries (length past) t step);
      }

  -- its target is held
  pub known_one : {now : Register} {past : List ℕ} {t generated : ℕ} {step : Instance} {left : List Instance}
      → HoldsInRanked task space D K rank now past t (step ∷ left) generated →
      (words : List ℕ) (n : ℕ) → state_in task words ≡ space.result (state_at task now t) step →
      IsFalse (space.is_goal (space.result (state_at task now t) step)) → IsHeldAs now words n →
      HoldsInRanked task space D K rank now past t left (capped (suc generated))
  known_one {now = now} {past = past} {t = t} {step = step} h words n is no_goal held =
      let l = turn_registered h in
      record {
        of = with_pair h.of (pair_by space h.of.entries (length past) t step);
        at = one_more_known h.at (target_no_goal space (length past) h.holds l step no_goal)
            (subst (Contains (states_of h.of.entries))
            (is ∙ sym (target_is space (length past) h.holds l step))
            (subst (λ es. Contains (states_of es) (state_in task words)) h.holds.entries_are
            (held_is_known task now words n held)));
        holds = record { entries_are = h.holds.entries_are; states = h.holds.states };
        counted = counted_on h (pair_by space h.of.entries (length past) t step);
      }

  -- a target that is not held is not among the states of the record
  target_unknown : {now : Register} {past : List ℕ} {t generated : ℕ} {step : Instance} {left : List Instance}
      (h : HoldsInRanked task space D K rank now past t (step ∷ left) generated) →
      (words : List ℕ) → StatesHaveOneLayout task → IsStateOf task words
      → state_in task words ≡ space.result (state_at task now t) step → (IsHeld now words → ⊥) →
      Contains (states_of h.of.entries) (pair_by space h.of.entries (length past) t step).target → ⊥
  target_unknown {now = now} {past = past} {t = t} {step = step} h words one state is none known =
      unheld_is_unknown task now words one h.holds.states state none
      (subst (λ es. Contains (states_of es) (state_in task words)) (sym h.holds.entries_are)
      (subst (Contains (states_of h.of.entries))
      (target_is space (length past) h.holds (turn_registered h) step ∙ sym is) known))

  -- its target is registered
  pub new_one : {now : Register} {past : List ℕ} {t generated : ℕ} {step : Instance} {left : List Instance}
      → HoldsInRanked task space D K rank now past t (step ∷ left) generated →
      (words : List ℕ) → StatesHaveOneLayout task → IsStateOf task words
      → state_in task words ≡ space.result (state_at task now t) step →
      IsFalse (space.is_goal (space.result (state_at task now t) step)) → (IsHeld now words → ⊥)
      → K (space.result (state_at task now t) step) →
      HoldsInRanked task space D K rank (with_entry now words t step) past t left (capped (suc generated))
  new_one {now = now} {past = past} {t = t} {step = step} h words one state is no_goal none kept =
      let l = turn_registered h in
      record {
        of = with_new h.of (pair_by space h.of.entries (length past) t step);
        at = one_more_new h.at (target_no_goal space (length past) h.holds l step no_goal)
            (target_unknown h words one state is none)
            (subst K (sym (target_is space (length past) h.holds l step)) kept);
        holds = record {
          entries_are = entries_more task now words t step
              ∙ (λ i. h.holds.entries_are i
              ++ record {
                state = (is ∙ sym (target_is space (length past) h.holds l step)) i;
                parent =
                    t;
                step = step;
              } ∷ []);
          states = All-push (λ (e : Registered). IsStateOf task e.words) now.entries
              (record { words = words; parent = t; step = step }) h.holds.states state;
        };
        counted = counted_on h (pair_by space h.of.entries (length past) t step);
      }

  -- a search that ends at once
  pub found_at_once : (limit : ℕ) (now : Register) (words : List ℕ) → now.entries ≡ initially words ∷ []
      → state_in task words ≡ space.initial → IsTrue (space.is_goal space.initial) →
      HasEndedRanked task space D K rank [] limit now (Found [])
      (record { states = 1; expanded = 0; generated = 0 })
  found_at_once limit now words only initial goal = record {
    of = record_at_once space;
    is = inl (goal, refl, record { is = refl; stats_are = refl });
    turns_are = refl;
    holds = first_entries task space now words only initial;
  }

  pub cut_at_once : (limit : ℕ) (now : Register) (words : List ℕ) → now.entries ≡ initially words ∷ []
      → state_in task words ≡ space.initial → IsFalse (space.is_goal space.initial) → D space.initial →
      HasEndedRanked task space D K rank [] limit now Unsolvable
      (record { states = 1; expanded = 0; generated = 0 })
  cut_at_once limit now words only initial no_goal cut = record {
    of = record_at_once space;
    is = inl (no_goal, cut, record { is = refl; stats_are = refl });
    turns_are = refl;
    holds = first_entries task space now words only initial;
  }

  -- the search is under way, and its registry is one
  under_way : {now : Register} {r : SearchRecord} → IsUncutSearch space K
      → IsRecordUpTo space (λ _. D) (λ _. K) rank r → HoldsRecord task now r
      → length now.entries ≤ now.limit →
      K space.initial × IsUnderWay space (λ _. D) (λ _. K) rank now.limit r
  under_way start stands holds fits = (
    start.kept,
    record {
      no_goal = start.no_goal;
      few =
          (let many = entries_alike holds in omega (arith, fits, many));
      stands = stands;
    },
  )

  -- a search that ends at a pair, or after its last one
  pub found_ending : {now : Register} {past : List ℕ} {t generated : ℕ} {step : Instance}
      {left : List Instance} → IsUncutSearch space K
      → HoldsInRanked task space D K rank now past t (step ∷ left) generated →
      IsRegister now → IsTrue (space.is_goal (space.result (state_at task now t) step)) →
      HasEndedRanked task space D K rank (past ++ t ∷ []) now.limit now
      (Found (registered_path now.entries t ++ step ∷ []))
      (record {
        states = length now.entries;
        expanded = suc (length past);
        generated =
            capped (suc generated);
      })
  found_ending {now = now} {past = past} {t = t} {generated = generated} {step = step} start h register goal =
      let l = turn_registered h in
      record {
        of = h.of;
        is = inr (
          under_way start h.at.stands h.holds register.few,
          subst (λ plan. IsFoundAt space h.of plan
              (record {
                states = length now.entries;
                expanded = suc (length past);
                generated =
                    capped (suc generated);
              }))
              (ap (λ es. path_of es t ++ step ∷ []) (sym h.holds.entries_are)
              ∙ ap (λ steps. steps ++ step ∷ []) (path_is task now t))
              (subst (IsFoundAt space h.of (path_of h.of.entries t ++ step ∷ []))
              (counts_are (length h.of.entries) (length now.entries) (suc (length past))
              (length h.of.pairs) generated (entries_alike h.holds) h.counted)
              (found_at h.at (ap space.is_goal (target_is space (length past) h.holds l step) ∙ goal))),
        );
        turns_are = h.at.turns_are;
        holds = h.holds.entries_are;
      }

  pub full_ending : {now : Register} {past : List ℕ} {t generated : ℕ} {step : Instance}
      {left : List Instance} → IsUncutSearch space K
      → HoldsInRanked task space D K rank now past t (step ∷ left) generated →
      (words : List ℕ) → StatesHaveOneLayout task → IsStateOf task words
      → state_in task words ≡ space.result (state_at task now t) step →
      IsFalse (space.is_goal (space.result (state_at task now t) step)) → (IsHeld now words → ⊥)
      → K (space.result (state_at task now t) step) →
      length now.entries ≡ now.limit →
      HasEndedRanked task space D K rank (past ++ t ∷ []) now.limit now Limit
      (record {
        states = length now.entries;
        expanded = suc (length past);
        generated =
            capped (suc generated);
      })
  full_ending {now = now} {past = past} {t = t} {generated = generated} {step = step} start h words one state
      is no_goal none kept full =
      let l = turn_registered h in
      record {
        of = h.of;
        is = (
          under_way start h.at.stands h.holds (omega (arith, full)),
          subst (IsFull space (λ _. K) now.limit h.of)
              (counts_are (length h.of.entries) (length now.entries) (suc (length past))
              (length h.of.pairs) generated (entries_alike h.holds) h.counted)
              (full_at h.at (target_no_goal space (length past) h.holds l step no_goal)
              (target_unknown h words one state is none)
              (subst K (sym (target_is space (length past) h.holds l step)) kept)
              (entries_alike h.holds ∙ full)),
        );
        turns_are = h.at.turns_are;
        holds = h.holds.entries_are;
      }

  pub closed_ending : {now : Register} {past : List ℕ} {generated : ℕ} → IsUncutSearch space K
      → HoldsBetweenRanked task space D K rank now past generated → IsRegister now →
      length past ≡ length now.entries → ((i : ℕ) → i < length now.entries → Contains past i) →
      HasEndedRanked task space D K rank past now.limit now Unsolvable
      (record { states = length now.entries; expanded = length past; generated = generated })
  closed_ending {now = now} {past = past} {generated = generated} start h register many every = record {
    of = h.of;
    is = inr (
      under_way start h.at.stands h.holds register.few,
      subst (IsClosed space h.of)
          (λ i. record {
            states = entries_alike h.holds i;
            expanded = length past;
            generated =
                sym h.counted i;
          })
          (closed_at h.at (many ∙ sym (entries_alike h.holds))
          (λ i l. every i (let alike = entries_alike h.holds in omega (arith, alike, l)))),
    );
    turns_are = h.at.turns_are;
    holds = h.holds.entries_are;
  }

  -- a search that is broken off
  pub stands_between : {now : Register} {past : List ℕ} {generated : ℕ}
      → HoldsBetweenRanked task space D K rank now past generated → HoldsRanked task space D K rank now
  stands_between h = record { of = h.of; stands = h.at.stands; holds = h.holds.entries_are }

  pub stands_in : {now : Register} {past : List ℕ} {t generated : ℕ} {left : List Instance}
      → HoldsInRanked task space D K rank now past t left generated → HoldsRanked task space D K rank now
  stands_in h = record { of = h.of; stands = h.at.stands; holds = h.holds.entries_are }
