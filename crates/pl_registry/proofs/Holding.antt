-- A search by number whose entries a registry holds: how the registry and the record of the search grow
-- together, and the endings. The state space is any one here; the task says what packed states stand for.
use Rattle.std.proofs.Common.{◌≡◌, ◌+◌, ◌<◌, ◌≤◌, ℕ, zero, suc, min, IsTrue, IsFalse, List, [], ◌∷◌, ◌++◌}
use Rattle.std.proofs.Common.{map, length, Contains, All, refl, sym, ap, ◌∙◌, subst, inl, inr, arith}
use Rattle.std.proofs.Common.{length-append}
use Rattle.std.proofs.lemmas.List.{get_or-map, length-map, map-append}
use Rattle.std.proofs.lemmas.List.Elements.{All-push, Contains-get_or}
use Rattle.pl_task.specs.declared.task.Task.{Task}
use Rattle.pl_task.specs.Instance.{Instance}
use Rattle.pl_task.specs.States.{State}
use Rattle.pl_state.specs.StateOf.{state_in, IsStateOf}
use Rattle.pl_state.specs.Laws.{StatesHaveOneLayout}
use Rattle.pl_registry.specs.StateSpace.{StateSpace}
use Rattle.pl_registry.specs.SearchRecord.{Entry, Pair, SearchRecord, entry_of_initial, entry_at, states_of}
use Rattle.pl_registry.specs.SearchRecord.{path_of, path_within, IsRecordUpTo}
use Rattle.pl_registry.specs.Ending.{capped, stats_of, record_at_once, by_number, IsUnderWay, IsFoundAt}
use Rattle.pl_registry.specs.Ending.{IsFull, IsClosed}
use Rattle.pl_registry.specs.Ending.Ending.{Found, Unsolvable, Limit}
use Rattle.pl_registry.specs.Registered.{Register, Registered, IsRegister, IsHeld, IsHeldAs, initially}
use Rattle.pl_registry.specs.Registered.{registered_at, registered_path, registered_path_within, with_entry}
use Rattle.pl_registry.specs.Registered.{entry_of, entries_of}
use Rattle.pl_registry.proofs.Lists.{Contains-map, Contains-map_cases}
use Rattle.pl_registry.proofs.ByNumber.{at_once, next_turn, turn_over, closed_at, turn_is_there}
use Rattle.pl_registry.proofs.ByNumber.{one_more_dropped, one_more_known, one_more_new, found_at, full_at}
use Rattle.pl_registry.specs.Held.{with_turn, with_pair, with_new, pair_in, IsInTurn, state_at, states_held}
use Rattle.pl_registry.specs.Held.{IsUncutSearch, HoldsRecord, HoldsBetweenTurns, HoldsInTurn, HasEnded}
use Rattle.pl_registry.specs.Held.{HoldsStanding}

-- one more entry
pub entries_more : (task : Task) (now : Register) (words : List ℕ) (parent : ℕ) (step : Instance) →
    entries_of task (with_entry now words parent step) ≡ entries_of task now
    ++ record { state = state_in task words; parent = parent; step = step } ∷ []
entries_more task now words parent step = map-append (entry_of task) now.entries
    (record { words = words; parent = parent; step = step } ∷ [])

parent_same : (task : Task) (entries : List Registered) (n : ℕ)
    → (entry_at (map (entry_of task) entries) n).parent ≡ (registered_at entries n).parent
parent_same task [] n = refl
parent_same task (e ∷ entries) zero = refl
parent_same task (e ∷ entries) (suc n) = parent_same task entries n

step_same : (task : Task) (entries : List Registered) (n : ℕ)
    → (entry_at (map (entry_of task) entries) n).step ≡ (registered_at entries n).step
step_same task [] n = refl
step_same task (e ∷ entries) zero = refl
step_same task (e ∷ entries) (suc n) = step_same task entries n

path_within_same : (task : Task) (entries : List Registered) (a n : ℕ)
    → path_within (map (entry_of task) entries) a n ≡ registered_path_within entries a n
path_within_same task entries zero n = refl
path_within_same task entries (suc a) zero = refl
path_within_same task entries (suc a) (suc n) =
    (λ i. path_within (map (entry_of task) entries) a (parent_same task entries (suc n) i)
    ++ step_same task entries (suc n) i ∷ [])
    ∙ ap (λ steps. steps ++ (registered_at entries (suc n)).step ∷ [])
    (path_within_same task entries a (registered_at entries (suc n)).parent)

-- the path in a registry is that of its entries
pub path_is : (task : Task) (now : Register) (n : ℕ)
    → path_of (entries_of task now) n ≡ registered_path now.entries n
path_is task now n = path_within_same task now.entries n n

-- a packed state that is held is among the states, and one that is not held is not
pub held_is_known : (task : Task) (now : Register) (words : List ℕ) (n : ℕ) → IsHeldAs now words n
    → Contains (states_of (entries_of task now)) (state_in task words)
held_is_known task now words n (l, e) =
    subst (Contains (states_of (entries_of task now))) (ap (state_in task) e)
    (Contains-map (λ (a : Entry). a.state) (entries_of task now) (entry_of task (registered_at now.entries n))
    (Contains-map (entry_of task) now.entries (registered_at now.entries n)
    (Contains-get_or now.entries n _ l)))

pub unheld_is_unknown : (task : Task) (now : Register) (words : List ℕ) → StatesHaveOneLayout task
    → All (λ (e : Registered). IsStateOf task e.words) now.entries → IsStateOf task words →
    (IsHeld now words → ⊥) → Contains (states_of (entries_of task now)) (state_in task words) → ⊥
unheld_is_unknown task now words one states state none known =
    let (entry, among, e) = Contains-map_cases (λ (a : Entry). a.state) (entries_of task now)
    (state_in task words) known in
    let (held, there, is) = Contains-map_cases (entry_of task) now.entries entry among in
    let same : state_in task held.words ≡ state_in task words = ap (λ (a : Entry). a.state) is ∙ e in
    let (k, l, read) = there in
    let its : IsStateOf task held.words = subst (λ (a : Registered). IsStateOf task a.words) read
    (states k held l) in
    none (subst (Contains (map (λ (a : Registered). a.words) now.entries))
    (one held.words words its state same)
    (Contains-map (λ (a : Registered). a.words) now.entries held there))

pub state_of_entry : {task : Task} {now : Register} {r : SearchRecord} → HoldsRecord task now r → (n : ℕ)
    → n < length now.entries → IsStateOf task (registered_at now.entries n).words
state_of_entry h n l = h.states n _ l

-- how many entries there are, and what the record has of one
pub entries_alike : {task : Task} {now : Register} {r : SearchRecord} → HoldsRecord task now r
    → length r.entries ≡ length now.entries
entries_alike {task = task} {now = now} h = sym (ap length h.entries_are)
    ∙ length-map now.entries (entry_of task)

pub state_is : {task : Task} {now : Register} {r : SearchRecord} → HoldsRecord task now r → (n : ℕ)
    → n < length now.entries → (entry_at r.entries n).state ≡ state_at task now n
state_is {task = task} {now = now} h n l =
    ap (λ es. (entry_at es n).state) (sym h.entries_are)
    ∙ ap (λ (e : Entry). e.state) (get_or-map (entry_of task) now.entries n _ _ l)

-- one more is counted
pub count_on : (n g most : ℕ) → g ≡ min n most → min (suc g) most ≡ min (suc n) most
count_on n g most e = omega arith

-- the entries of a registry that holds the initial state alone
pub first_entries : (task : Task) (space : StateSpace) (now : Register) (words : List ℕ)
    → now.entries ≡ initially words ∷ [] → state_in task words ≡ space.initial →
    entries_of task now ≡ entry_of_initial space.initial ∷ []
first_entries task space now words only initial = ap (map (entry_of task)) only
    ∙ ap (λ s. entry_of_initial s ∷ []) initial

module _ (space : StateSpace) {task : Task} {now : Register} {r : SearchRecord} {t : ℕ}
    (holds : HoldsRecord task now r) (l : t < length now.entries) where
  -- the target of a pair, by the packed state
  pub target_is : (step : Instance) → (pair_in space r t step).target ≡ space.result
      (state_at task now t) step
  target_is step = ap (λ s. space.result s step) (state_is holds t l)

  pub target_no_goal : (step : Instance) → IsFalse (space.is_goal (space.result (state_at task now t) step))
      → IsFalse (space.is_goal (pair_in space r t step).target)
  target_no_goal step no_goal = ap space.is_goal (target_is step) ∙ no_goal

-- what is said of the registered states and a target is said of the record's
pub of_seen : (P : List State → State → Type 0) {task : Task} {now : Register} {r : SearchRecord}
    {s target : State} → HoldsRecord task now r → target ≡ s →
    P (states_held task now) s → P (states_of r.entries) target
of_seen P {r = r} {s = s} holds e p = subst (P (states_of r.entries)) (sym e)
    (subst (λ es. P (states_of es) s) holds.entries_are p)

-- the counts at an ending
pub counts_are : (entries states expanded pairs generated : ℕ) → entries ≡ states → generated ≡ capped pairs →
    stats_of entries expanded (suc pairs)
    ≡ record { states = states; expanded = expanded; generated = capped (suc generated) }
counts_are entries states expanded pairs generated e g =
    let c = count_on pairs generated _ g in λ i.
    record { states = e i; expanded = expanded; generated = sym c i }

-- those that are `unfoldable` show the record that they make
module _ {task : Task} {space : StateSpace} {D K : List State → State → Type 0} where
  -- before the first turn
  unfoldable pub begun : (now : Register) (words : List ℕ) → now.entries ≡ initially words ∷ []
      → IsStateOf task words → state_in task words ≡ space.initial →
      HoldsBetweenTurns task space D K now 0 0
  begun now words only state initial = record {
    of = record_at_once space;
    at = at_once space D K;
    holds = record {
      entries_are = first_entries task space now words only initial;
      states = subst (All (λ (e : Registered). IsStateOf task e.words)) (sym only)
          (All-push (λ (e : Registered). IsStateOf task e.words) [] (initially words)
          (λ k d l. absurd (omega arith)) state);
    };
    counted = refl;
  }

  -- the next turn begins, with all steps of its state left
  unfoldable pub turn_begun : {now : Register} {t generated : ℕ}
      → HoldsBetweenTurns task space D K now t generated → t < length now.entries →
      HoldsInTurn task space D K now t (space.steps (state_at task now t)) generated
  turn_begun {now = now} {t = t} h l = record {
    of = with_turn h.of t;
    at = subst (λ steps. IsInTurn space D K t steps (with_turn h.of t))
        (ap space.steps (state_is h.holds t l))
        (next_turn h.at (let many = entries_alike h.holds in omega (arith, many, l)));
    holds = record { entries_are = h.holds.entries_are; states = h.holds.states };
    counted = h.counted;
  }

  -- a turn in which no step is left is over
  unfoldable pub turn_ended : {now : Register} {t generated : ℕ}
      → HoldsInTurn task space D K now t [] generated → HoldsBetweenTurns task space D K now (suc t) generated
  turn_ended h = record { of = h.of; at = turn_over h.at; holds = h.holds; counted = h.counted }

  -- the entry of a turn is registered, and its state is a state of the task
  pub turn_registered : {now : Register} {t generated : ℕ} {left : List Instance}
      → HoldsInTurn task space D K now t left generated → t < length now.entries
  turn_registered h = let many = entries_alike h.holds in let l = turn_is_there h.at in omega (arith, many, l)

  -- one more pair is counted
  pub counted_on : {now : Register} {t generated : ℕ} {left : List Instance}
      (h : HoldsInTurn task space D K now t left generated) (p : Pair) →
      capped (suc generated) ≡ capped (length (h.of.pairs ++ p ∷ []))
  counted_on {generated = generated} h p =
      count_on (length h.of.pairs) generated _ h.counted
      ∙ ap capped (let both = length-append h.of.pairs (p ∷ []) in more (length h.of.pairs) _ both)
    where
      more : (n m : ℕ) → m ≡ n + 1 → suc n ≡ m
      more n m e = omega arith

  -- one more pair, by its first step that is left: its target is dropped
  unfoldable pub dropped_one : {now : Register} {t generated : ℕ} {step : Instance} {left : List Instance}
      → HoldsInTurn task space D K now t (step ∷ left) generated →
      IsFalse (space.is_goal (space.result (state_at task now t) step))
      → D (states_held task now) (space.result (state_at task now t) step) →
      HoldsInTurn task space D K now t left (capped (suc generated))
  dropped_one {step = step} h no_goal dropped =
      let l = turn_registered h in
      record {
        of = with_pair h.of (pair_in space h.of _ step);
        at = one_more_dropped h.at (target_no_goal space h.holds l step no_goal)
            (of_seen D h.holds (target_is space h.holds l step) dropped);
        holds = record { entries_are = h.holds.entries_are; states = h.holds.states };
        counted = counted_on h (pair_in space h.of _ step);
      }

  -- its target is held
  pub known_one : {now : Register} {t generated : ℕ} {step : Instance} {left : List Instance}
      → HoldsInTurn task space D K now t (step ∷ left) generated →
      (words : List ℕ) (n : ℕ) → state_in task words ≡ space.result (state_at task now t) step →
      IsFalse (space.is_goal (space.result (state_at task now t) step)) → IsHeldAs now words n →
      HoldsInTurn task space D K now t left (capped (suc generated))
  known_one {now = now} {step = step} h words n is no_goal held =
      let l = turn_registered h in
      record {
        of = with_pair h.of (pair_in space h.of _ step);
        at = one_more_known h.at (target_no_goal space h.holds l step no_goal)
            (subst (Contains (states_of h.of.entries)) (is ∙ sym (target_is space h.holds l step))
            (subst (λ es. Contains (states_of es) (state_in task words)) h.holds.entries_are
            (held_is_known task now words n held)));
        holds = record { entries_are = h.holds.entries_are; states = h.holds.states };
        counted = counted_on h (pair_in space h.of _ step);
      }

  -- a target that is not held is not among the states of the record
  pub target_unknown : {now : Register} {t generated : ℕ} {step : Instance} {left : List Instance}
      (h : HoldsInTurn task space D K now t (step ∷ left) generated) →
      (words : List ℕ) → StatesHaveOneLayout task → IsStateOf task words
      → state_in task words ≡ space.result (state_at task now t) step → (IsHeld now words → ⊥) →
      Contains (states_of h.of.entries) (pair_in space h.of t step).target → ⊥
  target_unknown {now = now} {step = step} h words one state is none known =
      unheld_is_unknown task now words one h.holds.states state none
      (subst (λ es. Contains (states_of es) (state_in task words)) (sym h.holds.entries_are)
      (subst (Contains (states_of h.of.entries)) (target_is space h.holds (turn_registered h) step ∙ sym is)
      known))

  -- its target is registered
  unfoldable pub new_one : {now : Register} {t generated : ℕ} {step : Instance} {left : List Instance}
      → HoldsInTurn task space D K now t (step ∷ left) generated →
      (words : List ℕ) → StatesHaveOneLayout task → IsStateOf task words
      → state_in task words ≡ space.result (state_at task now t) step →
      IsFalse (space.is_goal (space.result (state_at task now t) step)) → (IsHeld now words → ⊥)
      → K (states_held task now) (space.result (state_at task now t) step) →
      HoldsInTurn task space D K (with_entry now words t step) t left (capped (suc generated))
  new_one {now = now} {t = t} {step = step} h words one state is no_goal none kept =
      let l = turn_registered h in
      record {
        of = with_new h.of (pair_in space h.of t step);
        at = one_more_new h.at (target_no_goal space h.holds l step no_goal)
            (target_unknown h words one state is none)
            (of_seen K h.holds (target_is space h.holds l step) kept);
        holds = record {
          entries_are = entries_more task now words t step
              ∙ (λ i. h.holds.entries_are i
              ++ record { state = (is ∙ sym (target_is space h.holds l step)) i; parent = t; step = step }
              ∷ []);
          states = All-push (λ (e : Registered). IsStateOf task e.words) now.entries
              (record { words = words; parent = t; step = step }) h.holds.states state;
        };
        counted = counted_on h (pair_in space h.of t step);
      }

  -- the search is under way, and its registry is one
  pub under_way : {now : Register} {r : SearchRecord} → IsFalse (space.is_goal space.initial)
      → IsRecordUpTo space D K by_number r → HoldsRecord task now r →
      length now.entries ≤ now.limit → IsUnderWay space D K by_number now.limit r
  under_way no_goal stands holds fits =
      record {
        no_goal = no_goal;
        few = (let many = entries_alike holds in omega (arith, fits, many));
        stands = stands;
      }

  -- the next pair leads to a goal state
  pub is_found : {now : Register} {t generated : ℕ} {step : Instance} {left : List Instance}
      (h : HoldsInTurn task space D K now t (step ∷ left) generated) →
      IsTrue (space.is_goal (space.result (state_at task now t) step)) →
      IsFoundAt space h.of (registered_path now.entries t ++ step ∷ [])
      (record { states = length now.entries; expanded = suc t; generated = capped (suc generated) })
  is_found {now = now} {t = t} {generated = generated} {step = step} h goal =
      let l = turn_registered h in
      subst (λ plan. IsFoundAt space h.of plan
      (record { states = length now.entries; expanded = suc t; generated = capped (suc generated) }))
      (ap (λ es. path_of es t ++ step ∷ []) (sym h.holds.entries_are)
      ∙ ap (λ steps. steps ++ step ∷ []) (path_is task now t))
      (subst (IsFoundAt space h.of (path_of h.of.entries t ++ step ∷ []))
      (counts_are (length h.of.entries) (length now.entries) (suc t) (length h.of.pairs) generated
      (entries_alike h.holds) h.counted)
      (found_at h.at (ap space.is_goal (target_is space h.holds l step) ∙ goal)))

  -- it leads to a state that is to be registered, but as many as the limit are
  pub is_full : {now : Register} {t generated : ℕ} {step : Instance} {left : List Instance}
      (h : HoldsInTurn task space D K now t (step ∷ left) generated) →
      (words : List ℕ) → StatesHaveOneLayout task → IsStateOf task words
      → state_in task words ≡ space.result (state_at task now t) step →
      IsFalse (space.is_goal (space.result (state_at task now t) step)) → (IsHeld now words → ⊥)
      → K (states_held task now) (space.result (state_at task now t) step) →
      length now.entries ≡ now.limit →
      IsFull space K now.limit h.of
      (record { states = length now.entries; expanded = suc t; generated = capped (suc generated) })
  is_full {now = now} {t = t} {generated = generated} {step = step} h words one state is no_goal none kept
      full =
      let l = turn_registered h in
      subst (IsFull space K now.limit h.of)
      (counts_are (length h.of.entries) (length now.entries) (suc t) (length h.of.pairs) generated
      (entries_alike h.holds) h.counted)
      (full_at h.at (target_no_goal space h.holds l step no_goal) (target_unknown h words one state is none)
      (of_seen K h.holds (target_is space h.holds l step) kept)
      (entries_alike h.holds ∙ full))

  -- every entry was expanded, and every pair tried
  pub is_closed : {now : Register} {t generated : ℕ} (h : HoldsBetweenTurns task space D K now t generated)
      → t ≡ length now.entries →
      IsClosed space h.of (record { states = length now.entries; expanded = t; generated = generated })
  is_closed {now = now} {t = t} h all =
      subst (IsClosed space h.of)
      (λ i. record { states = entries_alike h.holds i; expanded = t; generated = sym h.counted i })
      (closed_at h.at (all ∙ sym (entries_alike h.holds)))

  -- a search that is broken off
  pub stands_between : {now : Register} {t generated : ℕ} → HoldsBetweenTurns task space D K now t generated
      → HoldsStanding task space D K now
  stands_between h = record { of = h.of; stands = h.at.stands; holds = h.holds.entries_are }

  pub stands_in : {now : Register} {t generated : ℕ} {left : List Instance}
      → HoldsInTurn task space D K now t left generated → HoldsStanding task space D K now
  stands_in h = record { of = h.of; stands = h.at.stands; holds = h.holds.entries_are }

-- how searches end that cut states, whatever was registered before
module _ {task : Task} {space : StateSpace} {D K : State → Type 0} where
  -- a search that ends at once
  pub found_at_once : (limit : ℕ) (now : Register) (words : List ℕ) → now.entries ≡ initially words ∷ []
      → state_in task words ≡ space.initial → IsTrue (space.is_goal space.initial) →
      HasEnded task space D K limit now (Found []) (record { states = 1; expanded = 0; generated = 0 })
  found_at_once limit now words only initial goal = record {
    of = record_at_once space;
    is = inl (goal, refl, record { is = refl; stats_are = refl });
    holds = first_entries task space now words only initial;
  }

  pub cut_at_once : (limit : ℕ) (now : Register) (words : List ℕ) → now.entries ≡ initially words ∷ []
      → state_in task words ≡ space.initial → IsFalse (space.is_goal space.initial) → D space.initial →
      HasEnded task space D K limit now Unsolvable (record { states = 1; expanded = 0; generated = 0 })
  cut_at_once limit now words only initial no_goal cut = record {
    of = record_at_once space;
    is = inl (no_goal, cut, record { is = refl; stats_are = refl });
    holds = first_entries task space now words only initial;
  }

  -- a search that ends at a pair, or after its last one
  pub found_ending : {now : Register} {t generated : ℕ} {step : Instance} {left : List Instance}
      → IsUncutSearch space K →
      HoldsInTurn task space (λ _. D) (λ _. K) now t (step ∷ left) generated →
      IsRegister now → IsTrue (space.is_goal (space.result (state_at task now t) step)) →
      HasEnded task space D K now.limit now (Found (registered_path now.entries t ++ step ∷ []))
      (record { states = length now.entries; expanded = suc t; generated = capped (suc generated) })
  found_ending start h register goal = record {
    of = h.of;
    is = inr ((start.kept, under_way start.no_goal h.at.stands h.holds register.few), is_found h goal);
    holds = h.holds.entries_are;
  }

  pub full_ending : {now : Register} {t generated : ℕ} {step : Instance} {left : List Instance}
      → IsUncutSearch space K →
      HoldsInTurn task space (λ _. D) (λ _. K) now t (step ∷ left) generated →
      (words : List ℕ) → StatesHaveOneLayout task → IsStateOf task words
      → state_in task words ≡ space.result (state_at task now t) step →
      IsFalse (space.is_goal (space.result (state_at task now t) step)) → (IsHeld now words → ⊥)
      → K (space.result (state_at task now t) step) →
      length now.entries ≡ now.limit →
      HasEnded task space D K now.limit now Limit
      (record { states = length now.entries; expanded = suc t; generated = capped (suc generated) })
  full_ending start h words one state is no_goal none kept full = record {
    of = h.of;
    is = (
      (start.kept, under_way start.no_goal h.at.stands h.holds (omega (arith, full))),
      is_full h words one state is no_goal none kept full,
    );
    holds = h.holds.entries_are;
  }

  pub closed_ending : {now : Register} {t generated : ℕ} → IsUncutSearch space K
      → HoldsBetweenTurns task space (λ _. D) (λ _. K) now t generated →
      IsRegister now → t ≡ length now.entries →
      HasEnded task space D K now.limit now Unsolvable
      (record { states = length now.entries; expanded = t; generated = generated })
  closed_ending start h register all = record {
    of = h.of;
    is = inr ((start.kept, under_way start.no_goal h.at.stands h.holds register.few), is_closed h all);
    holds = h.holds.entries_are;
  }
