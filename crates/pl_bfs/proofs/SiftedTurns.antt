-- The turn of an entry in a width search: it begins, a step is tried, and it ends.
use Rattle.std.proofs.Common.{◌≡◌, ◌⊎◌, ◌<◌, ◌≤◌, ◌+◌, ◌^◌, ◌-◌, ℕ, suc, min, Bool, true, false, IsFalse}
use Rattle.std.proofs.Common.{List, [], ◌∷◌, ◌++◌, length, All, Contains, Option, Some, None, Result, Ok, Err}
use Rattle.std.proofs.Common.{refl, sym, ap, ◌∙◌, subst, inl, inr, arith, length-append}
use Rattle.std.specs.Result.{IsErr}
use Rattle.std.proofs.lemmas.Bool.{false≢true}
use Rattle.std.proofs.lemmas.List.{map-append, get_or_append_left}
use Rattle.std.proofs.lemmas.List.Elements.{All-push, All-weaker, Contains-append_left, Contains-push}
use Rattle.std.proofs.lemmas.List.Elements.{Contains-push_cases}
use Rattle.pl_task.specs.declared.task.Task.{Task}
use Rattle.pl_task.specs.Instance.{Instance}
use Rattle.pl_task.specs.States.{State}
use Rattle.pl_task.specs.Goal.{is_goal}
use Rattle.pl_normal.specs.Steps.{applicable_steps}
use Rattle.pl_state.specs.StateOf.{state_in, IsStateOf}
use Rattle.pl_state.proofs.StatesOfWords.{one_state}
use Rattle.pl_registry.specs.StateSpace.{space_of}
use Rattle.pl_registry.specs.SearchRecord.{Entry, Pair, SearchRecord, states_of, entry_by}
use Rattle.pl_registry.specs.declared.ended.Ended.{Ended}
use Rattle.pl_registry.specs.declared.ended.Stats.{Stats}
use Rattle.pl_registry.specs.declared.ended.Outcome.{Outcome}
use Rattle.pl_registry.specs.declared.ended.Outcome.TheVariants as outcome
use Rattle.pl_registry.specs.Ending.{Ending, ending_of, capped, IsWidthEnding, ended_by}
use Rattle.pl_registry.specs.Ending.Ending.{Found, Limit}
use Rattle.pl_registry.specs.Novelty.{HasAll, IsNovel, IsStale}
use Rattle.pl_registry.specs.Registered.{Register, IsRegister, IsHeld, registered_at, registered_path}
use Rattle.pl_registry.specs.Registered.{with_entry, entries_of}
use Rattle.pl_registry.specs.Held.{state_at, states_held, with_turn, with_pair, with_new, pair_in}
use Rattle.pl_registry.proofs.Holding.{turn_begun, turn_ended, turn_registered, target_is, of_seen}
use Rattle.pl_registry.proofs.Holding.{target_unknown, entries_more, held_is_known, dropped_one, new_one}
use Rattle.pl_registry.proofs.Holding.{under_way, is_found, is_full}
use Rattle.pl_gen.specs.Walks.{PreparedState, steps_in}
use Rattle.pl_bfs.specs.declared.sieve.Sieve.{Sieve}
use Rattle.pl_hooks.specs.Trying.{target_of}
use Rattle.pl_bfs.specs.Width.{EndsByWidth, IsWidthBrokenOff}
use Rattle.pl_bfs.specs.Sifting.{NotesSeen, TellsHeld, TriesNew, IsLeftBehind, TellsLeftOut, IsSiftedBetween}
use Rattle.pl_bfs.specs.Sifting.{IsSiftedWithin, AfterSiftedTurn}
use Rattle.pl_bfs.proofs.Within.{one_more}

-- a record with one more pair: whether a state was left out
states_more : (entries : List Entry) (p : Pair) → states_of (entries ++ entry_by p ∷ []) ≡ states_of entries
    ++ p.target ∷ []
states_more entries p = map-append (λ (e : Entry). e.state) entries (entry_by p ∷ [])

-- what is not new stays so when more states are seen
stale_on : (task : Task) (k : ℕ) (seen : List State) (t s : State) → IsStale task k seen s
    → IsStale task k (seen ++ t ∷ []) s
stale_on task k seen t s stale novel = stale (record {
  atoms = novel.atoms;
  some = novel.some;
  few = novel.few;
  fluent = novel.fluent;
  has = novel.has;
  unseen = λ i d l h. novel.unseen i d (let both = length-append seen (t ∷ []) in omega (arith, both, l))
      (subst (λ u. HasAll u novel.atoms) (sym (get_or_append_left seen (t ∷ []) d i l)) h);
})

module _ (task : Task) (k : ℕ) (r : SearchRecord) (p : Pair) where
  -- a pair that was left behind before stays so
  still_behind : IsLeftBehind task k r → IsLeftBehind task k (with_pair r p)
  still_behind h =
      record {
        pair = h.pair;
        tried = Contains-append_left r.pairs (p ∷ []) h.pair h.tried;
        unknown =
            h.unknown;
        stale = h.stale;
      }

  -- its target is registered
  known_again : (b : Bool) → Contains (states_of r.entries) p.target → TellsLeftOut task k r b
      → TellsLeftOut task k (with_pair r p) b
  known_again true known h = still_behind h
  known_again false known h = All-push (λ (q : Pair). Contains (states_of r.entries) q.target) r.pairs p h
      known

  -- its target is not new, and not registered
  left_behind : (Contains (states_of r.entries) p.target → ⊥) → IsStale task k (states_of r.entries) p.target
      → IsLeftBehind task k (with_pair r p)
  left_behind unknown stale =
      record { pair = p; tried = Contains-push r.pairs p; unknown = unknown; stale = stale }

  -- its target is new, and is registered
  registered_now : (b : Bool) → IsNovel task k (states_of r.entries) p.target → TellsLeftOut task k r b
      → TellsLeftOut task k (with_new r p) b
  registered_now false novel h =
      subst (λ seen. All (λ (q : Pair). Contains seen q.target) (r.pairs ++ p ∷ []))
      (sym (states_more r.entries p))
      (All-push (λ (q : Pair). Contains (states_of r.entries ++ p.target ∷ []) q.target) r.pairs p
      (All-weaker (λ (q : Pair). Contains (states_of r.entries) q.target)
      (λ (q : Pair). Contains (states_of r.entries ++ p.target ∷ []) q.target)
      (λ q known. Contains-append_left (states_of r.entries) (p.target ∷ []) q.target known) r.pairs h)
      (Contains-push (states_of r.entries) p.target))
  registered_now true novel h = record {
    pair = h.pair;
    tried = Contains-append_left r.pairs (p ∷ []) h.pair h.tried;
    unknown = λ known.
        other (Contains-push_cases (states_of r.entries) p.target h.pair.target
        (subst (λ seen. Contains seen h.pair.target) (states_more r.entries p) known));
    stale = subst (λ seen. IsStale task k seen h.pair.target) (sym (states_more r.entries p))
        (stale_on task k (states_of r.entries) p.target h.pair.target h.stale);
  }
    where
      other : Contains (states_of r.entries) h.pair.target ⊎ (p.target ≡ h.pair.target) → ⊥
      other (inl known) = h.unknown known
      other (inr e) = h.stale (subst (IsNovel task k (states_of r.entries)) e novel)

-- a turn that begins makes no difference
turn_tells : (task : Task) (k : ℕ) (r : SearchRecord) (t : ℕ) (b : Bool) → TellsLeftOut task k r b
    → TellsLeftOut task k (with_turn r t) b
turn_tells task k r t true h = record { pair = h.pair; tried = h.tried; unknown = h.unknown; stale = h.stale }
turn_tells task k r t false h = h

-- the registered states with one more
held_more : (task : Task) (now : Register) (words : List ℕ) (n : ℕ) (step : Instance) →
    states_held task (with_entry now words n step) ≡ states_held task now ++ state_in task words ∷ []
held_more task now words n step =
    ap states_of (entries_more task now words n step)
    ∙ map-append (λ (e : Entry). e.state) _
    (record { state = state_in task words; parent = n; step = step } ∷ [])

-- what trying a step came to, for a task that is the same, and an answer that is the same
pub tried_as : (task other : Task) (k : ℕ) (old new : Register) (before after : Sieve) (n : ℕ)
    (step : Instance) (answer same : Option Outcome) → other ≡ task → answer ≡ same →
    NotesSeen task k (states_held task old) before.novelty →
    (NotesSeen other k (states_held other old) before.novelty
    → TriesNew other k old new before after n step {E = ℕ} (Ok answer))
    → TriesNew task k old new before after n step {E = ℕ} (Ok same)
tried_as task other k old new before after n step answer same is at notes h =
    subst (λ (a : Option Outcome). TriesNew task k old new before after n step {E = ℕ} (Ok a)) at
    (subst (λ (t : Task). NotesSeen t k (states_held t old) before.novelty
    → TriesNew t k old new before after n step {E = ℕ} (Ok answer)) is h notes)

-- where memory is wanting the registry is as it was
pub refused : (task other : Task) (k : ℕ) (old new : Register) (before after : Sieve) (n : ℕ)
    (step : Instance) → other ≡ task → NotesSeen task k (states_held task old) before.novelty →
    ((j : ℕ) → NotesSeen other j (states_held other old) before.novelty → new ≡ old) → new ≡ old
refused task other k old new before after n step is notes h =
    h k (subst (λ (t : Task). NotesSeen t k (states_held t old) before.novelty) (sym is) notes)

-- no entry is lost
pub still_there : (task : Task) (k : ℕ) (old new : Register) (before after : Sieve) (n : ℕ)
    (step : Instance) →
    TriesNew task k old new before after n step {E = ℕ} (Ok None) → n < length old.entries
    → n < length new.entries
still_there task k old new before after n step (inl h) l =
    (let e = ap (λ (r : Register). length r.entries) h.left.same in omega (arith, e, l))
still_there task k old new before after n step (inr h) l =
    let e = ap (λ (r : Register). length r.entries) h.taken.more
    ∙ length-append old.entries (record { words = h.taken.words; parent = n; step = step } ∷ []) in
    omega (arith, e, l)

-- a search has ended, with a registry, an ending and counts that are the same
pub ended_so : (task : Task) (k : ℕ) (first old new : Register) (ending same_ending : Ending)
    (stats counts : Stats) (r : SearchRecord) →
    IsWidthEnding (space_of task) task k old.limit r same_ending counts → entries_of task old ≡ r.entries
    → new ≡ old → old.limit ≡ first.limit →
    ending ≡ same_ending → stats ≡ counts → EndsByWidth task k first new ending stats
ended_so task k first old new ending same_ending stats counts r is holds same limit e c =
    subst (λ (now : Register). EndsByWidth task k first now ending stats) (sym same)
    (record {
      of = r;
      is = subst (λ l. IsWidthEnding (space_of task) task k l r ending stats) limit
          (subst (λ (s : Stats). IsWidthEnding (space_of task) task k old.limit r ending s) (sym c)
          (subst (λ (a : Ending). IsWidthEnding (space_of task) task k old.limit r a counts) (sym e) is));
      holds = holds;
      limit = limit;
    })

module _ (task : Task) (k : ℕ) (first : Register) (n : ℕ) where
  -- all steps of the state are left
  all_left : (now : Register) (generated : ℕ) (sieve : Sieve)
      → IsSiftedBetween task k first now n generated sieve → n < length now.entries →
      IsSiftedWithin task k first now n (applicable_steps task (state_at task now n)) generated sieve
  unfolding turn_begun
  all_left now generated sieve b l =
      record {
        no_goal = b.no_goal;
        turn = turn_begun b.turns l;
        told =
            turn_tells task k b.turns.of n sieve.left_out b.told;
        notes = b.notes;
        limit = b.limit;
      }

  pub begun : (now : Register) (generated : ℕ) (sieve : Sieve) (words : List ℕ) (prepared : PreparedState)
      (left : List Instance) → IsSiftedBetween task k first now n generated sieve →
      n < length now.entries → words ≡ (registered_at now.entries n).words
      → prepared ≡ record { task = task; words = words } → left ≡ steps_in prepared →
      IsSiftedWithin task k first now n left generated sieve
  begun now generated sieve words prepared left b l read is steps =
      subst (λ (ss : List Instance). IsSiftedWithin task k first now n ss generated sieve)
      (sym (steps ∙ ap steps_in is ∙ ap (λ ws. applicable_steps task (state_in task ws)) read))
      (all_left now generated sieve b l)

  -- no step is left
  ended : (now : Register) (generated : ℕ) (sieve : Sieve)
      → IsSiftedWithin task k first now n [] generated sieve
      → IsSiftedBetween task k first now (suc n) generated sieve
  unfolding turn_ended
  ended now generated sieve h =
      record {
        no_goal = h.no_goal;
        turns = turn_ended h.turn;
        told = h.told;
        notes = h.notes;
        limit =
            h.limit;
      }

  pub over : (now : Register) (left : List Instance) (generated : ℕ) (sieve : Sieve) → left ≡ []
      → IsSiftedWithin task k first now n left generated sieve →
      IsSiftedBetween task k first now (suc n) generated sieve
  over now left generated sieve none w = ended now generated sieve
      (subst (λ (ss : List Instance). IsSiftedWithin task k first now n ss generated sieve) none w)

  -- memory ran out, and the registry is as it was
  pub broken : (old new : Register) (left : List Instance) (generated : ℕ) (sieve : Sieve) → new ≡ old
      → IsSiftedWithin task k first old n left generated sieve →
      IsWidthBrokenOff task k first new
  broken old new left generated sieve same w =
      subst (IsWidthBrokenOff task k first) (sym same)
      (record {
        of = w.turn.of;
        stands = w.turn.at.stands;
        holds = w.turn.holds.entries_are;
        limit =
            w.limit;
      })

  -- which is what an error comes to
  pub failed : {E : Type 0} (old new : Register) (left : List Instance) (generated more : ℕ)
      (before after : Sieve) (result : Result (Option Ended) E) → IsErr result → new ≡ old →
      IsSiftedWithin task k first old n left generated before
      → AfterSiftedTurn task k first new n more after result
  failed old new left generated more before after (Ok answer) e same w = absurd (false≢true e)
  failed old new left generated more before after (Err fault) e same w =
      broken old new left generated before same w

  module _ (old : Register) (before after : Sieve) (step : Instance) (left : List Instance) (generated : ℕ)
      (w : IsSiftedWithin task k first old n (step ∷ left) generated before) where
    -- the pair of the step
    abbrev this : Pair
    this = pair_in (space_of task) w.turn.of n step

    reads : this.target ≡ target_of task old n step
    reads = target_is (space_of task) w.turn.holds (turn_registered w.turn) step

    -- whether a state was left out, after its target was
    tells : (words : List ℕ) → IsStateOf task words → state_in task words ≡ target_of task old n step
        → IsStale task k (states_held task old) (target_of task old n step) →
        TellsHeld old words before.left_out after.left_out
        → TellsLeftOut task k (with_pair w.turn.of this) after.left_out
    tells words state is stale (inl (i, held, same)) =
        subst (TellsLeftOut task k (with_pair w.turn.of this)) (sym same)
        (known_again task k w.turn.of this before.left_out
        (of_seen (λ seen s. Contains seen s) w.turn.holds reads
        (subst (Contains (states_held task old)) is (held_is_known task old words i held))) w.told)
    tells words state is stale (inr (inl (unheld, met))) =
        subst (TellsLeftOut task k (with_pair w.turn.of this)) (sym met)
        (left_behind task k w.turn.of this (target_unknown w.turn words (one_state task) state is unheld)
        (of_seen (IsStale task k) w.turn.holds reads stale))
    tells words state is stale (inr (inr (set, met))) =
        subst (TellsLeftOut task k (with_pair w.turn.of this)) (sym met)
        (still_behind task k w.turn.of this (subst (TellsLeftOut task k w.turn.of) set w.told))

    -- its target is left out
    out_on : (words : List ℕ) → IsStateOf task words → state_in task words ≡ target_of task old n step
        → IsFalse (is_goal task (target_of task old n step)) →
        IsStale task k (states_held task old) (target_of task old n step)
        → NotesSeen task k (states_held task old) after.novelty →
        TellsHeld old words before.left_out after.left_out
        → IsSiftedWithin task k first old n left (capped (suc generated)) after
    unfolding dropped_one
    out_on words state is no_goal stale notes told = record {
      no_goal = w.no_goal;
      turn = dropped_one w.turn no_goal stale;
      told = tells words state is stale told;
      notes = notes;
      limit = w.limit;
    }

    -- its target is registered
    in_on : (words : List ℕ) → IsStateOf task words → state_in task words ≡ target_of task old n step
        → IsFalse (is_goal task (target_of task old n step)) →
        (IsHeld old words → ⊥) → IsNovel task k (states_held task old) (target_of task old n step) →
        NotesSeen task k (states_held task old ++ target_of task old n step ∷ []) after.novelty
        → after.left_out ≡ before.left_out →
        IsSiftedWithin task k first (with_entry old words n step) n left (capped (suc generated)) after
    unfolding new_one
    in_on words state is no_goal unheld novel notes same = record {
      no_goal = w.no_goal;
      turn = new_one w.turn words (one_state task) state is no_goal unheld novel;
      told = subst (TellsLeftOut task k (with_new w.turn.of this)) (sym same)
          (registered_now task k w.turn.of this before.left_out
          (of_seen (IsNovel task k) w.turn.holds reads novel) w.told);
      notes = subst (λ seen. NotesSeen task k seen after.novelty)
          (ap (λ s. states_held task old ++ s ∷ []) (sym is) ∙ sym (held_more task old words n step)) notes;
      limit = w.limit;
    }

  module _ (old new : Register) (before after : Sieve) (step : Instance) (left whole : List Instance)
      (generated more : ℕ)
      (given : IsSiftedWithin task k first old n whole generated before) (parts : whole ≡ step ∷ left)
      (count : more ≡ min (generated + 1) (2 ^ 64 - 1)) where
    w : IsSiftedWithin task k first old n (step ∷ left) generated before
    w = subst (λ (ss : List Instance). IsSiftedWithin task k first old n ss generated before) parts given

    counted : more ≡ capped (suc generated)
    counted = count ∙ ap (λ m. min m (2 ^ 64 - 1)) (one_more generated)

    -- the search goes on
    pub onward : TriesNew task k old new before after n step {E = ℕ} (Ok None)
        → IsSiftedWithin task k first new n left more after
    onward (inl h) =
        subst (λ r. IsSiftedWithin task k first r n left more after) (sym h.left.same)
        (subst (λ m. IsSiftedWithin task k first old n left m after) (sym counted)
        (out_on old before after step left generated w h.left.words h.left.state h.left.target h.left.no_goal
        h.stale h.notes h.told))
    onward (inr h) =
        subst (λ r. IsSiftedWithin task k first r n left more after) (sym h.taken.more)
        (subst (λ m. IsSiftedWithin task k first (with_entry old h.taken.words n step) n left m after)
        (sym counted)
        (in_on old before after step left generated w h.taken.words h.taken.state h.taken.target
        h.taken.no_goal h.taken.unheld h.taken.kept h.notes h.same))

    -- or ends here
    abbrev stats : Stats
    stats = record { states = length old.entries; expanded = suc n; generated = capped (suc generated) }

    stats_now : new ≡ old → record { states = length new.entries; expanded = n + 1; generated = more } ≡ stats
    stats_now same = λ i.
        record { states = length (same i).entries; expanded = one_more n i; generated = counted i }

    fits : IsRegister new → new ≡ old → length old.entries ≤ old.limit
    fits register same = (subst IsRegister same register).few

    ends_by : (o : Outcome) → IsRegister new → TriesNew task k old new before after n step {E = ℕ}
        (Ok (Some o)) →
        EndsByWidth task k first new (ending_of o)
        (record { states = length new.entries; expanded = n + 1; generated = more })
    ends_by (outcome.Found plan) register h =
        ended_so task k first old new (Found plan) (Found (registered_path old.entries n ++ step ∷ []))
        (record { states = length new.entries; expanded = n + 1; generated = more }) stats
        w.turn.of (inr (
          under_way w.no_goal w.turn.at.stands w.turn.holds (fits register h.same),
          is_found w.turn h.goal,
        )) w.turn.holds.entries_are
        h.same w.limit (ap Found h.plan_is) (stats_now h.same)
    ends_by outcome.Limit register h =
        ended_so task k first old new Limit Limit
        (record { states = length new.entries; expanded = n + 1; generated = more }) stats
        w.turn.of (
          under_way w.no_goal w.turn.at.stands w.turn.holds (fits register h.same),
          is_full w.turn h.words (one_state task) h.state h.target h.no_goal h.unheld h.kept h.full,
        )
        w.turn.holds.entries_are h.same w.limit refl (stats_now h.same)
    ends_by outcome.Unsolvable register h = absurd h

    pub ends : (o : Outcome) (ended : Ended) → ended ≡ ended_by o (length new.entries) (n + 1) more
        → IsRegister new →
        TriesNew task k old new before after n step {E = ℕ} (Ok (Some o))
        → EndsByWidth task k first new (ending_of ended.outcome) ended.stats
    ends o ended is register h =
        subst (λ (e : Ended). EndsByWidth task k first new (ending_of e.outcome) e.stats) (sym is)
        (ends_by o register h)
