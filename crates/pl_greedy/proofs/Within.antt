-- The turn of an entry: it begins, a step is tried, and it ends.
use Rattle.std.proofs.Common.{◌≡◌, ◌⊎◌, ◌<◌, ◌+◌, ◌-◌, ◌^◌, ℕ, suc, min, Bool, List, [], ◌∷◌, ◌++◌, length}
use Rattle.std.proofs.Common.{length-append, Bor, Option, Some, None, Result, Ok, Err, refl, sym, ap, ◌∙◌}
use Rattle.std.proofs.Common.{subst, inl, inr, arith}
use Rattle.std.specs.Result.{IsErr}
use Rattle.std.proofs.lemmas.Bool.{false≢true}
use denote.Param.Members.{Shared}
use Rattle.pl_task.specs.declared.task.Task.{Task}
use Rattle.pl_task.specs.Instance.{Instance}
use Rattle.pl_normal.specs.Steps.{applicable_steps}
use Rattle.pl_state.specs.StateOf.{state_in}
use Rattle.pl_state.proofs.StatesOfWords.{one_state}
use Rattle.pl_registry.specs.StateSpace.{space_of}
use Rattle.pl_registry.specs.declared.ended.Ended.{Ended}
use Rattle.pl_registry.specs.declared.ended.Stats.{Stats}
use Rattle.pl_registry.specs.declared.ended.Outcome.{Outcome}
use Rattle.pl_registry.specs.declared.ended.Outcome.TheVariants as outcome
use Rattle.pl_registry.specs.Ending.{Ending, ending_of, capped, IsEnding, ended_by}
use Rattle.pl_registry.specs.Ending.Ending.{Found, Limit}
use Rattle.pl_registry.specs.Registered.{Register, IsRegister, registered_at, registered_path, with_entry}
use Rattle.pl_gen.specs.Walks.{PreparedState, steps_in}
use Rattle.pl_registry.specs.HeldByRank.{HoldsInRanked, HasEndedRanked}
use Rattle.pl_registry.proofs.HoldingByRank.{turn_begun, turn_ended, dropped_one, known_one, new_one}
use Rattle.pl_registry.proofs.HoldingByRank.{found_ending, full_ending, stands_in, stands_between}
use Rattle.pl_task.specs.Goal.{unmet}
use Rattle.pl_hooks.specs.Asked.{MayDrop, MayKeep}
use Rattle.pl_greedy.specs.Greedy.{IsBrokenOff}
use Rattle.pl_hooks.specs.Trying.{Tries, IsLeftOut, IsTakenIn}
use Rattle.pl_greedy.specs.Queue.{IsQueued}
use Rattle.pl_greedy.specs.UnderWay.{IsBetween, IsChosen, IsWithin, IsGreedyAfter, IsMoreKeys, Attempts}
use Rattle.pl_greedy.specs.UnderWay.{AfterTurn}
use Rattle.pl_greedy.proofs.Queueing.{queued_more}

one_more : (k : ℕ) → k + 1 ≡ suc k
one_more k = omega arith

-- what trying a step came to, for a task that is the same, and an answer that is the same
pub tried_as : {F : Type 0} (calls : Shared F (Bor (List ℕ) × Unit {0}) Bool) (task other : Task) (cut : F)
    (old new : Register) (n : ℕ) (step : Instance) (keys more : List ℕ) (answer same : Option Outcome) →
    other ≡ task → answer ≡ same → Attempts calls other cut {E = ℕ} old new n step keys more (Ok answer)
    → Attempts calls task cut {E = ℕ} old new n step keys more (Ok same)
tried_as calls task other cut old new n step keys more answer same is at h =
    subst (λ (a : Option Outcome). Attempts calls task cut {E = ℕ} old new n step keys more (Ok a)) at
    (subst (λ (t : Task). Attempts calls t cut {E = ℕ} old new n step keys more (Ok answer)) is h)

-- what an error of it came to
pub failed_as : {F : Type 0} (calls : Shared F (Bor (List ℕ) × Unit {0}) Bool) (task other : Task) (cut : F)
    (old new : Register) (n : ℕ) (step : Instance) →
    other ≡ task → (new ≡ old) ⊎ IsTakenIn (MayKeep calls other cut) other old new n step → (new ≡ old)
    ⊎ IsTakenIn (MayKeep calls task cut) task old new n step
failed_as calls task other cut old new n step is h =
    subst (λ (t : Task). (new ≡ old) ⊎ IsTakenIn (MayKeep calls t cut) t old new n step) is h

-- no entry is lost
pub still_there : {F : Type 0} (calls : Shared F (Bor (List ℕ) × Unit {0}) Bool) (task : Task) (cut : F)
    (old new : Register) (n : ℕ) (step : Instance) (keys more : List ℕ) →
    Attempts calls task cut {E = ℕ} old new n step keys more (Ok None) → n < length old.entries
    → n < length new.entries
still_there calls task cut old new n step keys more (inl (h, _)) l =
    (let e = ap (λ (r : Register). length r.entries) h.same in omega (arith, e, l))
still_there calls task cut old new n step keys more (inr (h, _)) l =
    let e = ap (λ (r : Register). length r.entries) h.more
    ∙ length-append old.entries (record { words = h.words; parent = n; step = step } ∷ []) in
    omega (arith, e, l)

module _ {F : Type 0} (calls : Shared F (Bor (List ℕ) × Unit {0}) Bool) (task : Task) (cut : F)
    (first : Register) where
  -- a search has ended
  pub ended_so : (past : List ℕ) (limit : ℕ) (old new : Register) (ending : Ending) (stats : Stats)
      (ended : Ended) →
      HasEndedRanked task (space_of task) (MayDrop calls task cut) (MayKeep calls task cut)
      (unmet task) past limit old ending stats →
      limit ≡ first.limit → new ≡ old → old.limit ≡ first.limit → ending_of ended.outcome ≡ ending
      → ended.stats ≡ stats → IsGreedyAfter calls task cut first past new ended
  ended_so past limit old new ending stats ended h at same kept outcome counts =
      subst (λ (r : Register). IsGreedyAfter calls task cut first past r ended) (sym same)
      (record {
        search = record {
          of = h.of;
          ending = subst
              (λ (s : Stats). IsEnding (space_of task) (MayDrop calls task cut) (MayKeep calls task cut)
              (unmet task) first.limit h.of (ending_of ended.outcome) s) (sym counts)
              (subst (λ (e : Ending). IsEnding (space_of task) (MayDrop calls task cut)
              (MayKeep calls task cut) (unmet task) first.limit h.of e stats) (sym outcome)
              (subst (λ (l : ℕ). IsEnding (space_of task) (MayDrop calls task cut) (MayKeep calls task cut)
              (unmet task) l h.of ending stats) at h.is));
          holds = h.holds;
          limit = kept;
        };
        turns_are = h.turns_are;
      })

module _ {F : Type 0} (calls : Shared F (Bor (List ℕ) × Unit {0}) Bool) (task : Task) (cut : F)
    (first : Register) (past : List ℕ) (n : ℕ) where
  -- all steps of the state are left
  pub begun : (now : Register) (keys : List ℕ) (expanded generated : ℕ) (words : List ℕ)
      (prepared : PreparedState) (left : List Instance)
      → IsChosen calls task cut first now past keys n expanded generated →
      words ≡ (registered_at now.entries n).words → prepared ≡ record { task = task; words = words }
      → left ≡ steps_in prepared → IsWithin calls task cut first now past keys n left expanded generated
  begun now keys expanded generated words prepared left chosen read is steps =
      record {
        many = chosen.many;
        uncut = chosen.uncut;
        turn = subst (λ (ss : List Instance). HoldsInRanked task (space_of task) (MayDrop calls task cut)
            (MayKeep calls task cut) (unmet task) now past n ss generated)
            (sym (steps ∙ ap steps_in is ∙ ap (λ ws. applicable_steps task (state_in task ws)) read))
            (turn_begun n chosen.turns_are chosen.there chosen.unexpanded chosen.precedes);
        limit = chosen.limit;
        queued = chosen.queued;
      }

  -- no step is left
  pub over : (now : Register) (keys : List ℕ) (left : List Instance) (expanded generated : ℕ) → left ≡ [] →
      IsWithin calls task cut first now past keys n left expanded generated →
      IsBetween calls task cut first now (past ++ n ∷ []) keys (suc expanded) generated
  over now keys left expanded generated none w =
      record {
        many = (let e = w.many in let both = length-append past (n ∷ []) in omega (arith, e, both));
        uncut = w.uncut;
        turns_are = turn_ended n
            (subst (λ (ss : List Instance). HoldsInRanked task (space_of task) (MayDrop calls task cut)
            (MayKeep calls task cut) (unmet task) now past n ss generated) none w.turn);
        limit = w.limit;
        queued = w.queued;
      }

  -- memory ran out before the first step
  pub unprepared : {E : Type 0} (now : Register) (keys more : List ℕ) (expanded generated g : ℕ)
      (result : Result (Option Ended) E) → IsErr result →
      IsChosen calls task cut first now past keys n expanded generated
      → AfterTurn calls task cut first now (past ++ n ∷ []) more expanded g result
  unprepared now keys more expanded generated g (Ok answer) e w = absurd (false≢true e)
  unprepared now keys more expanded generated g (Err fault) e w =
      let h = stands_between w.turns_are in
      record { of = h.of; stands = h.stands; holds = h.holds; limit = w.limit }

  module _ (old new : Register) (step : Instance) (left whole : List Instance) (keys : List ℕ)
      (expanded generated more : ℕ)
      (w : IsWithin calls task cut first old past keys n whole expanded generated)
      (parts : whole ≡ step ∷ left) (count : more ≡ min (generated + 1) (2 ^ 64 - 1)) where
    turn : HoldsInRanked task (space_of task) (MayDrop calls task cut) (MayKeep calls task cut)
        (unmet task) old past n (step ∷ left) generated
    turn = subst (λ (ss : List Instance). HoldsInRanked task (space_of task) (MayDrop calls task cut)
        (MayKeep calls task cut) (unmet task) old past n ss generated) parts w.turn

    counted : more ≡ capped (suc generated)
    counted = count ∙ ap (λ k. min k (2 ^ 64 - 1)) (one_more generated)

    -- a state that was left out changes nothing
    left_out : IsLeftOut (MayDrop calls task cut) task old new n step →
        HoldsInRanked task (space_of task) (MayDrop calls task cut) (MayKeep calls task cut)
        (unmet task) new past n left more
    left_out h =
        subst (λ r. HoldsInRanked task (space_of task) (MayDrop calls task cut) (MayKeep calls task cut)
        (unmet task) r past n left more) (sym h.same)
        (subst (λ m. HoldsInRanked task (space_of task) (MayDrop calls task cut) (MayKeep calls task cut)
        (unmet task) old past n left m) (sym counted) (elim h.why [
          | inl dropped ↦ dropped_one turn h.no_goal dropped
          | inr held ↦ known_one turn h.words held.0 h.target h.no_goal held.1
        ]))

    -- a state that was taken in is one more entry
    taken_in : IsTakenIn (MayKeep calls task cut) task old new n step →
        HoldsInRanked task (space_of task) (MayDrop calls task cut) (MayKeep calls task cut)
        (unmet task) new past n left more
    taken_in h =
        subst (λ r. HoldsInRanked task (space_of task) (MayDrop calls task cut) (MayKeep calls task cut)
        (unmet task) r past n left more) (sym h.more)
        (subst (λ m. HoldsInRanked task (space_of task) (MayDrop calls task cut) (MayKeep calls task cut)
        (unmet task) (with_entry old h.words n step) past n left m) (sym counted)
        (new_one turn h.words (one_state task) h.state h.target h.no_goal h.unheld h.kept))

    -- and it waits
    waits : (next : List ℕ) → (h : IsTakenIn (MayKeep calls task cut) task old new n step)
        → IsMoreKeys task new (length old.entries) keys next →
        IsQueued task new (past ++ n ∷ []) next
    waits next h m =
        subst (λ (r : Register). IsQueued task r (past ++ n ∷ []) next) (sym h.more)
        (queued_more task old (past ++ n ∷ []) keys next h.words n step w.queued
        (subst (λ (r : Register). IsMoreKeys task r (length old.entries) keys next) h.more m))

    -- the search goes on
    pub onward : (next : List ℕ) → Attempts calls task cut {E = ℕ} old new n step keys next (Ok None) →
        IsWithin calls task cut first new past next n left expanded more
    onward next (inl (h, same)) = record {
      many = w.many;
      uncut = w.uncut;
      turn = left_out h;
      limit = ap (λ (r : Register). r.limit) h.same ∙ w.limit;
      queued = subst (IsQueued task new (past ++ n ∷ [])) (sym same)
          (subst (λ (r : Register). IsQueued task r (past ++ n ∷ []) keys) (sym h.same) w.queued);
    }
    onward next (inr (h, m)) = record {
      many = w.many;
      uncut = w.uncut;
      turn = taken_in h;
      limit = ap (λ (r : Register). r.limit) h.more ∙ w.limit;
      queued = waits next h m;
    }

    -- memory ran out
    broken : (new ≡ old) ⊎ IsTakenIn (MayKeep calls task cut) task old new n step
        → IsBrokenOff calls task cut first new
    broken (inl same) =
        let h = stands_in w.turn in
        subst (IsBrokenOff calls task cut first) (sym same)
        (record { of = h.of; stands = h.stands; holds = h.holds; limit = w.limit })
    broken (inr t) =
        let h = stands_in (taken_in t) in
        record {
          of = h.of;
          stands = h.stands;
          holds = h.holds;
          limit = ap (λ (r : Register). r.limit) t.more
              ∙ w.limit;
        }

    -- which is what an error comes to
    pub failed : {E : Type 0} (next : List ℕ) (g : ℕ) (result : Result (Option Ended) E) → IsErr result
        → (new ≡ old) ⊎ IsTakenIn (MayKeep calls task cut) task old new n step →
        AfterTurn calls task cut first new (past ++ n ∷ []) next expanded g result
    failed next g (Ok answer) e h = absurd (false≢true e)
    failed next g (Err fault) e h = broken h

    ends_by : (o : Outcome) → IsRegister new → Tries calls task cut old new n step {E = ℕ} (Ok (Some o)) →
        IsGreedyAfter calls task cut first (past ++ n ∷ []) new
        (ended_by o (length new.entries) (expanded + 1) more)
    ends_by (outcome.Found plan) register h =
        ended_so calls task cut first (past ++ n ∷ []) old.limit old new
        (Found (registered_path old.entries n ++ step ∷ []))
        (record {
          states = length old.entries;
          expanded = suc (length past);
          generated =
              capped (suc generated);
        })
        (ended_by (outcome.Found plan) (length new.entries) (expanded + 1) more)
        (found_ending w.uncut turn (subst IsRegister h.same register) h.goal) w.limit h.same w.limit
        (ap Found h.plan_is)
        (λ i. record {
          states = length (h.same i).entries;
          expanded =
              (one_more expanded ∙ ap suc w.many) i;
          generated = counted i;
        })
    ends_by outcome.Limit register h =
        ended_so calls task cut first (past ++ n ∷ []) old.limit old new Limit
        (record {
          states = length old.entries;
          expanded = suc (length past);
          generated =
              capped (suc generated);
        })
        (ended_by outcome.Limit (length new.entries) (expanded + 1) more)
        (full_ending w.uncut turn h.words (one_state task) h.state h.target h.no_goal h.unheld h.kept
        h.full) w.limit h.same w.limit refl
        (λ i. record {
          states = length (h.same i).entries;
          expanded =
              (one_more expanded ∙ ap suc w.many) i;
          generated = counted i;
        })
    ends_by outcome.Unsolvable register h = absurd h

    -- it ends here
    pub ends : (o : Outcome) (ended : Ended) → ended ≡ ended_by o (length new.entries) (expanded + 1) more →
        IsRegister new → Tries calls task cut old new n step {E = ℕ} (Ok (Some o)) →
        IsGreedyAfter calls task cut first (past ++ n ∷ []) new ended
    ends o ended is register h =
        subst (λ (e : Ended). IsGreedyAfter calls task cut first (past ++ n ∷ []) new e) (sym is)
        (ends_by o register h)
