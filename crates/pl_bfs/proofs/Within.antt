-- The turn of an entry: it begins, a step is tried, and it ends.
use Rattle.std.proofs.Common.{◌≡◌, ◌<◌, ◌+◌, ◌-◌, ◌^◌, ℕ, suc, min, Bool, List, [], ◌∷◌, ◌++◌, length}
use Rattle.std.proofs.Common.{length-append, Bor, Option, Some, None, Result, Ok, Err, refl, sym, ap, ◌∙◌}
use Rattle.std.proofs.Common.{subst, inl, inr, arith}
use Rattle.std.specs.Result.{IsErr}
use Rattle.std.proofs.lemmas.Bool.{false≢true}
use denote.Param.Members.{Shared}
use Rattle.pl_task.specs.declared.task.Task.{Task}
use Rattle.pl_task.specs.Instance.{Instance}
use Rattle.pl_normal.specs.Steps.{applicable_steps}
use Rattle.pl_state.specs.StateOf.{state_in}
use Rattle.pl_state.proofs.StatesOfWords.{one_state}
use Rattle.pl_registry.specs.StateSpace.{space_of}
use Rattle.pl_registry.specs.declared.ended.Ended.{Ended}
use Rattle.pl_registry.specs.declared.ended.Stats.{Stats}
use Rattle.pl_registry.specs.declared.ended.Outcome.{Outcome}
use Rattle.pl_registry.specs.declared.ended.Outcome.TheVariants as outcome
use Rattle.pl_registry.specs.Ending.{Ending, ending_of, by_number, capped, IsEnding, ended_by}
use Rattle.pl_registry.specs.Ending.Ending.{Found, Limit}
use Rattle.pl_registry.specs.Registered.{Register, IsRegister, registered_at, registered_path, with_entry}
use Rattle.pl_gen.specs.Walks.{PreparedState, steps_in}
use Rattle.pl_bfs.specs.Breadth.{MayDrop, MayKeep, IsBreadth, IsBrokenOff}
use Rattle.pl_registry.specs.Held.{HoldsInTurn, HasEnded}
use Rattle.pl_hooks.specs.Trying.{Tries, IsLeftOut, IsTakenIn}
use Rattle.pl_bfs.specs.UnderWay.{IsBetween, IsWithin, AfterTurn}
use Rattle.pl_registry.proofs.Holding.{turn_begun, turn_ended, dropped_one, known_one, new_one, found_ending}
use Rattle.pl_registry.proofs.Holding.{full_ending, stands_in}

pub one_more : (k : ℕ) → k + 1 ≡ suc k
one_more k = omega arith

-- what trying a step came to, for a task that is the same, and an answer that is the same
pub tried_as : {F : Type 0} (calls : Shared F (Bor (List ℕ) × Unit {0}) Bool) (task other : Task) (cut : F)
    (old new : Register) (n : ℕ) (step : Instance) (answer same : Option Outcome) →
    other ≡ task → answer ≡ same → Tries calls other cut old new n step {E = ℕ} (Ok answer)
    → Tries calls task cut old new n step {E = ℕ} (Ok same)
tried_as calls task other cut old new n step answer same is at h =
    subst (λ (a : Option Outcome). Tries calls task cut old new n step {E = ℕ} (Ok a)) at
    (subst (λ (t : Task). Tries calls t cut old new n step {E = ℕ} (Ok answer)) is h)

-- no entry is lost
pub still_there : {F : Type 0} (calls : Shared F (Bor (List ℕ) × Unit {0}) Bool) (task : Task) (cut : F)
    (old new : Register) (n : ℕ) (step : Instance) →
    Tries calls task cut old new n step {E = ℕ} (Ok None) → n < length old.entries → n < length new.entries
still_there calls task cut old new n step (inl h) l =
    (let e = ap (λ (r : Register). length r.entries) h.same in omega (arith, e, l))
still_there calls task cut old new n step (inr h) l =
    let e = ap (λ (r : Register). length r.entries) h.more
    ∙ length-append old.entries (record { words = h.words; parent = n; step = step } ∷ []) in
    omega (arith, e, l)

module _ {F : Type 0} (calls : Shared F (Bor (List ℕ) × Unit {0}) Bool) (task : Task) (cut : F)
    (first : Register) where
  -- a search has ended
  pub ended_so : (limit : ℕ) (old new : Register) (ending : Ending) (stats : Stats) (ended : Ended) →
      HasEnded task (space_of task) (MayDrop calls task cut) (MayKeep calls task cut) limit old ending stats →
      limit ≡ first.limit → new ≡ old → old.limit ≡ first.limit → ending_of ended.outcome ≡ ending
      → ended.stats ≡ stats → IsBreadth calls task cut first new ended
  ended_so limit old new ending stats ended h at same kept outcome counts =
      subst (λ (r : Register). IsBreadth calls task cut first r ended) (sym same)
      (record {
        of = h.of;
        ending = subst
            (λ (s : Stats). IsEnding (space_of task) (MayDrop calls task cut)
            (MayKeep calls task cut) by_number first.limit h.of (ending_of ended.outcome) s) (sym counts)
            (subst (λ (e : Ending). IsEnding (space_of task) (MayDrop calls task cut)
            (MayKeep calls task cut) by_number first.limit h.of e stats) (sym outcome)
            (subst (λ (l : ℕ). IsEnding (space_of task) (MayDrop calls task cut)
            (MayKeep calls task cut) by_number l h.of ending stats) at h.is));
        holds = h.holds;
        limit = kept;
      })

module _ {F : Type 0} (calls : Shared F (Bor (List ℕ) × Unit {0}) Bool) (task : Task) (cut : F)
    (first : Register) (n : ℕ) where
  -- all steps of the state are left
  pub begun : (now : Register) (generated : ℕ) (words : List ℕ) (prepared : PreparedState)
      (left : List Instance) → IsBetween calls task cut first now n generated → n < length now.entries →
      words ≡ (registered_at now.entries n).words → prepared ≡ record { task = task; words = words }
      → left ≡ steps_in prepared → IsWithin calls task cut first now n left generated
  begun now generated words prepared left between l read is steps =
      record {
        uncut = between.uncut;
        turn = subst (λ (ss : List Instance). HoldsInTurn task (space_of task) (λ _. MayDrop calls task cut)
            (λ _. MayKeep calls task cut) now n ss generated)
            (sym (steps ∙ ap steps_in is ∙ ap (λ ws. applicable_steps task (state_in task ws)) read))
            (turn_begun between.turns l);
        limit = between.limit;
      }

  -- no step is left
  pub over : (now : Register) (left : List Instance) (generated : ℕ) → left ≡ [] →
      IsWithin calls task cut first now n left generated →
      IsBetween calls task cut first now (suc n) generated
  over now left generated none w =
      record {
        uncut = w.uncut;
        turns = turn_ended
            (subst (λ (ss : List Instance). HoldsInTurn task (space_of task) (λ _. MayDrop calls task cut)
            (λ _. MayKeep calls task cut) now n ss generated) none w.turn);
        limit = w.limit;
      }

  -- memory ran out, and the registry is as it was
  pub broken : (old new : Register) (left : List Instance) (generated : ℕ) → new ≡ old →
      IsWithin calls task cut first old n left generated → IsBrokenOff calls task cut first new
  broken old new left generated same w =
      let h = stands_in w.turn in
      subst (IsBrokenOff calls task cut first) (sym same)
      (record { of = h.of; stands = h.stands; holds = h.holds; limit = w.limit })

  -- which is what an error comes to
  pub failed : {E : Type 0} (old new : Register) (left : List Instance) (generated more : ℕ)
      (result : Result (Option Ended) E) → IsErr result → new ≡ old →
      IsWithin calls task cut first old n left generated → AfterTurn calls task cut first new n more result
  failed old new left generated more (Ok answer) e same w = absurd (false≢true e)
  failed old new left generated more (Err fault) e same w = broken old new left generated same w

  module _ (old new : Register) (step : Instance) (left whole : List Instance) (generated more : ℕ)
      (w : IsWithin calls task cut first old n whole generated)
      (parts : whole ≡ step ∷ left) (count : more ≡ min (generated + 1) (2 ^ 64 - 1)) where
    turn : HoldsInTurn task (space_of task) (λ _. MayDrop calls task cut) (λ _. MayKeep calls task cut) old n
        (step ∷ left) generated
    turn = subst (λ (ss : List Instance). HoldsInTurn task (space_of task) (λ _. MayDrop calls task cut)
        (λ _. MayKeep calls task cut) old n ss generated) parts w.turn

    counted : more ≡ capped (suc generated)
    counted = count ∙ ap (λ k. min k (2 ^ 64 - 1)) (one_more generated)

    -- a state that was left out changes nothing
    left_out : IsLeftOut (MayDrop calls task cut) task old new n step →
        HoldsInTurn task (space_of task) (λ _. MayDrop calls task cut)
        (λ _. MayKeep calls task cut) new n left more
    left_out h =
        subst (λ r. HoldsInTurn task (space_of task) (λ _. MayDrop calls task cut)
        (λ _. MayKeep calls task cut) r n left more) (sym h.same)
        (subst (λ m. HoldsInTurn task (space_of task) (λ _. MayDrop calls task cut)
        (λ _. MayKeep calls task cut) old n left m) (sym counted) (elim h.why [
          | inl dropped ↦ dropped_one turn h.no_goal dropped
          | inr held ↦ known_one turn h.words held.0 h.target h.no_goal held.1
        ]))

    -- a state that was taken in is one more entry
    taken_in : IsTakenIn (MayKeep calls task cut) task old new n step →
        HoldsInTurn task (space_of task) (λ _. MayDrop calls task cut)
        (λ _. MayKeep calls task cut) new n left more
    taken_in h =
        subst (λ r. HoldsInTurn task (space_of task) (λ _. MayDrop calls task cut)
        (λ _. MayKeep calls task cut) r n left more) (sym h.more)
        (subst (λ m. HoldsInTurn task (space_of task) (λ _. MayDrop calls task cut)
        (λ _. MayKeep calls task cut) (with_entry old h.words n step) n left m) (sym counted)
        (new_one turn h.words (one_state task) h.state h.target h.no_goal h.unheld h.kept))

    -- the search goes on
    pub onward : Tries calls task cut old new n step {E = ℕ} (Ok None) →
        IsWithin calls task cut first new n left more
    onward (inl h) =
        record { uncut = w.uncut; turn = left_out h; limit = ap (λ (r : Register). r.limit) h.same ∙ w.limit }
    onward (inr h) =
        record { uncut = w.uncut; turn = taken_in h; limit = ap (λ (r : Register). r.limit) h.more ∙ w.limit }

    ends_by : (o : Outcome) → IsRegister new → Tries calls task cut old new n step {E = ℕ} (Ok (Some o)) →
        IsBreadth calls task cut first new (ended_by o (length new.entries) (n + 1) more)
    ends_by (outcome.Found plan) register h =
        ended_so calls task cut first old.limit old new (Found (registered_path old.entries n ++ step ∷ []))
        (record { states = length old.entries; expanded = suc n; generated = capped (suc generated) })
        (ended_by (outcome.Found plan) (length new.entries) (n + 1) more)
        (found_ending w.uncut turn (subst IsRegister h.same register) h.goal) w.limit h.same w.limit
        (ap Found h.plan_is)
        (λ i. record { states = length (h.same i).entries; expanded = one_more n i; generated = counted i })
    ends_by outcome.Limit register h =
        ended_so calls task cut first old.limit old new Limit
        (record { states = length old.entries; expanded = suc n; generated = capped (suc generated) })
        (ended_by outcome.Limit (length new.entries) (n + 1) more)
        (full_ending w.uncut turn h.words (one_state task) h.state h.target h.no_goal h.unheld h.kept
        h.full) w.limit h.same w.limit refl
        (λ i. record { states = length (h.same i).entries; expanded = one_more n i; generated = counted i })
    ends_by outcome.Unsolvable register h = absurd h

    -- it ends here
    pub ends : (o : Outcome) (ended : Ended) → ended ≡ ended_by o (length new.entries) (n + 1) more →
        IsRegister new → Tries calls task cut old new n step {E = ℕ} (Ok (Some o)) →
        IsBreadth calls task cut first new ended
    ends o ended is register h = subst (λ (e : Ended). IsBreadth calls task cut first new e) (sym is)
        (ends_by o register h)
