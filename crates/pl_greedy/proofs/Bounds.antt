-- Bounds on probes: the turns add up to the bound of the search, which has one record.
use Rattle.std.proofs.Common.{◌+◌, ◌<◌, ◌≤◌, ℕ, Bool, false, List, [], ◌∷◌, ◌++◌, map, length, All, Bor}
use Rattle.std.proofs.Common.{Option, Some, None, Ok, sym, ap, ◌∙◌, subst, inl, inr, arith}
use Rattle.std.specs.Fn.{FnReturnsAt}
use Rattle.std.specs.List.Sorted.{IsPermutation}
use Rattle.std.proofs.lemmas.List.Elements.{Contains-get_or, Contains-append_left}
use Rattle.std.proofs.lemmas.List.Sorted.{Contains-permutation, IsPermutation-sym}
use denote.Param.Members.{Shared}
use Rattle.pl_task.specs.declared.task.Task.{Task}
use Rattle.pl_task.specs.Goal.{unmet}
use Rattle.pl_task.specs.Instance.{Instance}
use Rattle.pl_task.specs.States.{State}
use Rattle.pl_state.proofs.StatesOfWords.{one_state}
use Rattle.pl_normal.specs.Measures.{probe_bound}
use Rattle.pl_registry.specs.StateSpace.{space_of}
use Rattle.pl_registry.specs.SearchRecord.{SearchRecord}
use Rattle.pl_registry.specs.declared.ended.Ended.{Ended}
use Rattle.pl_registry.specs.declared.ended.Outcome.{Outcome}
use Rattle.pl_registry.specs.Ending.{ending_of}
use Rattle.pl_registry.specs.Registered.{Register}
use Rattle.pl_registry.specs.Held.{turns, state_at}
use Rattle.pl_registry.specs.Probes.{search_bound, bound_of, KeepsEntries}
use Rattle.pl_registry.proofs.Bounds.{kept_same, kept_more, still_registered, turn_added, record_bound}
use Rattle.pl_registry.proofs.OneEnding.{one_cut}
use Rattle.pl_hooks.specs.Asked.{MayDrop, MayKeep}
use Rattle.pl_hooks.specs.Sound.{IsSoundCut}
use Rattle.pl_hooks.proofs.Trials.{tried_keeps}
use Rattle.pl_greedy.specs.Greedy.{IsGreedy}
use Rattle.pl_greedy.specs.Queue.{number_of, IsQueued}
use Rattle.pl_greedy.specs.UnderWay.{IsBetween, IsChosen, IsGreedyAfter, Attempts}
use Rattle.pl_greedy.proofs.Queueing.{turns_under}

-- what was expanded is registered
done_registered : (n : ℕ) (done left : List ℕ) → IsPermutation (turns n) (done ++ left)
    → All (λ i. i < n) done
done_registered n done left p k d l =
    turns_under n _
    (Contains-permutation (done ++ left) (turns n) _ (IsPermutation-sym (turns n) (done ++ left) p)
    (Contains-append_left done left _ (Contains-get_or done k d l)))

queued_registered : (task : Task) (now : Register) (past keys : List ℕ) → IsQueued task now past keys →
    All (λ i. i < length now.entries) past
queued_registered task now past keys q = done_registered (length now.entries) past (map number_of keys) q.all

module _ {F : Type 0} (calls : Shared F (Bor (List ℕ) × Unit {0}) Bool) (task : Task) (cut : F) where
  -- trying a step keeps all entries
  pub attempt_keeps : (old new : Register) (n : ℕ) (step : Instance) (keys more : List ℕ)
      (answer : Option Outcome) →
      Attempts calls task cut {E = ℕ} old new n step keys more (Ok answer) → KeepsEntries old new
  attempt_keeps old new n step keys more None (inl (h, same)) = kept_same old new h.same
  attempt_keeps old new n step keys more None (inr (h, m)) = kept_more old new h.words n step h.more
  attempt_keeps old new n step keys more (Some o) h = tried_keeps calls task cut old new n step (Some o) h

  -- a state that may be dropped may not be kept
  apart : IsSoundCut calls task cut → (s : State) → MayDrop calls task cut s → MayKeep calls task cut s → ⊥
  apart sound s (words, state, is, dropped) (others, other, also, kept) =
      sound.one_answer words state dropped
      (subst (λ ws. FnReturnsAt calls cut ws false) (one_state task others words other state (also ∙ sym is))
      kept)

  module _ (first : Register) where
    -- the probes of the turns so far, and of one more
    pub turn_spent : (old new : Register) (past keys : List ℕ) (n expanded generated start before after : ℕ) →
        IsChosen calls task cut first old past keys n expanded generated → KeepsEntries old new →
        before ≤ start + bound_of task old past → after ≤ before + probe_bound task (state_at task old n) →
        after ≤ start + bound_of task new (past ++ n ∷ [])
    turn_spent old new past keys n expanded generated start before after chosen kept =
        turn_added task old new past n start before after
        (queued_registered task old (past ++ n ∷ []) keys chosen.queued) kept

    pub expanded_there : (now : Register) (past keys : List ℕ) (expanded generated : ℕ) →
        IsBetween calls task cut first now past keys expanded generated
        → All (λ i. i < length now.entries) past
    expanded_there now past keys expanded generated b = queued_registered task now past keys b.queued

    pub turn_there : (old new : Register) (past keys : List ℕ) (n expanded generated : ℕ) →
        IsChosen calls task cut first old past keys n expanded generated → KeepsEntries old new →
        All (λ i. i < length new.entries) (past ++ n ∷ [])
    turn_there old new past keys n expanded generated chosen kept =
        still_registered old new (past ++ n ∷ []) kept
        (queued_registered task old (past ++ n ∷ []) keys chosen.queued)

    -- what a search took is within the bound of its one record
    pub within_bound : (new : Register) (past : List ℕ) (ended : Ended) (before after : ℕ)
        → IsSoundCut calls task cut →
        IsGreedyAfter calls task cut first past new ended → All (λ i. i < length new.entries) past →
        after ≤ before + bound_of task new past → (search : IsGreedy calls task cut first new ended) →
        after ≤ before + search_bound task search.of
    within_bound new past ended before after sound done there spent search =
        let same = (one_cut (space_of task) (MayDrop calls task cut) (MayKeep calls task cut)
        (unmet task) first.limit
        (apart sound) done.search.of search.of (ending_of ended.outcome)
        (ending_of ended.outcome) ended.stats ended.stats
        done.search.ending search.ending).0 in
        let bound = record_bound task new done.search.of past done.search.holds done.turns_are there in
        let alike = ap (λ (r : SearchRecord). search_bound task r) same in
        omega (arith, spent, bound, alike)
