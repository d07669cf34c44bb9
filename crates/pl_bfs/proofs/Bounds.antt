-- Bounds on probes: trying a step keeps all entries, and the turns add up to the bound of the search.
use Rattle.std.proofs.Common.{◌≡◌, ◌+◌, ◌<◌, ◌≤◌, ℕ, suc, Bool, List, length, Bor, Option, Some, None, Ok}
use Rattle.std.proofs.Common.{sym, ap, ◌∙◌, subst, inl, inr, arith}
use Rattle.std.proofs.lemmas.List.{length-map}
use denote.Param.Members.{Shared}
use Rattle.pl_task.specs.declared.task.Task.{Task}
use Rattle.pl_task.specs.Instance.{Instance}
use Rattle.pl_normal.specs.Measures.{probe_bound}
use Rattle.pl_registry.specs.StateSpace.{space_of}
use Rattle.pl_registry.specs.declared.ended.Ended.{Ended}
use Rattle.pl_registry.specs.declared.ended.Outcome.{Outcome}
use Rattle.pl_registry.specs.declared.ended.Outcome.TheVariants as outcome
use Rattle.pl_registry.specs.Ending.{ending_of}
use Rattle.pl_registry.specs.Registered.{Register, entry_of, entries_of}
use Rattle.pl_registry.specs.SearchRecord.{SearchRecord}
use Rattle.pl_registry.specs.Held.{turns, state_at}
use Rattle.pl_registry.specs.Probes.{KeepsEntries}
use Rattle.pl_registry.proofs.Bounds.{kept_same, kept_more, turns_registered, turn_added as one_turn_added}
use Rattle.pl_registry.proofs.Bounds.{record_bound}
use Rattle.pl_registry.proofs.Numbered.{ends_in_number, ends_few, width_in_number, width_few}
use Rattle.pl_bfs.specs.declared.sieve.Sieve.{Sieve}
use Rattle.pl_bfs.specs.declared.width_ended.WidthEnded.{WidthEnded}
use Rattle.pl_bfs.specs.Breadth.{IsBreadth, MayDrop, MayKeep, search_bound}
use Rattle.pl_bfs.specs.Width.{IsWidth, ending_of_width}
use Rattle.pl_bfs.specs.Sifting.{TriesNew}
use Rattle.pl_bfs.specs.UnderWay.{turns_bound}

-- trying a step in a width search keeps all entries
pub sifted_keeps : (task : Task) (k : ℕ) (old new : Register) (before after : Sieve) (n : ℕ) (step : Instance)
    (answer : Option Outcome) → TriesNew task k old new before after n step {E = ℕ} (Ok answer)
    → KeepsEntries old new
sifted_keeps task k old new before after n step None (inl h) = kept_same old new h.left.same
sifted_keeps task k old new before after n step None (inr h) =
    kept_more old new h.taken.words n step h.taken.more
sifted_keeps task k old new before after n step (Some (outcome.Found plan)) h = kept_same old new h.same
sifted_keeps task k old new before after n step (Some outcome.Limit) h = kept_same old new h.same
sifted_keeps task k old new before after n step (Some outcome.Unsolvable) h = absurd h

module _ (task : Task) where
  -- the probes of the turns so far, and of one more
  pub turn_added : (old new : Register) (n first before after : ℕ) → n < length old.entries
      → KeepsEntries old new →
      before ≤ first + turns_bound task old n → after ≤ before + probe_bound task (state_at task old n) →
      after ≤ first + turns_bound task new (n + 1)
  turn_added old new n first before after l kept spent cost =
      let count : suc n ≡ n + 1 = omega arith in
      subst (λ k. after ≤ first + turns_bound task new k) count
      (one_turn_added task old new (turns n) n first before after
      (turns_registered old (suc n) (omega (arith, l))) kept spent cost)

  -- the bound of a record that expanded the first n entries of a registry
  bound_is : (now : Register) (r : SearchRecord) (n : ℕ) → entries_of task now ≡ r.entries
      → r.expanded ≡ turns n →
      n ≤ length r.entries → search_bound task r ≡ turns_bound task now n
  bound_is now r n holds numbered few =
      let alike : length r.entries ≡ length now.entries = sym (ap length holds)
      ∙ length-map now.entries (entry_of task) in
      record_bound task now r (turns n) holds numbered (turns_registered now n (omega (arith, few, alike)))

  summed : (now : Register) (r : SearchRecord) (n count before after : ℕ)
      → search_bound task r ≡ turns_bound task now n →
      n ≡ count → after ≤ before + turns_bound task now count → after ≤ before + search_bound task r
  summed now r n count before after same counted spent =
      let so_many = ap (turns_bound task now) counted in omega (arith, same, so_many, spent)

-- what a search took, by the turns that it counts
pub within_bound : {F : Type 0} (calls : Shared F (Bor (List ℕ) × Unit {0}) Bool) (task : Task) (cut : F)
    (old new : Register) (ended : Ended) (before after count : ℕ) →
    ended.stats.expanded ≡ count → after ≤ before + turns_bound task new count
    → (h : IsBreadth calls task cut old new ended) →
    after ≤ before + search_bound task h.of
within_bound calls task cut old new ended before after count counted spent h =
    let numbered = ends_in_number (space_of task) (MayDrop calls task cut)
    (MayKeep calls task cut) old.limit h.of (ending_of ended.outcome) ended.stats h.ending in
    let few = ends_few (space_of task) (MayDrop calls task cut) (MayKeep calls task cut) old.limit h.of
    (ending_of ended.outcome) ended.stats h.ending in
    summed task new h.of ended.stats.expanded count before after
    (bound_is task new h.of ended.stats.expanded h.holds numbered few) counted spent

-- and what a width search took
pub width_within_bound : (task : Task) (k : ℕ) (old new : Register) (ended : WidthEnded)
    (before after count : ℕ) →
    ended.stats.expanded ≡ count → after ≤ before + turns_bound task new count
    → (h : IsWidth task k old new ended) →
    after ≤ before + search_bound task h.of
width_within_bound task k old new ended before after count counted spent h =
    let numbered = width_in_number (space_of task) task k old.limit h.of
    (ending_of_width ended.outcome) ended.stats h.is in
    let few = width_few (space_of task) task k old.limit h.of (ending_of_width ended.outcome) ended.stats
    h.is in
    summed task new h.of ended.stats.expanded count before after
    (bound_is task new h.of ended.stats.expanded h.holds numbered few) counted spent
