-- How a search ends, and what it has counted then.
use Rattle.std.specs.Prelude.{◌≡◌, ◌⊎◌, ℕ, suc, ◌-◌, ◌^◌, ◌≤◌, ◌<◌, min, Bool, IsTrue, IsFalse, List, [], ◌∷◌}
use Rattle.std.specs.Prelude.{◌++◌, length, All, Contains}
use Rattle.pl_task.specs.Instance.{Instance}
use Rattle.pl_task.specs.declared.task.Task.{Task}
use Rattle.pl_task.specs.States.{State}
use Rattle.pl_task.specs.Goal.{unmet}
use Rattle.pl_registry.specs.declared.ended.Ended.{Ended}
use Rattle.pl_registry.specs.declared.ended.Outcome.{Outcome}
use Rattle.pl_registry.specs.declared.ended.Outcome.TheVariants as outcome
use Rattle.pl_registry.specs.declared.ended.Stats.{Stats}
use Rattle.pl_registry.specs.declared.search.Search.{Search}
use Rattle.pl_registry.specs.declared.search.Search.TheVariants as search
use Rattle.pl_registry.specs.StateSpace.{StateSpace, space_of}
use Rattle.pl_registry.specs.Cut.{IsCut, IsKept}
use Rattle.pl_registry.specs.SearchRecord.{Pair, SearchRecord, entry_of_initial, states_of, path_of}
use Rattle.pl_registry.specs.SearchRecord.{all_pairs, IsRecordUpTo}
use Rattle.pl_registry.specs.Novelty.{IsNovel, IsStale}

-- the endings of all searches
pub data Ending : Type 0 where
  -- a plan was found
  Found : List Instance → Ending
  -- no plan exists
  Unsolvable : Ending
  -- no state is left, but states were dropped from which a goal might be reached
  Exhausted : Ending
  -- one more state than the limit allows
  Limit : Ending

abbrev pub ending_of : Outcome → Ending
ending_of (outcome.Found plan) = Found plan
ending_of outcome.Unsolvable = Unsolvable
ending_of outcome.Limit = Limit

-- a count of 64 bits stops at its greatest value; entries are few enough to be counted in full
abbrev pub capped : ℕ → ℕ
capped n = min n (2 ^ 64 - 1)

abbrev pub stats_of : ℕ → ℕ → ℕ → Stats
stats_of states expanded generated =
    record { states = states; expanded = expanded; generated = capped generated }

-- an outcome with counts
abbrev pub ended_by : Outcome → ℕ → ℕ → ℕ → Ended
ended_by outcome states expanded generated =
    record {
      outcome = outcome;
      stats =
          record { states = states; expanded = expanded; generated = generated };
    }

-- the record of a search that ends before it expands a state
abbrev pub record_at_once : StateSpace → SearchRecord
record_at_once space = record { entries = entry_of_initial space.initial ∷ []; expanded = []; pairs = [] }

-- the search ends before it expands a state
pub record IsAtOnce (space : StateSpace) (r : SearchRecord) (stats : Stats) : Type 0 where
  pub is : r ≡ record_at_once space
  pub stats_are : stats ≡ stats_of 1 0 0

-- the pair is the next one after those of the record, in the turn of the entry expanded last
pub record IsNextPair (space : StateSpace) (r : SearchRecord) (at : Pair) : Type 0 where
  pub rest : List Pair
  pub pairs_are : all_pairs space r ≡ r.pairs ++ at ∷ rest
  pub last_turn : suc at.turn ≡ length r.expanded

-- the next pair leads to a goal state; the plan is the path of its entry, then its step
pub record IsFoundAt (space : StateSpace) (r : SearchRecord) (plan : List Instance)
    (stats : Stats) : Type 0 where
  pub at : Pair
  pub next : IsNextPair space r at
  pub goal : IsTrue (space.is_goal at.target)
  pub plan_is : plan ≡ path_of r.entries at.entry ++ at.step ∷ []
  pub stats_are : stats ≡ stats_of (length r.entries) (length r.expanded) (suc (length r.pairs))

-- the next pair leads to a state that is to be registered, no goal state, and as many states as the limit are
pub record IsFull (space : StateSpace) (MayKeep : List State → State → Type 0) (limit : ℕ) (r : SearchRecord)
    (stats : Stats) : Type 0 where
  pub at : Pair
  pub next : IsNextPair space r at
  pub no_goal : IsFalse (space.is_goal at.target)
  pub unknown : Contains (states_of r.entries) at.target → ⊥
  pub kept : MayKeep (states_of r.entries) at.target
  pub full : length r.entries ≡ limit
  pub stats_are : stats ≡ stats_of (length r.entries) (length r.expanded) (suc (length r.pairs))

-- every entry was expanded, and every pair tried
pub record IsClosed (space : StateSpace) (r : SearchRecord) (stats : Stats) : Type 0 where
  pub pairs_are : all_pairs space r ≡ r.pairs
  pub every : (i : ℕ) → i < length r.entries → Contains r.expanded i
  pub stats_are : stats ≡ stats_of (length r.entries) (length r.entries) (length r.pairs)

-- the search went on from an initial state that is no goal state, and its record has no more entries than the
-- limit
pub record IsUnderWay (space : StateSpace) (MayDrop MayKeep : List State → State → Type 0) (rank : State → ℕ)
    (limit : ℕ) (r : SearchRecord) : Type 0 where
  pub no_goal : IsFalse (space.is_goal space.initial)
  pub few : length r.entries ≤ limit
  pub stands : IsRecordUpTo space MayDrop MayKeep rank r

-- Searches that cut states, whatever was registered before. The initial state may be cut too.

abbrev pub IsCutAtOnce : StateSpace → (State → Type 0) → SearchRecord → Stats → Type 0
IsCutAtOnce space MayDrop r stats = IsFalse (space.is_goal space.initial) × MayDrop space.initial
    × IsAtOnce space r stats

-- under way from an initial state that was not cut
abbrev pub IsUncut : StateSpace → (State → Type 0) → (State → Type 0) → (State → ℕ) → ℕ → SearchRecord
    → Type 0
IsUncut space MayDrop MayKeep rank limit r =
    MayKeep space.initial × IsUnderWay space (λ _. MayDrop) (λ _. MayKeep) rank limit r

-- how a search with a limit on its entries ends that expands by rank and then by number
abbrev pub IsEnding : StateSpace → (State → Type 0) → (State → Type 0) → (State → ℕ) → ℕ → SearchRecord
    → Ending → Stats → Type 0
IsEnding space MayDrop MayKeep rank limit r (Found plan) stats =
    (IsTrue (space.is_goal space.initial) × (plan ≡ []) × IsAtOnce space r stats) ⊎
    (IsUncut space MayDrop MayKeep rank limit r × IsFoundAt space r plan stats)
IsEnding space MayDrop MayKeep rank limit r Unsolvable stats =
    IsCutAtOnce space MayDrop r stats ⊎ (IsUncut space MayDrop MayKeep rank limit r × IsClosed space r stats)
IsEnding space MayDrop MayKeep rank limit r Exhausted stats = ⊥
IsEnding space MayDrop MayKeep rank limit r Limit stats =
    IsUncut space MayDrop MayKeep rank limit r × IsFull space (λ _. MayKeep) limit r stats

-- breadth-first search: states are expanded in the order of their numbers
abbrev pub by_number : State → ℕ
by_number s = 0

-- Width searches: a state is dropped where it is not new. They expand by number.

abbrev pub IsWidthUnderWay : StateSpace → Task → ℕ → ℕ → SearchRecord → Type 0
IsWidthUnderWay space task k limit r = IsUnderWay space (IsStale task k) (IsNovel task k) by_number limit r

-- whether each pair leads to a registered state
abbrev pub AreAllKnown : SearchRecord → Type 0
AreAllKnown r = All (λ (p : Pair). Contains (states_of r.entries) p.target) r.pairs

-- some pair leads to a state that is not registered
abbrev pub IsSomeLeftOut : SearchRecord → Type 0
IsSomeLeftOut r = (p : Pair) × Contains r.pairs p × (Contains (states_of r.entries) p.target → ⊥)

abbrev pub IsWidthEnding : StateSpace → Task → ℕ → ℕ → SearchRecord → Ending → Stats → Type 0
IsWidthEnding space task k limit r (Found plan) stats =
    (IsTrue (space.is_goal space.initial) × (plan ≡ []) × IsAtOnce space r stats) ⊎
    (IsWidthUnderWay space task k limit r × IsFoundAt space r plan stats)
IsWidthEnding space task k limit r Unsolvable stats = IsWidthUnderWay space task k limit r
    × IsClosed space r stats × AreAllKnown r
IsWidthEnding space task k limit r Exhausted stats = IsWidthUnderWay space task k limit r
    × IsClosed space r stats × IsSomeLeftOut r
IsWidthEnding space task k limit r Limit stats =
    IsWidthUnderWay space task k limit r × IsFull space (IsNovel task k) limit r stats

-- how a search of a task ends, where the states that the test names are cut under breadth-first and greedy
-- search
abbrev pub IsEndingOf : Task → (State → Bool) → Search → ℕ → SearchRecord → Ending → Stats → Type 0
IsEndingOf task cut search.Bfs limit r ending stats = IsEnding (space_of task) (IsCut cut)
    (IsKept cut) by_number limit r ending stats
IsEndingOf task cut search.Gbfs limit r ending stats = IsEnding (space_of task) (IsCut cut) (IsKept cut)
    (unmet task) limit r ending stats
IsEndingOf task cut search.Iw1 limit r ending stats = IsWidthEnding
    (space_of task) task 1 limit r ending stats
IsEndingOf task cut search.Iw2 limit r ending stats = IsWidthEnding
    (space_of task) task 2 limit r ending stats
