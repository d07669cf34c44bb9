-- The endings of searches, by how they ran: a search that cuts states has one, and so has a width search.
use Rattle.std.proofs.Common.{◌⊎◌, ◌≤◌, ℕ, Bool, List, [], Contains, refl, inl, inr}
use Rattle.std.proofs.lemmas.Bool.{cases_Bool}
use Rattle.pl_task.specs.declared.task.Task.{Task}
use Rattle.pl_task.specs.States.{State}
use Rattle.pl_registry.specs.declared.ended.Stats.{Stats}
use Rattle.pl_registry.specs.StateSpace.{StateSpace}
use Rattle.pl_registry.specs.SearchRecord.{Pair, SearchRecord, states_of, IsRecordUpTo}
use Rattle.pl_registry.specs.Ending.{Ending, record_at_once, stats_of, by_number, IsAtOnce, IsUnderWay}
use Rattle.pl_registry.specs.Ending.{IsEnding, IsWidthUnderWay, IsWidthEnding, AreAllKnown, IsSomeLeftOut}
use Rattle.pl_registry.specs.Ending.Ending.{Found, Unsolvable, Exhausted, Limit}
use Rattle.pl_registry.specs.Cut.{IsCut, IsKept}
use Rattle.pl_registry.specs.Novelty.{IsNovel, IsStale}
use Rattle.pl_registry.proofs.Lists.{all_or_one_not}
use Rattle.pl_registry.proofs.Plans.{entries_reached, pair_leads}
use Rattle.pl_registry.proofs.Running.{HowItEnds, HasRun, AreToldApart, IsDecided, among_or_not, has_run}
use Rattle.pl_registry.proofs.Running.HowItEnds.{AtGoal, AtEnd, AtLimit}

-- the record of a search that ends before it expands a state
once : (space : StateSpace) → IsAtOnce space (record_at_once space) (stats_of 1 0 0)
once space = record { is = refl; stats_are = refl }

-- some record has an ending with some counts
abbrev Ends : (SearchRecord → Ending → Stats → Type 0) → Type 0
Ends Is = (r : SearchRecord) × (e : Ending) × (stats : Stats) × Is r e stats

-- a search that cuts states
module _ (space : StateSpace) (D K : State → Type 0) (rank : State → ℕ) (limit : ℕ)
    (kept : K space.initial) where
  ending_by : (r : SearchRecord) → IsUnderWay space (λ _. D) (λ _. K) rank limit r →
      HowItEnds space (λ _. K) limit r → Ends (IsEnding space D K rank limit)
  ending_by r under_way (AtGoal plan stats found) = (r, Found plan, stats, inr ((kept, under_way), found))
  ending_by r under_way (AtEnd stats closed) = (r, Unsolvable, stats, inr ((kept, under_way), closed))
  ending_by r under_way (AtLimit stats full) = (r, Limit, stats, ((kept, under_way), full))

  ending_of_run : HasRun space (λ _. D) (λ _. K) rank limit → Ends (IsEnding space D K rank limit)
  ending_of_run run = ending_by run.of run.under_way run.how

-- whether the initial state is a goal state, or cut, is decided first
pub ending_there : (space : StateSpace) (cut : State → Bool) (rank : State → ℕ) (limit : ℕ) →
    AreToldApart space → 1 ≤ limit → Ends (IsEnding space (IsCut cut) (IsKept cut) rank limit)
ending_there space cut rank limit apart some = elim (cases_Bool (space.is_goal space.initial)) [
  | inl goal ↦ (record_at_once space, Found [], stats_of 1 0 0, inl (goal, refl, once space))
  | inr none ↦ elim (cases_Bool (cut space.initial)) [
    | inl gone ↦ (record_at_once space, Unsolvable, stats_of 1 0 0, inl (none, gone, once space))
    | inr kept ↦ ending_of_run space (IsCut cut) (IsKept cut) rank limit kept
        (has_run space (λ _. IsCut cut) (λ _. IsKept cut) rank limit
        (λ seen t reached. cases_Bool (cut t)) apart none some)
  ]
]

-- whether each pair of a record leads to a registered state
known_or_left_out : (space : StateSpace) → AreToldApart space → {D K : List State → State → Type 0}
    {rank : State → ℕ} (r : SearchRecord) → IsRecordUpTo space D K rank r → AreAllKnown r ⊎ IsSomeLeftOut r
known_or_left_out space apart r stands =
    all_or_one_not (λ (p : Pair). Contains (states_of r.entries) p.target) r.pairs
    (λ p has. among_or_not space apart (states_of r.entries) p.target (pair_leads stands p has)
    (entries_reached stands))

-- a width search
module _ (space : StateSpace) (task : Task) (k limit : ℕ) (apart : AreToldApart space) where
  width_ending_by : (r : SearchRecord) → IsWidthUnderWay space task k limit r →
      HowItEnds space (IsNovel task k) limit r → Ends (IsWidthEnding space task k limit)
  width_ending_by r under_way (AtGoal plan stats found) = (r, Found plan, stats, inr (under_way, found))
  width_ending_by r under_way (AtEnd stats closed) = elim (known_or_left_out space apart r under_way.stands) [
    | inl known ↦ (r, Unsolvable, stats, (under_way, closed, known))
    | inr out ↦ (r, Exhausted, stats, (under_way, closed, out))
  ]
  width_ending_by r under_way (AtLimit stats full) = (r, Limit, stats, (under_way, full))

  width_ending_of_run : HasRun space (IsStale task k) (IsNovel task k) by_number limit →
      Ends (IsWidthEnding space task k limit)
  width_ending_of_run run = width_ending_by run.of run.under_way run.how

  -- whether the initial state is a goal state is decided first
  pub width_ending_there : IsDecided space (IsStale task k) (IsNovel task k) → 1 ≤ limit →
      Ends (IsWidthEnding space task k limit)
  width_ending_there decide some = elim (cases_Bool (space.is_goal space.initial)) [
    | inl goal ↦ (record_at_once space, Found [], stats_of 1 0 0, inl (goal, refl, once space))
    | inr none ↦ width_ending_of_run
        (has_run space (IsStale task k) (IsNovel task k) by_number limit decide apart none some)
  ]
