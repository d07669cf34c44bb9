-- Laws about the records of searches, carried by the functions of the module `laws`. A test says which states
-- are cut.
use Rattle.std.specs.Prelude.{◌≡◌, ◌≢◌, ◌≤◌, ◌+◌, ℕ, Bool, IsTrue, List, length, All, AllPairs}
use Rattle.std.specs.Cmp.{IsTotalOrder}
use Rattle.pl_task.specs.declared.task.Task.{Task}
use Rattle.pl_task.specs.Instance.{Instance}
use Rattle.pl_task.specs.States.{State}
use Rattle.pl_task.specs.Plans.{IsPlan, IsReachable}
use Rattle.pl_registry.specs.declared.ended.Stats.{Stats}
use Rattle.pl_registry.specs.declared.search.Search.{Search}
use Rattle.pl_registry.specs.declared.search.Search.TheVariants as search
use Rattle.pl_registry.specs.SearchRecord.{SearchRecord}
use Rattle.pl_registry.specs.Cut.{ReachesNoGoal}
use Rattle.pl_registry.specs.Ending.{Ending, IsEndingOf}
use Rattle.pl_registry.specs.Ending.Ending.{Found, Unsolvable, Limit}
use Rattle.pl_registry.specs.LeastPlan.{plan_cmp, IsLeastPlan}

-- from each state that is cut no goal state is reachable
abbrev pub CutsDeadEnds : Task → (State → Bool) → Type 0
CutsDeadEnds task cut = (s : State) → IsTrue (cut s) → ReachesNoGoal task s

-- a list that a search finds is a plan
abbrev pub FoundListsArePlans : Task → Search → Type 0
FoundListsArePlans task by = (cut : State → Bool) (limit : ℕ) (r : SearchRecord) (plan : List Instance)
    (stats : Stats) →
    IsEndingOf task cut by limit r (Found plan) stats → IsPlan task plan

-- where a search says so, there is no plan
abbrev pub UnsolvableHasNoPlan : Task → Search → Type 0
UnsolvableHasNoPlan task by = (cut : State → Bool) (limit : ℕ) (r : SearchRecord) (stats : Stats)
    → CutsDeadEnds task cut →
    IsEndingOf task cut by limit r Unsolvable stats → (steps : List Instance) → IsPlan task steps → ⊥

-- no plan has fewer steps than the one that breadth-first search finds
abbrev pub NoneIsShorter : Task → Type 0
NoneIsShorter task = (cut : State → Bool) (limit : ℕ) (r : SearchRecord) (plan : List Instance)
    (stats : Stats) → CutsDeadEnds task cut →
    IsEndingOf task cut search.Bfs limit r (Found plan) stats → (steps : List Instance) → IsPlan task steps
    → length plan ≤ length steps

-- the plan that breadth-first search finds is the least of all plans
abbrev pub FoundPlanIsLeast : Task → Type 0
FoundPlanIsLeast task = (cut : State → Bool) (limit : ℕ) (r : SearchRecord) (plan : List Instance)
    (stats : Stats) →
    CutsDeadEnds task cut → IsEndingOf task cut search.Bfs limit r (Found plan) stats → IsLeastPlan task plan

-- a task has at most one least plan
abbrev pub LeastPlanIsOne : Task → Type 0
LeastPlanIsOne task = (plan other : List Instance) → IsLeastPlan task plan → IsLeastPlan task other
    → plan ≡ other

-- the order of plans is a total order
abbrev pub PlanOrderIsTotal : Task → Type 0
PlanOrderIsTotal task = IsTotalOrder (plan_cmp task)

-- where a search ends by its limit, at least one state more than the limit is reachable
abbrev pub LimitIsPassed : Task → Search → Type 0
LimitIsPassed task by = (cut : State → Bool) (limit : ℕ) (r : SearchRecord) (stats : Stats)
    → IsEndingOf task cut by limit r Limit stats →
    (states : List State) × (length states ≡ limit + 1) × AllPairs (λ (s t : State). s ≢ t) states
    × All (IsReachable task) states

-- a search has one record, one ending and one count of each thing
abbrev pub EndingIsOne : Task → Search → ℕ → Type 0
EndingIsOne task by limit = (cut : State → Bool) (r q : SearchRecord) (a b : Ending) (stats counts : Stats) →
    IsEndingOf task cut by limit r a stats → IsEndingOf task cut by limit q b counts → (r ≡ q) × (a ≡ b)
    × (stats ≡ counts)

-- a search has an ending under each limit of at least one state, whatever states are cut
abbrev pub HasEnding : Task → Search → Type 0
HasEnding task by = (cut : State → Bool) (limit : ℕ) → 1 ≤ limit →
    (r : SearchRecord) × (e : Ending) × (stats : Stats) × IsEndingOf task cut by limit r e stats
