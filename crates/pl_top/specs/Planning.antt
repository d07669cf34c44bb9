-- What a run of `plan` says of the task that its files state, and a run of `make` of the task that it made.
use Rattle.std.specs.Prelude.{◌≡◌, ◌≢◌, ℕ, ◌≤◌, ◌+◌, ◌⊎◌, List, length, Some, All, AllPairs, ⊤}
use Rattle.std.specs.Io.KnownBytes.{Appends}
use Rattle.pl_io.specs.Outside.{NamedBytes, ShelfSeen, SinkSeen, Rose}
use Rattle.pl_check.specs.Stated.{AreStated}
use Rattle.pl_task.specs.declared.task.Task.{Task}
use Rattle.pl_task.specs.Instance.{Instance}
use Rattle.pl_task.specs.Plans.{IsPlan, IsReachable}
use Rattle.pl_task.specs.States.{State}
use Rattle.pl_registry.specs.declared.ended.Stats.{Stats}
use Rattle.pl_registry.specs.declared.search.Search.TheVariants as search
use Rattle.pl_registry.specs.LeastPlan.{IsLeastPlan}
use Rattle.pl_registry.specs.Ending.Ending.{Found, Unsolvable, Limit}
use Rattle.pl_top.specs.Answer.{Whole, IsReadingOf}
use Rattle.pl_make.specs.declared.kind.Kind.{Kind}
use Rattle.pl_make.specs.Texts.{domain_text, problem_text}
use Rattle.pl_valid.specs.declared.verdict.Verdict.TheVariants.{Valid}
use Rattle.pl_top.specs.Request.{Request, PlanOptions, Validate, Successors, FindPlan, Make, no_plan_options}
use Rattle.pl_top.specs.Run.{ArePlannable, AreSound, IsWidthSearch}
use Rattle.pl_top.specs.Searching.{limit_of, search_of, search_text}
use Rattle.pl_top.specs.Summary.{summary_text}

-- A plan of the task was printed. By breadth-first search it is the least of all plans: none is shorter, and
-- each other plan of as many steps comes after it.
pub record IsPlanPut (task : Task) (options : PlanOptions) (out out' : SinkSeen) : Type 0 where
  pub plan : List Instance
  pub stats : Stats
  pub put : Appends out.written out'.written (search_text task options (Found plan) stats)
  pub is_plan : IsPlan task plan
  pub least : search_of options ≡ search.Bfs → IsLeastPlan task plan

-- `unsolvable` was printed, and no plan exists
pub record IsNoPlanPut (task : Task) (options : PlanOptions) (out out' : SinkSeen) : Type 0 where
  pub stats : Stats
  pub put : Appends out.written out'.written (search_text task options Unsolvable stats)
  pub no_plan : (steps : List Instance) → IsPlan task steps → ⊥

-- `limit N` was printed, and more states than that are reachable
pub record IsLimitPut (task : Task) (options : PlanOptions) (out out' : SinkSeen) : Type 0 where
  pub stats : Stats
  pub put : Appends out.written out'.written (search_text task options Limit stats)
  pub states : List State
  pub more : length states ≡ limit_of options + 1
  pub differ : AllPairs (λ (s t : State). s ≢ t) states
  pub reachable : All (IsReachable task) states

-- what the statuses say of the task
pub record IsTruthful (task : Task) (options : PlanOptions) (out out' : SinkSeen) (result : ℕ) : Type 0 where
  pub found : result ≡ 0 → IsPlanPut task options out out'
  pub unsolvable : result ≡ 1 → IsNoPlanPut task options out out'
  pub limit : result ≡ 6 → IsLimitPut task options out out'

-- the files were read whole and state a task, of which the run says the truth
pub record SaysOfTask (domain problem : List ℕ) (options : PlanOptions) (shelf shelf' : ShelfSeen)
    (out out' : SinkSeen)
    (result : ℕ) : Type 0 where
  pub domain_bytes : List ℕ
  pub problem_bytes : List ℕ
  pub domain_read : IsReadingOf shelf.files shelf'.place domain (Whole domain_bytes)
  pub problem_read : IsReadingOf shelf.files shelf'.place problem (Whole problem_bytes)
  pub task : Task
  pub stated : AreStated domain_bytes problem_bytes task
  pub truthful : IsTruthful task options out out' result

-- the statuses of a run that says something of the task
abbrev pub IsOfTask : ℕ → Type 0
IsOfTask result = (result ≡ 0) ⊎ (result ≡ 1) ⊎ (result ≡ 6)

-- The summary of the least plan of the task was printed, with the verdict that it is valid.
pub record IsSummaryPut (task : Task) (out out' : SinkSeen) : Type 0 where
  pub plan : List Instance
  pub stats : Stats
  pub put : Appends out.written out'.written (summary_text task plan stats (Valid (length plan)))
  pub is_plan : IsPlan task plan
  pub least : IsLeastPlan task plan

-- what the statuses say of a made task
pub record IsMadeTruthful (task : Task) (out out' : SinkSeen) (result : ℕ) : Type 0 where
  pub found : result ≡ 0 → IsSummaryPut task out out'
  pub unsolvable : result ≡ 1 → IsNoPlanPut task no_plan_options out out'
  pub limit : result ≡ 6 → IsLimitPut task no_plan_options out out'

-- the texts that are made state a task, of which the run says the truth
pub record SaysOfMade (kind : Kind) (n start : ℕ) (out out' : SinkSeen) (result : ℕ) : Type 0 where
  pub task : Task
  pub stated : AreStated (domain_text kind) (problem_text kind n start) task
  pub truthful : IsMadeTruthful task out out' result

-- a run that says something of the task says the truth
abbrev pub IfSays : Request → ShelfSeen → ShelfSeen → SinkSeen → SinkSeen → ℕ → Type 0
IfSays (Validate domain problem plan) shelf shelf' out out' result = ⊤
IfSays (Successors domain problem options) shelf shelf' out out' result = ⊤
IfSays (FindPlan domain problem options) shelf shelf' out out' result =
    IsOfTask result → SaysOfTask domain problem options shelf shelf' out out' result
IfSays (Make kind n start) shelf shelf' out out' result = IsOfTask result
    → SaysOfMade kind n start out out' result

-- at most so many states are reachable
abbrev pub AreReachableWithin : Task → ℕ → Type 0
AreReachableWithin task limit =
    (states : List State) → AllPairs (λ (s t : State). s ≢ t) states → All (IsReachable task) states →
    length states ≤ limit

-- a plan is printed where one exists, and `unsolvable` otherwise; a width search, and no other, may be
-- exhausted too
abbrev pub IsSettled : Task → PlanOptions → SinkSeen → SinkSeen → ℕ → Type 0
IsSettled task options out out' result =
    ((result ≡ 0) × IsPlanPut task options out out') ⊎ ((result ≡ 1) × IsNoPlanPut task options out out')
    ⊎ (IsWidthSearch (search_of options) × (result ≡ 7))

-- a plan of a made task is found where one exists, and `unsolvable` is printed otherwise
abbrev pub IsMadeSettled : Task → SinkSeen → SinkSeen → ℕ → Type 0
IsMadeSettled task out out' result =
    ((result ≡ 0) × IsSummaryPut task out out') ⊎ ((result ≡ 1) × IsNoPlanPut task no_plan_options out out')

-- Where the files are told and without a fault, neither the shelf nor `out` failed, and the task that they
-- state has at most as many reachable states as the limit, a run of `plan` settles whether a plan exists, or
-- runs out of memory; a run by width may be exhausted too. A run of `make` settles it over any shelf.
abbrev pub IsDecisive : Request → ShelfSeen → ShelfSeen → SinkSeen → SinkSeen → ℕ → Type 0
IsDecisive (Validate domain problem plan) shelf shelf' out out' result = ⊤
IsDecisive (Successors domain problem options) shelf shelf' out out' result = ⊤
IsDecisive (FindPlan domain problem options) shelf shelf' out out' result =
    (files : List NamedBytes) → shelf.files ≡ Some files → (told : ArePlannable files domain problem) →
    (Rose shelf.faults shelf'.faults → ⊥) → (Rose out.faults out'.faults → ⊥) →
    (task : Task) → AreStated told.domain_bytes told.problem_bytes task →
    AreReachableWithin task (limit_of options) →
    IsSettled task options out out' result ⊎ (result ≡ 8)
IsDecisive (Make kind n start) shelf shelf' out out' result =
    AreSound kind n start → (Rose out.faults out'.faults → ⊥) →
    (task : Task) → AreStated (domain_text kind) (problem_text kind n start) task →
    AreReachableWithin task (limit_of no_plan_options) → IsMadeSettled task out out' result ⊎ (result ≡ 8)
