-- The search of `plan`: how it ends, and what is printed of that.
use Rattle.std.specs.Prelude.{◌≡◌, ℕ, ◌-◌, ◌^◌, ◌<◌, ◌≤◌, Bool, true, false, List, [], ◌++◌, All, ⊤, Option}
use Rattle.std.specs.Prelude.{Some, None, codes, decimal}
use Rattle.pl_task.specs.declared.task.Task.{Task}
use Rattle.pl_task.specs.States.{IsStep}
use Rattle.pl_hooks.specs.Hopeless.{is_hopeless}
use Rattle.pl_registry.specs.declared.ended.Stats.{Stats}
use Rattle.pl_registry.specs.declared.search.Search.{Search}
use Rattle.pl_registry.specs.declared.search.Search.TheVariants as search
use Rattle.pl_registry.specs.SearchRecord.{SearchRecord}
use Rattle.pl_registry.specs.Ending.{Ending, IsEndingOf}
use Rattle.pl_registry.specs.Ending.Ending.{Found, Unsolvable, Exhausted, Limit}
use Rattle.pl_print.specs.Texts.{plan_text, stats_text}
use Rattle.pl_make.specs.Texts.{IsSize}
use Rattle.pl_top.specs.Request.{Request, PlanOptions, Validate, Successors, FindPlan, Make}

-- breadth-first search where no search is named
abbrev pub search_or_bfs : Option Search → Search
search_or_bfs None = search.Bfs
search_or_bfs (Some by) = by

-- a million states where no limit is given
abbrev pub limit_or_default : Option ℕ → ℕ
limit_or_default None = 1000000
limit_or_default (Some limit) = limit

abbrev pub search_of : PlanOptions → Search
search_of options = search_or_bfs options.search

abbrev pub limit_of : PlanOptions → ℕ
limit_of options = limit_or_default options.limit

-- the search that the request asks for can have its limit; a task is made in this size
abbrev pub CanRun : Request → Type 0
CanRun (Validate domain problem plan) = ⊤
CanRun (Successors domain problem options) = ⊤
CanRun (FindPlan domain problem options) = (1 ≤ limit_of options) × (limit_of options < 2 ^ 32 - 1)
CanRun (Make kind n start) = IsSize kind n

-- the search with this limit ends so, with these counts; hopeless states are cut
pub record IsSearchedBy (task : Task) (by : Search) (limit : ℕ) (ending : Ending)
    (stats : Stats) : Type 0 where
  pub of : SearchRecord
  pub ends : IsEndingOf task (is_hopeless task) by limit of ending stats

-- the search is the one by this width
abbrev pub IsOfWidth : Search → ℕ → Type 0
IsOfWidth search.Bfs k = ⊥
IsOfWidth search.Gbfs k = ⊥
IsOfWidth search.Iw1 k = k ≡ 1
IsOfWidth search.Iw2 k = k ≡ 2

-- the search that the options name ends so, with these counts
abbrev pub IsSearched : Task → PlanOptions → Ending → Stats → Type 0
IsSearched task options = IsSearchedBy task (search_of options) (limit_of options)

abbrev pub ending_status : Ending → ℕ
ending_status (Found plan) = 0
ending_status Unsolvable = 1
ending_status Exhausted = 7
ending_status Limit = 6

-- `limit N`
abbrev pub limit_text : ℕ → List ℕ
limit_text limit = codes "limit " ++ decimal limit ++ codes "\n"

-- the plan, or why there is none
abbrev pub ending_text : Task → ℕ → Ending → List ℕ
ending_text task limit (Found plan) = plan_text task plan
ending_text task limit Unsolvable = codes "unsolvable\n"
ending_text task limit Exhausted = codes "exhausted\n"
ending_text task limit Limit = limit_text limit

-- the counts, where they are asked for
abbrev pub counts_text : Bool → Stats → List ℕ
counts_text true stats = stats_text stats
counts_text false stats = []

-- how a search ended, and its counts where they are asked for
abbrev pub ended_text : Task → ℕ → Bool → Ending → Stats → List ℕ
ended_text task limit asked ending stats = ending_text task limit ending ++ counts_text asked stats

abbrev pub search_text : Task → PlanOptions → Ending → Stats → List ℕ
search_text task options ending stats = ended_text task (limit_of options) options.stats ending stats

-- a plan that was found is of steps of the task
abbrev pub AreStepsOf : Task → Ending → Type 0
AreStepsOf task (Found plan) = All (IsStep task) plan
AreStepsOf task Unsolvable = ⊤
AreStepsOf task Exhausted = ⊤
AreStepsOf task Limit = ⊤
