-- How many probes a run takes where all schemas of its task are acyclic.
use Rattle.std.specs.Prelude.{◌≡◌, ◌⊎◌, ℕ, ◌≤◌, ◌+◌, List, length, Option, ⊤}
use Rattle.pl_io.specs.Outside.{ShelfSeen}
use Rattle.pl_check.specs.Stated.{AreStated}
use Rattle.pl_task.specs.declared.plan.PlanLine.{PlanLine}
use Rattle.pl_task.specs.declared.task.Task.{Task}
use Rattle.pl_task.specs.Instance.{Instance}
use Rattle.pl_task.specs.States.{State}
use Rattle.pl_normal.specs.Measures.{probe_bound}
use Rattle.pl_gen.specs.Walks.{AreAcyclic, AreLocal}
use Rattle.pl_hooks.specs.Hopeless.{is_hopeless}
use Rattle.pl_registry.specs.declared.ended.Stats.{Stats}
use Rattle.pl_registry.specs.declared.search.Search.{Search}
use Rattle.pl_registry.specs.declared.search.Search.TheVariants as search
use Rattle.pl_registry.specs.SearchRecord.{SearchRecord}
use Rattle.pl_registry.specs.Ending.{Ending, IsEndingOf}
use Rattle.pl_bfs.specs.Breadth.{search_bound}
use Rattle.pl_make.specs.declared.kind.Kind.{Kind}
use Rattle.pl_make.specs.Texts.{domain_text, problem_text}
use Rattle.pl_top.specs.Answer.{Whole, IsReadingOf, AreLinesOfAny, IsStepOfText}
use Rattle.pl_top.specs.Listing.{page_bound}
use Rattle.pl_top.specs.Planning.{IsOfTask}
use Rattle.pl_top.specs.Reaching.{AreExecuted}
use Rattle.pl_top.specs.Refusal.{IsPlanWhole}
use Rattle.pl_top.specs.Request.{Request, Options, PlanOptions, Validate, Successors, FindPlan, Make}
use Rattle.pl_top.specs.Searching.{limit_of, search_of}

-- domain and problem were read whole, and state the task
pub record IsTaskRead (domain problem : List ℕ) (shelf shelf' : ShelfSeen) (task : Task) : Type 0 where
  pub domain_bytes : List ℕ
  pub problem_bytes : List ℕ
  pub domain_read : IsReadingOf shelf.files shelf'.place domain (Whole domain_bytes)
  pub problem_read : IsReadingOf shelf.files shelf'.place problem (Whole problem_bytes)
  pub stated : AreStated domain_bytes problem_bytes task

-- the search of the task under the limit, which has one record, took no more probes than the bounds of the
-- states that it expanded
pub record IsSearchWithin (task : Task) (by : Search) (limit before after : ℕ) : Type 0 where
  pub ending : Ending
  pub stats : Stats
  pub of : SearchRecord
  pub ends : IsEndingOf task (is_hopeless task) by limit of ending stats
  pub cost : AreAcyclic task → after ≤ before + search_bound task of

-- the files state a task, whose search took no more than its bound
pub record IsPlanWithin (domain problem : List ℕ) (options : PlanOptions) (shelf shelf' : ShelfSeen)
    (before after : ℕ) : Type 0 where
  pub task : Task
  pub read : IsTaskRead domain problem shelf shelf' task
  pub search : IsSearchWithin task (search_of options) (limit_of options) before after

-- the texts that are made state a task, whose search took no more than its bound
pub record IsMadeWithin (kind : Kind) (n start before after : ℕ) : Type 0 where
  pub task : Task
  pub stated : AreStated (domain_text kind) (problem_text kind n start) task
  pub search : IsSearchWithin task search.Bfs 1000000 before after

-- the lines of the plan file, where one is named
pub record AreLinesRead (after : Option (List ℕ)) (shelf : ShelfSeen) (task : Task)
    (lines : List PlanLine) : Type 0 where
  pub plan : Option (List ℕ)
  pub whole : IsPlanWhole after shelf.files plan
  pub are : AreLinesOfAny plan task lines

-- the lines lead to a state, and no more probes were taken than its bound; where moreover all filters are
-- local, no more than the bound of the steps that are printed, which are those past a step and up to a number
-- of them
pub record IsWalkWithin (task : Task) (lines : List PlanLine) (past : Option Instance) (count : Option ℕ)
    (before after : ℕ) : Type 0 where
  pub state : State
  pub executed : AreExecuted task lines state
  pub cost : AreAcyclic task → after ≤ before + probe_bound task state
  pub page : AreAcyclic task → AreLocal task 0 (length task.schemas) →
      after ≤ before + page_bound task state past count

-- the files state a task and lines, and the text a step of it; listing the steps of the state to which the
-- lines lead took no more than its bounds
pub record IsListWithin (domain problem : List ℕ) (options : Options) (shelf shelf' : ShelfSeen)
    (before after : ℕ) : Type 0 where
  pub task : Task
  pub read : IsTaskRead domain problem shelf shelf' task
  pub lines : List PlanLine
  pub are : AreLinesRead options.after shelf task lines
  pub past : Option Instance
  pub is_past : IsStepOfText task options.past past
  pub walk : IsWalkWithin task lines past options.count before after

-- the statuses of a run of `plan` whose search ended
abbrev pub IsSearchEnded : ℕ → Type 0
IsSearchEnded result = IsOfTask result ⊎ (result ≡ 7)

-- what a run that says something of its task takes: of `successors` no more than the bounds of the reached
-- state and of the printed steps, and of `plan` and `make` no more than those of the expanded states
abbrev pub IsWithin : Request → ShelfSeen → ShelfSeen → ℕ → ℕ → ℕ → Type 0
IsWithin (Validate domain problem plan) shelf shelf' before after result = ⊤
IsWithin (Successors domain problem options) shelf shelf' before after result =
    result ≡ 0 → IsListWithin domain problem options shelf shelf' before after
IsWithin (FindPlan domain problem options) shelf shelf' before after result =
    IsSearchEnded result → IsPlanWithin domain problem options shelf shelf' before after
IsWithin (Make kind n start) shelf shelf' before after result = IsOfTask result
    → IsMadeWithin kind n start before after
