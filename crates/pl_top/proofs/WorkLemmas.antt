-- How many probes the parts of a run take.
use Rattle.std.proofs.Common.{◌≡◌, ◌∙◌, ℕ, ◌≤◌, ◌+◌, ◌*◌, List, length, Option}
use Rattle.std.proofs.Common.{inl, inr, ap, subst, arith}
use Rattle.std.specs.Option.{option_map}
use Rattle.pl_io.specs.Outside.{ShelfSeen}
use Rattle.pl_io.specs.Outside.{SinkSeen}
use Rattle.pl_check.specs.Stated.{AreStated}
use Rattle.pl_task.specs.declared.plan.PlanLine.{PlanLine}
use Rattle.pl_task.specs.declared.task.Task.{Task}
use Rattle.pl_task.specs.Instance.{Instance}
use Rattle.pl_task.specs.States.{State}
use Rattle.pl_valid.specs.declared.verdict.Verdict.{Verdict}
use Rattle.pl_print.specs.Texts.{verdict_text}
use Rattle.pl_normal.specs.Measures.{base_bound, largest_size, probe_bound}
use Rattle.pl_state.specs.StateOf.{state_in}
use Rattle.pl_gen.specs.Walks.{AreAcyclic, AreLocal, PreparedState, WalkView}
use Rattle.pl_gen.specs.Walks.{resume_reads, state_of_prepared, step_reads, walk_reads}
use Rattle.pl_registry.specs.declared.search.Search.{Search}
use Rattle.pl_registry.specs.declared.search.Search.TheVariants as search
use Rattle.pl_top.specs.declared.plan_options.PlanOptions.{PlanOptions as AskedOptions}
use Rattle.pl_top.specs.declared.refusal.Refusal.{Refusal}
use Rattle.pl_top.specs.declared.refusal.Refusal.TheVariants.{CannotRead, TooLong, Input, NotAStep, Memory}
use Rattle.pl_top.specs.declared.starting.Start.{Start}
use Rattle.pl_top.specs.Answer.{Whole, IsReadingOf, verdict_status}
use Rattle.pl_top.specs.Asked.{kind_named, plan_options_named}
use Rattle.pl_top.specs.Listing.{first_steps, listed_steps, page_bound}
use Rattle.pl_top.specs.Planning.{IsOfTask}
use Rattle.pl_top.specs.Reaching.{AreExecuted, IsRefusedBy}
use Rattle.pl_top.specs.Refusal.{status_of, IsPlanWhole}
use Rattle.pl_top.specs.Request.{Options, PlanOptions}
use Rattle.pl_top.specs.Searching.{limit_of, limit_or_default, search_of, search_or_bfs}
use Rattle.pl_top.specs.Starting.{IsPageOf, IsStartRead, IsStartStated}
use Rattle.pl_top.specs.Work.{IsTaskRead, IsSearchEnded, IsSearchWithin, IsPlanWithin, IsMadeWithin}
use Rattle.pl_top.specs.Work.{IsWalkWithin, IsListWithin}
use Rattle.pl_top.specs.Writing.{Writes}
use Rattle.pl_make.specs.declared.kind.Kind.{Kind}
use Rattle.pl_make.specs.Texts.{domain_text, problem_text}
use Rattle.pl_top.proofs.MadeRunLemmas.{says_nothing}

-- a refusal says nothing of the task
pub refused_nothing : (why : Refusal) (result : ℕ) → result ≡ status_of why → IsOfTask result → ⊥
refused_nothing (CannotRead role) result is says = says_nothing result 4 is (λ e. cc e) (λ e. cc e)
    (λ e. cc e) says
refused_nothing (TooLong role) result is says = says_nothing result 3 is (λ e. cc e) (λ e. cc e)
    (λ e. cc e) says
refused_nothing (Input file line column kind) result is says =
    says_nothing result 3 is (λ e. cc e) (λ e. cc e) (λ e. cc e) says
refused_nothing NotAStep result is says = says_nothing result 2 is (λ e. cc e) (λ e. cc e) (λ e. cc e) says
refused_nothing (Memory error) result is says = says_nothing result 8 is (λ e. cc e) (λ e. cc e)
    (λ e. cc e) says

pub memory_nothing : (result : ℕ) → result ≡ 8 → IsOfTask result → ⊥
memory_nothing result is says = says_nothing result 8 is (λ e. cc e) (λ e. cc e) (λ e. cc e) says

pub memory_no_list : (result : ℕ) → result ≡ 8 → result ≡ 0 → ⊥
memory_no_list result is zero = cc (is, zero)

-- no search ended then
pub refused_no_search : (why : Refusal) (result : ℕ) → result ≡ status_of why → IsSearchEnded result → ⊥
refused_no_search why result is (inl says) = refused_nothing why result is says
refused_no_search why result is (inr seven) = by_reason why is
  where
    by_reason : (w : Refusal) → result ≡ status_of w → ⊥
    by_reason (CannotRead role) e = cc (e, seven)
    by_reason (TooLong role) e = cc (e, seven)
    by_reason (Input file line column kind) e = cc (e, seven)
    by_reason NotAStep e = cc (e, seven)
    by_reason (Memory error) e = cc (e, seven)

pub memory_no_search : (result : ℕ) → result ≡ 8 → IsSearchEnded result → ⊥
memory_no_search result is (inl says) = memory_nothing result is says
memory_no_search result is (inr seven) = cc (is, seven)

-- and it isn't a list
pub refused_no_list : (why : Refusal) (result : ℕ) → result ≡ status_of why → result ≡ 0 → ⊥
refused_no_list (CannotRead role) result is zero = cc (is, zero)
refused_no_list (TooLong role) result is zero = cc (is, zero)
refused_no_list (Input file line column kind) result is zero = cc (is, zero)
refused_no_list NotAStep result is zero = cc (is, zero)
refused_no_list (Memory error) result is zero = cc (is, zero)

pub task_read : (domain problem : List ℕ) (shelf shelf' : ShelfSeen) (d p : List ℕ) (task : Task) →
    IsReadingOf shelf.files shelf'.place domain (Whole d)
    → IsReadingOf shelf.files shelf'.place problem (Whole p) →
    AreStated d p task → IsTaskRead domain problem shelf shelf' task
task_read domain problem shelf shelf' d p task first second stated = record {
  domain_bytes = d;
  problem_bytes = p;
  domain_read = first;
  problem_read = second;
  stated = stated;
}

-- the search that the options name, with its limit
pub search_asked : (task : Task) (options : AskedOptions) (by : Search) (limit before after : ℕ) →
    by ≡ search_or_bfs (option_map kind_named options.search) → limit ≡ limit_or_default options.limit →
    IsSearchWithin task by limit before after →
    IsSearchWithin task (search_of (plan_options_named options)) (limit_of (plan_options_named options))
    before after
search_asked task options by limit before after named is h =
    subst (λ (s : Search). IsSearchWithin task s (limit_or_default options.limit) before after) named
    (subst (λ l. IsSearchWithin task by l before after) is h)

pub plan_within : (domain problem : List ℕ) (options : PlanOptions) (shelf shelf' : ShelfSeen)
    (before after : ℕ) (task : Task) →
    IsTaskRead domain problem shelf shelf' task → IsSearchWithin task (search_of options)
    (limit_of options) before after →
    IsPlanWithin domain problem options shelf shelf' before after
plan_within domain problem options shelf shelf' before after task read search =
    record { task = task; read = read; search = search }

pub made_within : (kind : Kind) (n start before after : ℕ) (task : Task)
    → AreStated (domain_text kind) (problem_text kind n start) task →
    IsSearchWithin task search.Bfs 1000000 before after → IsMadeWithin kind n start before after
made_within kind n start before after task stated search =
    record { task = task; stated = stated; search = search }

-- a verdict that refuses a line is no list
pub refused_line : (task : Task) (lines : List PlanLine) (verdict : Verdict) (out out' err err' : SinkSeen)
    (result : ℕ) →
    IsRefusedBy task lines verdict → Writes (verdict_text verdict) (verdict_status verdict) out out' err err'
    result → result ≡ 0 → ⊥
refused_line task lines verdict out out' err err' result h (inl whole) zero =
    let is = ap verdict_status h.is in
    let status = whole.status_is in cc (is, status, zero)
refused_line task lines verdict out out' err err' result h (inr cut) zero =
    (let status = cut.status_is in cc (status, zero))

-- the lines lead to a state, whose walk takes no more than its bounds
pub walk_within : (task : Task) (lines slice : List PlanLine) (state : State) (past : Option Instance)
    (count : Option ℕ) (before after : ℕ) → slice ≡ lines → AreExecuted task slice state →
    (AreAcyclic task → after ≤ before + probe_bound task state) →
    (AreAcyclic task → AreLocal task 0 (length task.schemas) →
    after ≤ before + page_bound task state past count) →
    IsWalkWithin task lines past count before after
walk_within task lines slice state past count before after same h cost page = record {
  state = state;
  executed = subst (λ (ls : List PlanLine). AreExecuted task ls state) same h;
  cost = cost;
  page = page;
}

pub start_read : (domain problem : List ℕ) (named : Option (List ℕ)) (shelf shelf' : ShelfSeen) (d p : List ℕ)
    (l : Option (List ℕ)) (start : Start) →
    IsReadingOf shelf.files shelf'.place domain (Whole d)
    → IsReadingOf shelf.files shelf'.place problem (Whole p) →
    IsPlanWhole named shelf.files l → IsStartStated d p l start
    → IsStartRead domain problem named shelf shelf' start
start_read domain problem named shelf shelf' d p l start first second third h = record {
  read = task_read domain problem shelf shelf' d p start.task first second h.stated;
  are = record { plan = l; whole = third; are = h.are };
}

pub list_within : (domain problem : List ℕ) (options : Options) (shelf shelf' : ShelfSeen) (before after : ℕ)
    (start : Start) → IsStartRead domain problem options.after shelf shelf' start →
    IsPageOf options.past options.count start →
    IsWalkWithin start.task start.lines start.past start.count before after →
    IsListWithin domain problem options shelf shelf' before after
list_within domain problem options shelf shelf' before after start read page walk = record {
  task = start.task;
  read = read.read;
  lines = start.lines;
  are = read.are;
  past = start.past;
  is_past = page.step;
  walk = subst (λ (n : Option ℕ). IsWalkWithin start.task start.lines start.past n before after)
      page.same_count walk;
}

-- preparing a state and walking over its steps take no more than its bound
pub list_cost : (task over : Task) (prepared : PreparedState) (words : List ℕ)
    (start mid late after reads : ℕ) → over ≡ task →
    (AreAcyclic over → mid + walk_reads prepared ≤ start + probe_bound over (state_in over words)) →
    late + reads ≤ mid + walk_reads prepared → after ≤ late + reads → AreAcyclic task
    → after ≤ start + probe_bound task (state_in task words)
list_cost task over prepared words start mid late after reads same cost begun walked acyclic =
    let first : mid + walk_reads prepared ≤ start + probe_bound task (state_in task words) =
    subst (λ (t : Task). AreAcyclic t → mid + walk_reads prepared ≤ start + probe_bound t (state_in t words))
    same cost acyclic in
    omega (arith, first, begun, walked)

-- preparing a state and printing its steps past one take no more than the bound of these
pub list_page : (task over : Task) (prepared : PreparedState) (words : List ℕ) (past : Option Instance)
    (count : Option ℕ) (walk : WalkView) (start mid late after : ℕ) → over ≡ task →
    prepared ≡ record { task = over; words = words } →
    (AreAcyclic over →
    mid + (resume_reads prepared + step_reads over) ≤ start + base_bound over (state_in over words)) →
    late ≤ mid + resume_reads prepared → walk.prepared ≡ prepared →
    walk.left ≡ listed_steps task (state_of_prepared prepared) past →
    (AreLocal walk.prepared.task 0 (length walk.prepared.task.schemas) →
    after ≤ late + 2 * largest_size walk.prepared.task * (length (first_steps count walk.left) + 1)) →
    AreAcyclic task → AreLocal task 0 (length task.schemas) →
    after ≤ start + page_bound task (state_in task words) past count
list_page task over prepared words past count walk start mid late after same is base resumed walks left
    printed
    acyclic local =
    let whole : prepared ≡ record { task = task; words = words } =
    is ∙ ap (λ (t : Task). record { task = t; words = words }) same in
    let first : mid + (resume_reads prepared + step_reads task) ≤ start + base_bound task
    (state_in task words) =
    subst (λ (t : Task). AreAcyclic t →
    mid + (resume_reads prepared + step_reads t) ≤ start + base_bound t (state_in t words)) same base
    acyclic in
    let steps : walk.left ≡ listed_steps task (state_in task words) past =
    left ∙ ap (λ (p : PreparedState). listed_steps task (state_of_prepared p) past) whole in
    let last : after ≤ late + 2 * largest_size task
    * (length (first_steps count (listed_steps task (state_in task words) past)) + 1) =
    subst (λ (l : List Instance). after ≤ late + 2 * largest_size task * (length (first_steps count l) + 1))
    steps
    (subst (λ (t : Task). AreLocal t 0 (length t.schemas) →
    after ≤ late + 2 * largest_size t * (length (first_steps count walk.left) + 1))
    (ap (λ (p : PreparedState). p.task) (walks ∙ whole)) printed local) in
    omega (arith, first, resumed, last)
