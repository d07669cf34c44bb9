-- The laws, search by search.
use Rattle.std.proofs.Common.{ℕ, Bool, ◌++◌}
use Rattle.std.proofs.lemmas.Cmp.{lists_total}
use Rattle.pl_task.specs.declared.task.Task.{Task}
use Rattle.pl_task.specs.States.{State}
use Rattle.pl_task.specs.Goal.{unmet}
use Rattle.pl_registry.specs.declared.search.Search.{Search}
use Rattle.pl_registry.specs.declared.search.Search.TheVariants as search
use Rattle.pl_registry.specs.StateSpace.{space_of}
use Rattle.pl_registry.specs.Cut.{IsCut, IsKept}
use Rattle.pl_registry.specs.Novelty.{IsNovel, IsStale}
use Rattle.pl_registry.specs.Ending.{by_number}
use Rattle.pl_registry.specs.Laws.{FoundListsArePlans, UnsolvableHasNoPlan, NoneIsShorter, FoundPlanIsLeast}
use Rattle.pl_registry.specs.Laws.{PlanOrderIsTotal, LimitIsPassed, EndingIsOne, HasEnding}
use Rattle.pl_normal.proofs.Listing.{step_order_total}
use Rattle.pl_registry.proofs.Plans.{goal_or_not}
use Rattle.pl_registry.proofs.OneEnding.{one_cut, one_width}
use Rattle.pl_registry.proofs.Novelties.{stale_or_novel}
use Rattle.pl_registry.proofs.Running.{IsDecided}
use Rattle.pl_registry.proofs.RunEndings.{ending_there, width_ending_there}
use Rattle.pl_registry.proofs.ToldApart.{told_apart, touched, true_within}
use Rattle.pl_registry.proofs.Endings.{found_is_plan, unsolvable_has_no_plan, limit_is_passed}
use Rattle.pl_registry.proofs.Endings.{none_is_shorter, found_is_least, width_found_is_plan}
use Rattle.pl_registry.proofs.Endings.{width_unsolvable_has_no_plan, width_limit_is_passed}

pub found_lists : (task : Task) (by : Search) → FoundListsArePlans task by
found_lists task search.Bfs cut limit r plan stats = found_is_plan task (IsCut cut)
    (IsKept cut) by_number limit r stats plan
found_lists task search.Gbfs cut limit r plan stats = found_is_plan task (IsCut cut) (IsKept cut)
    (unmet task) limit r stats plan
found_lists task search.Iw1 cut limit r plan stats = width_found_is_plan task 1 limit r stats plan
found_lists task search.Iw2 cut limit r plan stats = width_found_is_plan task 2 limit r stats plan

pub unsolvable_ones : (task : Task) (by : Search) → UnsolvableHasNoPlan task by
unsolvable_ones task search.Bfs cut limit r stats sound = unsolvable_has_no_plan task (IsCut cut)
    (IsKept cut) by_number limit r stats sound
unsolvable_ones task search.Gbfs cut limit r stats sound = unsolvable_has_no_plan task (IsCut cut)
    (IsKept cut) (unmet task) limit r stats sound
unsolvable_ones task search.Iw1 cut limit r stats sound = width_unsolvable_has_no_plan task 1 limit r stats
unsolvable_ones task search.Iw2 cut limit r stats sound = width_unsolvable_has_no_plan task 2 limit r stats

pub limits : (task : Task) (by : Search) → LimitIsPassed task by
limits task search.Bfs cut limit r stats = limit_is_passed task (IsCut cut)
    (IsKept cut) by_number limit r stats
limits task search.Gbfs cut limit r stats = limit_is_passed task (IsCut cut) (IsKept cut)
    (unmet task) limit r stats
limits task search.Iw1 cut limit r stats = width_limit_is_passed task 1 limit r stats
limits task search.Iw2 cut limit r stats = width_limit_is_passed task 2 limit r stats

pub shortest : (task : Task) → NoneIsShorter task
shortest task cut limit r plan stats sound = none_is_shorter task (IsCut cut)
    (IsKept cut) limit r plan stats sound

pub least : (task : Task) → FoundPlanIsLeast task
least task cut limit r plan stats sound =
    found_is_least task (IsCut cut) (IsKept cut) limit r plan stats sound

pub plan_order_total : (task : Task) → PlanOrderIsTotal task
plan_order_total task = lists_total (step_order_total task)

cut_or_kept : (cut : State → Bool) (t : State) → IsCut cut t → IsKept cut t → ⊥
cut_or_kept cut t gone kept = goal_or_not kept gone

pub endings_one : (task : Task) (by : Search) (limit : ℕ) → EndingIsOne task by limit
endings_one task search.Bfs limit cut r q e f a b = one_cut (space_of task) (IsCut cut)
    (IsKept cut) by_number limit (cut_or_kept cut) r q e f a b
endings_one task search.Gbfs limit cut r q e f a b = one_cut (space_of task) (IsCut cut) (IsKept cut)
    (unmet task) limit (cut_or_kept cut) r q e f a b
endings_one task search.Iw1 limit cut r q e f a b = one_width (space_of task) task 1 limit r q e f a b
endings_one task search.Iw2 limit cut r q e f a b = one_width (space_of task) task 2 limit r q e f a b

decided : (task : Task) (k : ℕ) → IsDecided (space_of task) (IsStale task k) (IsNovel task k)
decided task k seen t reached =
    stale_or_novel task k (task.init ++ touched task) seen t (true_within task t reached)

-- each search has an ending
pub all_have_ending : (task : Task) (by : Search) → HasEnding task by
all_have_ending task search.Bfs cut limit some =
    ending_there (space_of task) cut by_number limit (told_apart task) some
all_have_ending task search.Gbfs cut limit some =
    ending_there (space_of task) cut (unmet task) limit (told_apart task) some
all_have_ending task search.Iw1 cut limit some =
    width_ending_there (space_of task) task 1 limit (told_apart task) (decided task 1) some
all_have_ending task search.Iw2 cut limit some =
    width_ending_there (space_of task) task 2 limit (told_apart task) (decided task 2) some

-- breadth-first search has one
pub has_ending : (task : Task) → HasEnding task search.Bfs
has_ending task = all_have_ending task search.Bfs
