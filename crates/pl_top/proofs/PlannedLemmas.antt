-- What an answer to `plan` says of the task.
use Rattle.std.proofs.Common.{◌≡◌, ◌⊎◌, ℕ, List, inl, inr, refl, subst, arith}
use Rattle.std.specs.Io.KnownBytes.{Appends}
use Rattle.pl_io.specs.Outside.{SinkSeen}
use Rattle.pl_task.specs.declared.task.Task.{Task}
use Rattle.pl_task.specs.Instance.{Instance}
use Rattle.pl_hooks.specs.Hopeless.{is_hopeless}
use Rattle.pl_registry.specs.declared.ended.Stats.{Stats}
use Rattle.pl_registry.specs.declared.search.Search.{Search}
use Rattle.pl_registry.specs.declared.search.Search.TheVariants as search
use Rattle.pl_registry.specs.Ending.{Ending, IsEndingOf}
use Rattle.pl_registry.specs.Ending.Ending.{Found, Unsolvable, Exhausted, Limit}
use Rattle.pl_registry.specs.SearchRecord.{SearchRecord}
use Rattle.pl_registry.proofs.SearchLaws.{found_lists, unsolvable_ones, limits, least}
use Rattle.pl_hooks.proofs.Cuts.{hopeless_dead_ends}
use Rattle.pl_top.specs.Planning.{AreReachableWithin, IsLimitPut, IsNoPlanPut, IsPlanPut, IsSettled}
use Rattle.pl_top.specs.Planning.{IsTruthful}
use Rattle.pl_top.specs.Request.{PlanOptions}
use Rattle.pl_top.specs.Run.{IsWidthSearch}
use Rattle.pl_top.specs.Searching.{IsSearched, ending_status, limit_of, search_of, search_text}

-- only a width search is exhausted
exhausted_width : (task : Task) (by : Search) (limit : ℕ) (r : SearchRecord) (stats : Stats) →
    IsEndingOf task (is_hopeless task) by limit r Exhausted stats → IsWidthSearch by
exhausted_width task search.Bfs limit r stats h = h
exhausted_width task search.Gbfs limit r stats h = h
exhausted_width task search.Iw1 limit r stats h = tt
exhausted_width task search.Iw2 limit r stats h = tt

-- the statuses of endings
pub ending_has_status : (task : Task) (options : PlanOptions) (ending : Ending) (stats : Stats)
    → IsSearched task options ending stats →
    (ending_status ending ≡ 0) ⊎ (ending_status ending ≡ 1) ⊎ (ending_status ending ≡ 6)
    ⊎ (IsWidthSearch (search_of options) × (ending_status ending ≡ 7))
ending_has_status task options (Found plan) stats h = inl refl
ending_has_status task options Unsolvable stats h = inr (inl refl)
ending_has_status task options Exhausted stats h =
    inr (inr (inr (exhausted_width task (search_of options) (limit_of options) h.of stats h.ends, refl)))
ending_has_status task options Limit stats h = inr (inr (inl refl))

module _ (task : Task) (options : PlanOptions) (out out' : SinkSeen) where
  plan_put : (plan : List Instance) (stats : Stats) → IsSearched task options (Found plan) stats →
      Appends out.written out'.written (search_text task options (Found plan) stats)
      → IsPlanPut task options out out'
  plan_put plan stats h put = record {
    plan = plan;
    stats = stats;
    put = put;
    is_plan = found_lists task (search_of options) (is_hopeless task)
        (limit_of options) h.of plan stats h.ends;
    least = λ bfs. least task (is_hopeless task) (limit_of options) h.of plan stats (hopeless_dead_ends task)
        (subst (λ by. IsEndingOf task (is_hopeless task) by (limit_of options) h.of (Found plan) stats) bfs
        h.ends);
  }

  pub no_plan_put : (stats : Stats) → IsSearched task options Unsolvable stats →
      Appends out.written out'.written (search_text task options Unsolvable stats)
      → IsNoPlanPut task options out out'
  no_plan_put stats h put = record {
    stats = stats;
    put = put;
    no_plan = unsolvable_ones task (search_of options) (is_hopeless task) (limit_of options) h.of stats
        (hopeless_dead_ends task) h.ends;
  }

  pub limit_put : (stats : Stats) → IsSearched task options Limit stats →
      Appends out.written out'.written (search_text task options Limit stats)
      → IsLimitPut task options out out'
  limit_put stats h put =
      let (states, more, differ, reachable) = limits task (search_of options) (is_hopeless task)
      (limit_of options) h.of stats h.ends in
      record {
        stats = stats;
        put = put;
        states = states;
        more = more;
        differ = differ;
        reachable =
            reachable;
      }

  -- what was printed of an ending is true
  pub truth_of : (ending : Ending) (stats : Stats) (result : ℕ) → IsSearched task options ending stats →
      Appends out.written out'.written (search_text task options ending stats)
      → result ≡ ending_status ending →
      IsTruthful task options out out' result
  truth_of (Found plan) stats result h put is = record {
    found = λ _. plan_put plan stats h put;
    unsolvable = λ one. cc (is, one);
    limit = λ six. cc (is, six);
  }
  truth_of Unsolvable stats result h put is = record {
    found = λ none. cc (is, none);
    unsolvable = λ _. no_plan_put stats h put;
    limit = λ six. cc (is, six);
  }
  truth_of Exhausted stats result h put is = record {
    found = λ none. cc (is, none);
    unsolvable = λ one. cc (is, one);
    limit = λ six. cc (is, six);
  }
  truth_of Limit stats result h put is = record {
    found = λ none. cc (is, none);
    unsolvable = λ one. cc (is, one);
    limit = λ _. limit_put stats h put;
  }

  -- where few states are reachable it is settled whether a plan exists
  pub settled : (ending : Ending) (stats : Stats) (result : ℕ) → IsSearched task options ending stats →
      Appends out.written out'.written (search_text task options ending stats)
      → result ≡ ending_status ending →
      AreReachableWithin task (limit_of options) → IsSettled task options out out' result
  settled (Found plan) stats result h put is within = inl (is, plan_put plan stats h put)
  settled Unsolvable stats result h put is within = inr (inl (is, no_plan_put stats h put))
  settled Exhausted stats result h put is within =
      inr (inr (exhausted_width task (search_of options) (limit_of options) h.of stats h.ends, is))
  settled Limit stats result h put is within =
      let passed = limit_put stats h put in
      absurd (omega (arith, passed.more, within passed.states passed.differ passed.reachable))
