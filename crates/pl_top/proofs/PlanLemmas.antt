-- How a search ended, and what is printed of that.
use Rattle.std.proofs.Common.{◌≡◌, ◌≢◌, ℕ, Bool, List, [], ◌∷◌, ◌++◌, flat_map, All, inl, refl, subst}
use Rattle.std.specs.Option.{option_map}
use Rattle.std.proofs.lemmas.List.Elements.{All-nil, All-cons}
use Rattle.pl_io.specs.Outside.{SinkSeen}
use Rattle.pl_task.specs.declared.task.Task.{Task}
use Rattle.pl_task.specs.Instance.{Instance}
use Rattle.pl_task.specs.States.{State, IsStep, result_of, initial}
use Rattle.pl_task.specs.Plans.{Executes}
use Rattle.pl_task.proofs.TypeLemmas.{applicable_step}
use Rattle.pl_hooks.specs.Hopeless.{is_hopeless}
use Rattle.pl_registry.specs.declared.ended.Stats.{Stats}
use Rattle.pl_registry.specs.declared.search.Search.{Search}
use Rattle.pl_registry.specs.Ending.{Ending, IsEndingOf}
use Rattle.pl_registry.specs.Ending.Ending.{Found, Unsolvable, Exhausted, Limit}
use Rattle.pl_registry.proofs.SearchLaws.{found_lists}
use Rattle.pl_print.specs.Texts.{step_text}
use Rattle.pl_top.specs.declared.plan_options.PlanOptions.{PlanOptions as AskedOptions}
use Rattle.pl_top.specs.Answer.{IsSearchOutcome, search_outcome}
use Rattle.pl_top.specs.Asked.{kind_named, plan_options_named}
use Rattle.pl_top.specs.Searching.{AreStepsOf, IsSearchedBy, ended_text, ending_status, ending_text}
use Rattle.pl_top.specs.Searching.{counts_text, limit_or_default, search_or_bfs}
use Rattle.pl_top.specs.Writing.{Writes, Finishes}

-- steps that are executed are steps of the task
executed_steps : (task : Task) (s last : State) (steps : List Instance) → Executes task s steps last
    → All (IsStep task) steps
executed_steps task s last [] h = All-nil (IsStep task)
executed_steps task s last (step ∷ steps) h =
    All-cons (IsStep task) step steps (applicable_step task s step h.0)
    (executed_steps task (result_of task s step) last steps h.1)

-- a plan that a search found is of steps of the task
pub steps_of : (task : Task) (by : Search) (limit : ℕ) (ending : Ending) (stats : Stats)
    → IsSearchedBy task by limit ending stats →
    AreStepsOf task ending
steps_of task by limit (Found plan) stats h =
    let (last, executed, goal) = found_lists task by (is_hopeless task) limit h.of plan stats h.ends in
    executed_steps task (initial task) last plan executed
steps_of task by limit Unsolvable stats h = tt
steps_of task by limit Exhausted stats h = tt
steps_of task by limit Limit stats h = tt

-- what has a byte behind a text has one
behind : (xs ys rest : List ℕ) (y : ℕ) → ys ≡ y ∷ rest → xs ++ ys ≢ []
behind [] ys rest y is none = cc (is, none)
behind (x ∷ xs) ys rest y is none = cc none

-- a text with a byte has one with further bytes behind it
pub before : (xs ys : List ℕ) → xs ≢ [] → xs ++ ys ≢ []
before [] ys some none = some refl
before (x ∷ xs) ys some none = cc none

-- the text of an ending has a byte
some_ending : (task : Task) (limit : ℕ) (ending : Ending) → ending_text task limit ending ≢ []
some_ending task limit (Found plan) none = behind (flat_map (step_text task) plan) _ _ _ refl none
some_ending task limit Unsolvable none = cc none
some_ending task limit Exhausted none = cc none
some_ending task limit Limit none = cc none

pub ended_text_some : (task : Task) (limit : ℕ) (asked : Bool) (ending : Ending) (stats : Stats) →
    ended_text task limit asked ending stats ≢ []
ended_text_some task limit asked ending stats = before _ (counts_text asked stats)
    (some_ending task limit ending)

-- the status of an ending isn't 4
status_other : (ending : Ending) → ending_status ending ≢ 4
status_other (Found plan) four = cc four
status_other Unsolvable four = cc four
status_other Exhausted four = cc four
status_other Limit four = cc four

-- an ending that was printed is that of the search that the options name
pub solved : (task : Task) (options : AskedOptions) (by : Search) (limit : ℕ) (ending : Ending)
    (stats : Stats)
    (out out' err err' : SinkSeen) (result : ℕ) → by ≡ search_or_bfs (option_map kind_named options.search)
    → limit ≡ limit_or_default options.limit
    → IsSearchedBy task by limit ending stats
    → Writes (ended_text task limit options.stats ending stats) (ending_status ending) out out' err err'
    result
    → Finishes (IsSearchOutcome task (plan_options_named options)) out out' err err' result
solved task options by limit ending stats out out' err err' result named is h writes = inl (record {
  outcome = search_outcome task (plan_options_named options) ending stats;
  is = record {
    ending = ending;
    stats = stats;
    searched = record {
      of = h.of;
      ends = subst (λ (s : Search). IsEndingOf task (is_hopeless task) s
          (limit_or_default options.limit) h.of ending stats) named
          (subst (λ l. IsEndingOf task (is_hopeless task) by l h.of ending stats) is h.ends);
    };
    comes = refl;
  };
  no_line = refl;
  other = status_other ending;
  writes = subst (λ l. Writes (ended_text task l options.stats ending stats)
      (ending_status ending) out out' err err' result) is writes;
})
