-- What the outcome of a made task says of the task, and that it is one.
use Rattle.std.proofs.Common.{◌≡◌, ◌⊎◌, ℕ, List, [], map, length, inl, inr, refl, sym, ◌∙◌, ap, subst}
use Rattle.std.proofs.Common.{arith}
use Rattle.std.proofs.lemmas.List.{length-map}
use Rattle.std.specs.Io.KnownBytes.{Appends}
use Rattle.pl_io.specs.Outside.{SinkSeen}
use Rattle.pl_task.specs.declared.plan.PlanLine.TheVariants as line
use Rattle.pl_task.specs.declared.task.Task.{Task}
use Rattle.pl_task.specs.Instance.{Instance}
use Rattle.pl_task.specs.Plans.{IsPlan}
use Rattle.pl_task.specs.States.{initial}
use Rattle.pl_valid.specs.declared.verdict.Verdict.{Verdict}
use Rattle.pl_valid.specs.declared.verdict.Verdict.TheVariants.{Valid}
use Rattle.pl_valid.specs.Verdict.{IsVerdict}
use Rattle.pl_hooks.specs.Hopeless.{is_hopeless}
use Rattle.pl_registry.specs.declared.ended.Stats.{Stats}
use Rattle.pl_registry.specs.declared.search.Search.TheVariants as search
use Rattle.pl_registry.specs.Ending.{Ending}
use Rattle.pl_registry.specs.Ending.Ending.{Found, Unsolvable, Exhausted, Limit}
use Rattle.pl_registry.proofs.SearchLaws.{endings_one, found_lists, has_ending, least}
use Rattle.pl_hooks.proofs.Cuts.{hopeless_dead_ends}
use Rattle.pl_top.specs.Answer.{Outcome, IsMadeEnd, IsMadeOutcome, IsSummed, summary_outcome}
use Rattle.pl_top.specs.Planning.{AreReachableWithin, IsMadeSettled, IsMadeTruthful, IsSummaryPut}
use Rattle.pl_top.specs.Request.{no_plan_options}
use Rattle.pl_top.specs.Searching.{IsSearched, limit_of, search_of}
use Rattle.pl_top.specs.Summary.{summary_text}
use Rattle.pl_top.proofs.PlannedLemmas.{no_plan_put, limit_put}
use Rattle.pl_top.proofs.VerdictLemmas.{verdict_from, verdict_only, verdict_holds}

-- the statuses of a made task
abbrev pub IsMadeStatus : ℕ → Type 0
IsMadeStatus status = (status ≡ 0) ⊎ (status ≡ 1) ⊎ (status ≡ 6)

pub made_has_status : (task : Task) (ending : Ending) (stats : Stats) (outcome : Outcome) →
    IsSearched task no_plan_options ending stats → IsMadeEnd task ending stats outcome
    → IsMadeStatus outcome.status
made_has_status task (Found plan) stats outcome h end = inl (ap (λ (o : Outcome). o.status) end.comes)
made_has_status task Unsolvable stats outcome h end = inr (inl (ap (λ (o : Outcome). o.status) end))
made_has_status task Exhausted stats outcome h end = absurd h.ends
made_has_status task Limit stats outcome h end = inr (inr (ap (λ (o : Outcome). o.status) end))

-- the verdict on a plan is that it is valid
pub valid_only : (task : Task) (plan : List Instance) (verdict : Verdict) → IsPlan task plan →
    IsVerdict task (map line.Step plan) verdict → verdict ≡ Valid (length plan)
valid_only task plan verdict is h =
    sym (verdict_only task (map line.Step plan) verdict h)
    ∙ verdict_only task (map line.Step plan) (Valid (length plan))
    (sym (length-map plan line.Step), (plan, refl, is))

module _ (task : Task) (out out' : SinkSeen) where
  summary_put : (plan : List Instance) (stats : Stats) (outcome : Outcome)
      → IsSearched task no_plan_options (Found plan) stats →
      IsSummed task plan stats outcome → Appends out.written out'.written outcome.text
      → IsSummaryPut task out out'
  summary_put plan stats outcome h end put =
      let is_plan = found_lists task search.Bfs (is_hopeless task) 1000000 h.of plan stats h.ends in
      let text : outcome.text ≡ summary_text task plan stats end.verdict =
      ap (λ (o : Outcome). o.text) end.comes in
      record {
        plan = plan;
        stats = stats;
        put = subst (λ t. Appends out.written out'.written t)
            (text ∙ ap (summary_text task plan stats)
            (valid_only task plan end.verdict is_plan end.is_verdict)) put;
        is_plan = is_plan;
        least = least task (is_hopeless task) 1000000 h.of plan stats (hopeless_dead_ends task) h.ends;
      }

  -- what was printed of a made task is true
  pub made_truth : (ending : Ending) (stats : Stats) (outcome : Outcome) (result : ℕ)
      → IsSearched task no_plan_options ending stats →
      IsMadeEnd task ending stats outcome → result ≡ outcome.status
      → Appends out.written out'.written outcome.text →
      IsMadeTruthful task out out' result
  made_truth (Found plan) stats outcome result h end is put =
      let zero : result ≡ 0 = is ∙ ap (λ (o : Outcome). o.status) end.comes in
      record {
        found = λ _. summary_put plan stats outcome h end put;
        unsolvable = λ one. cc (zero, one);
        limit = λ six. cc (zero, six);
      }
  made_truth Unsolvable stats outcome result h end is put =
      let one : result ≡ 1 = is ∙ ap (λ (o : Outcome). o.status) end in
      record {
        found = λ none. cc (one, none);
        unsolvable = λ _. no_plan_put task no_plan_options out out' stats h
            (subst (λ (o : Outcome). Appends out.written out'.written o.text) end put);
        limit = λ six. cc (one, six);
      }
  made_truth Exhausted stats outcome result h end is put = absurd h.ends
  made_truth Limit stats outcome result h end is put =
      let six : result ≡ 6 = is ∙ ap (λ (o : Outcome). o.status) end in
      record {
        found = λ none. cc (six, none);
        unsolvable = λ one. cc (six, one);
        limit = λ _. limit_put task no_plan_options out out' stats h
            (subst (λ (o : Outcome). Appends out.written out'.written o.text) end put);
      }

  -- where few states are reachable it is settled whether a plan exists
  pub made_settled : (ending : Ending) (stats : Stats) (outcome : Outcome) (result : ℕ)
      → IsSearched task no_plan_options ending stats →
      IsMadeEnd task ending stats outcome → result ≡ outcome.status
      → Appends out.written out'.written outcome.text →
      AreReachableWithin task (limit_of no_plan_options) → IsMadeSettled task out out' result
  made_settled (Found plan) stats outcome result h end is put within =
      inl (is ∙ ap (λ (o : Outcome). o.status) end.comes, summary_put plan stats outcome h end put)
  made_settled Unsolvable stats outcome result h end is put within =
      inr (
        is ∙ ap (λ (o : Outcome). o.status) end,
        no_plan_put task no_plan_options out out' stats h
            (subst (λ (o : Outcome). Appends out.written out'.written o.text) end put),
      )
  made_settled Exhausted stats outcome result h end is put within = absurd h.ends
  made_settled Limit stats outcome result h end is put within =
      let passed = limit_put task no_plan_options out out' stats h
      (subst (λ (o : Outcome). Appends out.written out'.written o.text) end put) in
      absurd (omega (arith, passed.more, within passed.states passed.differ passed.reachable))

-- an ending has one outcome
end_one : (task : Task) (ending : Ending) (stats : Stats) (outcome other : Outcome)
    → IsMadeEnd task ending stats outcome →
    IsMadeEnd task ending stats other → outcome ≡ other
end_one task (Found plan) stats outcome other h k =
    h.comes ∙ ap (summary_outcome task plan stats)
    (sym (verdict_only task (map line.Step plan) h.verdict h.is_verdict)
    ∙ verdict_only task (map line.Step plan) k.verdict k.is_verdict) ∙ sym k.comes
end_one task Unsolvable stats outcome other h k = h ∙ sym k
end_one task Exhausted stats outcome other h k = h ∙ sym k
end_one task Limit stats outcome other h k = h ∙ sym k

-- a made task has one outcome
pub made_search_one : (task : Task) (outcome other : Outcome) → IsMadeOutcome task outcome
    → IsMadeOutcome task other → outcome ≡ other
made_search_one task outcome other h k =
    let one = endings_one task (search_of no_plan_options) (limit_of no_plan_options)
    (is_hopeless task) h.searched.of k.searched.of h.ending
    k.ending h.stats k.stats h.searched.ends k.searched.ends in
    end_one task k.ending k.stats outcome other
    (subst (λ e. IsMadeEnd task e k.stats outcome) one.1
    (subst (λ (s : Stats). IsMadeEnd task h.ending s outcome) one.2 h.comes)) k.comes

-- each ending has an outcome
end_there : (task : Task) (ending : Ending) (stats : Stats) → (outcome : Outcome)
    × IsMadeEnd task ending stats outcome
end_there task (Found plan) stats = (
  summary_outcome task plan stats (verdict_from task (initial task) 0 (map line.Step plan)),
  record {
    verdict = verdict_from task (initial task) 0 (map line.Step plan);
    is_verdict = verdict_holds task (map line.Step plan) (map line.Step plan) []
        (initial task) 0 refl refl refl;
    comes = refl;
  },
)
end_there task Unsolvable stats = (_, refl)
end_there task Exhausted stats = (_, refl)
end_there task Limit stats = (_, refl)

-- a made task has an outcome
pub made_search_there : (task : Task) → (outcome : Outcome) × IsMadeOutcome task outcome
made_search_there task =
    let (of, ending, stats, ends) = has_ending task (is_hopeless task) (limit_of no_plan_options)
    (omega arith) in
    let end = end_there task ending stats in (
      end.0,
      record { ending = ending; stats = stats; searched = record { of = of; ends = ends }; comes = end.1 },
    )
