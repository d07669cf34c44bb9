-- From the search of a made task to its summary.
use Rattle.std.proofs.Common.{◌≡◌, ◌≢◌, ◌+◌, ◌<◌, ◌≤◌, ℕ, zero, suc, List, [], ◌∷◌, ◌++◌, map, length}
use Rattle.std.proofs.Common.{length-append, false, inl, inr, refl, sym, ◌∙◌, ap, subst, arith, All}
use Rattle.std.proofs.Common.{codes, decimal}
use Rattle.std.proofs.lemmas.List.Elements.{All-map, All-weaker}
use Rattle.pl_io.specs.Outside.{SinkSeen}
use Rattle.pl_task.specs.declared.data.Atom.{Atom}
use Rattle.pl_task.specs.declared.data.ObjectDef.{ObjectDef}
use Rattle.pl_task.specs.declared.plan.PlanLine.{PlanLine}
use Rattle.pl_task.specs.declared.plan.PlanLine.TheVariants as line
use Rattle.pl_task.specs.declared.task.Task.{Task}
use Rattle.pl_task.specs.Instance.{Instance}
use Rattle.pl_task.specs.States.{IsStep}
use Rattle.pl_task.proofs.StepLemmas.{few_objects}
use Rattle.pl_hooks.specs.Hopeless.{is_hopeless}
use Rattle.pl_registry.specs.declared.ended.Stats.{Stats}
use Rattle.pl_registry.specs.declared.search.Search.TheVariants as search
use Rattle.pl_registry.specs.Cut.{IsCut, IsKept}
use Rattle.pl_registry.specs.declared.ended.Outcome.{Outcome as Answered}
use Rattle.pl_registry.specs.Ending.{Ending, IsEnding, by_number, ending_of}
use Rattle.pl_registry.specs.Ending.Ending.{Found, Unsolvable, Limit}
use Rattle.pl_registry.specs.SearchRecord.{Entry, entry_at, path_within, path_of}
use Rattle.pl_registry.specs.StateSpace.{space_of}
use Rattle.pl_registry.proofs.Entries.{expanded_registered}
use Rattle.pl_registry.proofs.Plans.{next_tried}
use Rattle.pl_top.specs.Answer.{IsMadeOutcome, IsSummed, search_outcome, summary_outcome}
use Rattle.pl_top.specs.Request.{no_plan_options}
use Rattle.pl_top.specs.Searching.{IsSearchedBy, ended_text, ending_status}
use Rattle.pl_top.specs.Writing.{Writes, Finishes}
use Rattle.pl_print.specs.Texts.{in_turn, verdict_text}
use Rattle.pl_valid.specs.Verdict.{IsLineOf, IsVerdict}
use Rattle.pl_valid.specs.declared.verdict.Verdict.{Verdict}
use Rattle.pl_top.specs.Summary.{counts_text, summary_text}
use Rattle.pl_top.proofs.FinishLemmas.{finishes_weaker}
use Rattle.pl_top.proofs.PlanLemmas.{before}

-- a path has at most as many steps as its entry's number
path_short : (entries : List Entry) (n i : ℕ) → length (path_within entries n i) ≤ n
path_short entries zero i = omega arith
path_short entries (suc n) zero = omega arith
path_short entries (suc n) (suc i) =
    let before = path_short entries n (entry_at entries (suc i)).parent in
    rw (length-append (path_within entries n (entry_at entries (suc i)).parent)
    ((entry_at entries (suc i)).step ∷ []))
    (omega (arith, before))

-- a plan that breadth-first search found has at most as many steps as states are registered
pub few_found : (task : Task) (limit : ℕ) (plan : List Instance) (stats : Stats)
    → IsSearchedBy task search.Bfs limit (Found plan) stats →
    length plan ≤ limit
few_found task limit plan stats h = by_case h.ends
  where
    by_case : IsEnding (space_of task) (IsCut (is_hopeless task)) (IsKept (is_hopeless task)) by_number limit
        h.of (Found plan) stats → length plan ≤ limit
    by_case (inl (goal, empty, once)) = (let none = ap length empty in omega (arith, none))
    by_case (inr (uncut, found)) =
        let (turn, of) = next_tried found.next in
        let there : found.at.entry < length h.of.entries =
        subst (λ i. i < length h.of.entries) (sym of.entry_is)
        (expanded_registered uncut.1.stands found.at.turn turn) in
        let long : length plan ≡ length (path_of h.of.entries found.at.entry) + 1 =
        ap length found.plan_is ∙ length-append (path_of h.of.entries found.at.entry) (found.at.step ∷ []) in
        omega (arith, long, there, uncut.1.few, path_short h.of.entries found.at.entry found.at.entry)

-- the summary of a plan that was found is the outcome
pub found_made : (task : Task) (plan : List Instance) (stats : Stats) (out out' err err' : SinkSeen)
    (result : ℕ) →
    IsSearchedBy task search.Bfs 1000000 (Found plan) stats
    → Finishes (IsSummed task plan stats) out out' err err' result →
    Finishes (IsMadeOutcome task) out out' err err' result
found_made task plan stats out out' err err' result h =
    finishes_weaker out out' err err' result (IsSummed task plan stats) (IsMadeOutcome task)
    (λ outcome summed.
    record {
      ending = Found plan;
      stats = stats;
      searched = record { of = h.of; ends = h.ends };
      comes =
          summed;
    })

-- what the search has answered is its ending
pub ended_so : (task : Task) (answered : Answered) (ending : Ending) (stats : Stats)
    → ending_of answered ≡ ending →
    IsSearchedBy task search.Bfs 1000000 (ending_of answered) stats
    → IsSearchedBy task search.Bfs 1000000 ending stats
ended_so task answered ending stats is = subst (λ e. IsSearchedBy task search.Bfs 1000000 e stats) is

-- a search without a plan ends as that of `plan`
pub unsolvable_made : (task : Task) (stats : Stats) (out out' err err' : SinkSeen) (result : ℕ) →
    IsSearchedBy task search.Bfs 1000000 Unsolvable stats →
    Writes (ended_text task 1000000 false Unsolvable stats) (ending_status Unsolvable) out out' err err'
    result →
    Finishes (IsMadeOutcome task) out out' err err' result
unsolvable_made task stats out out' err err' result h writes = inl (record {
  outcome = search_outcome task no_plan_options Unsolvable stats;
  is = record {
    ending = Unsolvable;
    stats = stats;
    searched = record { of = h.of; ends = h.ends };
    comes =
        refl;
  };
  no_line = refl;
  other = λ four. cc four;
  writes = writes;
})

pub limited_made : (task : Task) (stats : Stats) (out out' err err' : SinkSeen) (result : ℕ) →
    IsSearchedBy task search.Bfs 1000000 Limit stats →
    Writes (ended_text task 1000000 false Limit stats) (ending_status Limit) out out' err err' result →
    Finishes (IsMadeOutcome task) out out' err err' result
limited_made task stats out out' err err' result h writes = inl (record {
  outcome = search_outcome task no_plan_options Limit stats;
  is = record { ending = Limit; stats = stats; searched = record { of = h.of; ends = h.ends }; comes = refl };
  no_line = refl;
  other = λ four. cc four;
  writes = writes;
})

-- a summary that was written is the outcome
pub summed : (task : Task) (plan : List Instance) (stats : Stats) (verdict : Verdict)
    (out out' err err' : SinkSeen) (result : ℕ) →
    IsVerdict task (map line.Step plan) verdict → Writes (summary_text task plan stats verdict) 0 out out' err
    err' result →
    Finishes (IsSummed task plan stats) out out' err err' result
summed task plan stats verdict out out' err err' result is writes = inl (record {
  outcome = summary_outcome task plan stats verdict;
  is = record { verdict = verdict; is_verdict = is; comes = refl };
  no_line = refl;
  other = λ four. cc four;
  writes = writes;
})

-- the pieces of the counts
pub counts_are : (a b c d e f : List ℕ) (objects atoms steps : ℕ) (stats : Stats) → a ≡ decimal objects
    → b ≡ decimal atoms →
    c ≡ decimal steps → d ≡ decimal stats.states → e ≡ decimal stats.expanded → f ≡ decimal stats.generated →
    in_turn (codes "objects " ∷ a ∷ codes "\natoms " ∷ b ∷ codes "\nlength " ∷ c ∷ codes "\nstates " ∷ d ∷
    codes "\nexpanded " ∷ e ∷ codes "\ngenerated " ∷ f ∷ codes "\n" ∷ []) ≡ counts_text objects atoms steps
    stats
unfolding counts_text
counts_are a b c d e f objects atoms steps stats first second third fourth fifth sixth =
    rw (first, second, third, fourth, fifth, sixth) refl

-- the counts have a byte, and so has the summary
counts_some : (objects atoms steps : ℕ) (stats : Stats) → counts_text objects atoms steps stats ≢ []
unfolding counts_text
counts_some objects atoms steps stats none = cc none

pub summary_some : (task : Task) (plan : List Instance) (stats : Stats) (verdict : Verdict)
    → summary_text task plan stats verdict ≢ []
summary_some task plan stats verdict =
    before (counts_text (length task.objects) (length task.init) (length plan) stats) (verdict_text verdict)
    (counts_some (length task.objects) (length task.init) (length plan) stats)

-- the summary by the lists that were counted
pub summary_is : (task : Task) (plan : List Instance) (stats : Stats) (verdict : Verdict)
    (objects : List ObjectDef) (atoms : List Atom)
    (steps : List Instance) → objects ≡ task.objects → atoms ≡ task.init → steps ≡ plan →
    counts_text (length objects) (length atoms) (length steps) stats
    ++ verdict_text verdict ≡ summary_text task plan stats verdict
summary_is task plan stats verdict objects atoms steps first second third =
    λ i. counts_text (length (first i)) (length (second i)) (length (third i)) stats ++ verdict_text verdict

-- what the steps of a plan are judged as
pub lines_within : (task : Task) (steps : List Instance) (lines slice : List PlanLine)
    → All (IsStep task) steps →
    lines ≡ map line.Step steps → slice ≡ lines → All (IsLineOf task) slice
lines_within task steps lines slice within are same =
    subst (All (IsLineOf task)) (sym (same ∙ are))
    (All-map (IsLineOf task) line.Step steps
    (All-weaker (IsStep task) (λ (step : Instance). IsLineOf task (line.Step step))
    (λ step is other e. subst (IsStep task) (cc e) is) steps within))

-- steps of a task have at most 64 objects each
pub few_each : (task : Task) (steps : List Instance) → All (IsStep task) steps
    → All (λ (step : Instance). length step.args ≤ 64) steps
few_each task steps = All-weaker (IsStep task) (λ (step : Instance). length step.args ≤ 64)
    (λ step. few_objects task step) steps
