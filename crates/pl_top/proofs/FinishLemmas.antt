-- How a run ends whose files were read whole and have no fault.
use Rattle.std.proofs.Common.{◌≡◌, ℕ, List, inl, inr, refl, sym, ◌∙◌, subst}
use Rattle.pl_io.specs.Outside.{SinkSeen, ShelfSeen}
use Rattle.pl_task.specs.declared.plan.PlanLine.{PlanLine}
use Rattle.pl_task.specs.States.{State}
use Rattle.pl_valid.specs.declared.verdict.Verdict.{Verdict}
use Rattle.pl_print.specs.Texts.{fault_text, verdict_text}
use Rattle.pl_print.specs.declared.fault.Fault.TheVariants as fault
use Rattle.pl_top.specs.declared.starting.Start.{Start}
use Rattle.pl_top.specs.Answer.{Outcome, IsAnswer, verdict_outcome, verdict_status, list_outcome}
use Rattle.pl_top.specs.Reaching.{AreExecuted, IsRefusedBy}
use Rattle.pl_top.specs.Refusal.{HasBegun}
use Rattle.pl_top.specs.declared.refusal.Refusal.TheVariants as refused
use Rattle.pl_top.specs.Request.{Request}
use Rattle.pl_top.specs.Run.{RunEnds, IsLinePut}
use Rattle.pl_top.specs.Starting.{IsWorkedAt}
use Rattle.pl_top.specs.Writing.{Writes, Finishes}
use Rattle.pl_top.proofs.RunLemmas.{verdict_status_other, written, refused_run}

module _ (out out' err err' : SinkSeen) (result : ℕ) where
  -- what ends with an outcome ends with what the outcome is too
  pub finishes_weaker : (P Q : Outcome → Type 0) → ((outcome : Outcome) → P outcome → Q outcome)
      → Finishes P out out' err err' result → Finishes Q out out' err err' result
  finishes_weaker P Q weaker (inl h) = inl (record {
    outcome = h.outcome;
    is = weaker h.outcome h.is;
    no_line = h.no_line;
    other = h.other;
    writes = h.writes;
  })
  finishes_weaker P Q weaker (inr h) = inr h

  -- memory ran out
  pub finishes_without_memory : (P : Outcome → Type 0) → result ≡ 8 → out' ≡ out
      → IsLinePut (fault_text fault.Memory) err err' → Finishes P out out' err err' result
  finishes_without_memory P status same line =
      inr (record { status_is = status; untouched = same; line = line })

  -- a line of the plan is refused
  pub finishes_refused : (start : Start) (slice : List PlanLine) (verdict : Verdict) → slice ≡ start.lines
      → IsRefusedBy start.task slice verdict
      → Writes (verdict_text verdict) (verdict_status verdict) out out' err err' result
      → Finishes (IsWorkedAt start) out out' err err' result
  finishes_refused start slice verdict same h writes = inl (record {
    outcome = verdict_outcome verdict;
    is = inl (record {
      number = first.number;
      why = first.why;
      first = first.first;
      comes = subst (λ (v : Verdict). verdict_outcome verdict ≡ verdict_outcome v) first.is refl;
    });
    no_line = refl;
    other = verdict_status_other verdict;
    writes = writes;
  })
    where
      first : IsRefusedBy start.task start.lines verdict
      first = subst (λ (lines : List PlanLine). IsRefusedBy start.task lines verdict) same h

  -- all lines are executed, and the steps are listed
  pub finishes_listed : (start : Start) (slice : List PlanLine) (state : State) → slice ≡ start.lines
      → AreExecuted start.task slice state
      → Finishes (λ outcome. outcome ≡ list_outcome start.task state start.past start.count) out out' err err'
      result
      → Finishes (IsWorkedAt start) out out' err err' result
  finishes_listed start slice state same h =
      finishes_weaker (λ outcome. outcome ≡ list_outcome start.task state start.past start.count)
      (IsWorkedAt start)
      (λ outcome is. inr (record {
        steps = h.steps;
        state = state;
        lines_are = sym same ∙ h.lines_are;
        executed = h.executed;
        comes = is;
      }))

-- how a run ends that finishes, after its files were read
pub finished_run : (request : Request) (shelf shelf' : ShelfSeen) (out out' err err' : SinkSeen)
    (result count : ℕ)
    (IsOutcome : Outcome → Type 0) → HasBegun request count shelf shelf'
    → ((outcome : Outcome) → IsOutcome outcome → IsAnswer request shelf.files shelf'.place outcome)
    → Finishes IsOutcome out out' err err' result → RunEnds request shelf shelf' out out' err err' result
finished_run request shelf shelf' out out' err err' result count IsOutcome begun answers (inl h) =
    written request shelf shelf' out out' err err' result count h.outcome begun
    (answers h.outcome h.is) h.no_line h.other h.writes
finished_run request shelf shelf' out out' err err' result count IsOutcome begun answers (inr h) =
    subst (RunEnds request shelf shelf' out out' err err') (sym h.status_is)
    (refused_run request shelf shelf' out out' err err' (refused.Memory (record {}))
    (record { count = count; begun = begun; cause = inr tt; last = tt }) h.untouched h.line)
