-- What the bytes of the files of `validate` come to.
use Rattle.std.proofs.Common.{◌≡◌, ℕ, List, inl, inr, refl, sym, subst}
use Rattle.pl_task.specs.declared.plan.PlanLine.{PlanLine}
use Rattle.pl_task.specs.declared.task.Task.{Task}
use Rattle.pl_check.specs.PlanLines.{AreLines, EndsPlanBy}
use Rattle.pl_check.specs.Stated.{AreStated}
use Rattle.pl_check.specs.declared.fault.CheckEnd.{CheckEnd}
use Rattle.pl_check.specs.declared.fault.CheckEnd.TheVariants as check_end
use Rattle.pl_check.specs.declared.fault.InputFault.{InputFault}
use Rattle.pl_valid.specs.declared.verdict.Verdict.{Verdict}
use Rattle.pl_valid.specs.Verdict.{IsVerdict}
use Rattle.pl_top.specs.declared.refusal.Refusal.{Refusal}
use Rattle.pl_top.specs.Answer.{IsJudged, verdict_outcome}
use Rattle.pl_top.specs.Refusal.{IsUnjudged, input_refusal}

-- a verdict on the lines of the plan is the outcome
pub judged_verdict : (domain problem plan : List ℕ) (task : Task) (lines slice : List PlanLine)
    (verdict : Verdict)
    → AreStated domain problem task → AreLines plan task lines → slice ≡ lines → IsVerdict task slice verdict
    → IsJudged domain problem plan (verdict_outcome verdict)
judged_verdict domain problem plan task lines slice verdict stated are same is = inr (record {
  task = task;
  stated = stated;
  judged = inr (record {
    lines = lines;
    are = are;
    verdict = verdict;
    is_verdict = subst (λ (ls : List PlanLine). IsVerdict task ls verdict) same is;
    comes = refl;
  });
})

-- a fault of the plan is the outcome
pub faulty_plan : (domain problem plan : List ℕ) (task : Task) (end : CheckEnd) (found : InputFault)
    (r : Refusal)
    → AreStated domain problem task → EndsPlanBy plan end → end ≡ check_end.Fault found
    → r ≡ input_refusal plan found
    → IsUnjudged domain problem plan r
faulty_plan domain problem plan task end found r stated ends is same =
    subst (IsUnjudged domain problem plan) (sym same) (inr (record {
      task = task;
      stated = stated;
      judged = inl (record { found = found; is_first = subst (EndsPlanBy plan) is ends; comes = refl });
    }))
