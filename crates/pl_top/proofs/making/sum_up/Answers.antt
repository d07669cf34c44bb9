use Rattle.std.proofs.Common.{subst, map}
use Rattle.pl_task.specs.declared.plan.PlanLine.TheVariants as line
use Rattle.pl_task.specs.Instance.{Instance}
use Rattle.std.specs.Prelude.{List}
use Rattle.pl_valid.specs.Verdict.{IsVerdict}
use Rattle.pl_top.proofs.MakingLemmas.{summed}
use Rattle.pl_top.proofs.making.sum_up.Goals as goal

pub returns-in-Ok : goal.returns-in-Ok
returns-in-Ok g c =
    summed c.args.task.now c.args.plan.now c.args.stats.now c.in-Ok.verdict _ _ _ _ _
    (subst (λ (steps : List Instance). IsVerdict c.args.task.now (map line.Step steps) c.in-Ok.verdict)
    c.as_slice.ensures c.in-Ok.ensures)
    c.print_summary.ensures
