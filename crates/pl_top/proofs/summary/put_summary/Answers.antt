use Rattle.std.proofs.Common.{subst}
use Rattle.pl_io.specs.Outside.{AppendsFront}
use Rattle.pl_io.proofs.Gathering.{front_of_next}
use Rattle.pl_top.proofs.MakingLemmas.{summary_is}
use Rattle.pl_top.proofs.ResultLemmas.{on_err_weaker}
use Rattle.pl_top.proofs.summary.put_summary.Goals as goal

pub returns-clause-front : goal.returns-clause-front
returns-clause-front g c =
    let whole = summary_is c.args.task.now c.args.plan.now c.args.stats.now c.args.verdict.now
    c.as_slice-objects.result.now
    c.as_slice-atoms.result.now c.as_slice.result.now c.as_slice-objects.ensures c.as_slice-atoms.ensures
    c.as_slice.ensures in
    on_err_weaker _ _ c.put_verdict.result
    (λ h. subst (AppendsFront _ _) whole (front_of_next _ _ _ _ _ c.in_ok-put_counts.ensures.all h))
    c.put_verdict.ensures.front
