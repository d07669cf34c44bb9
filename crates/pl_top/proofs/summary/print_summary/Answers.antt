use Rattle.std.proofs.Common.{inl, inr, refl}
use Rattle.pl_top.proofs.MakingLemmas.{summary_some}
use Rattle.pl_top.proofs.summary.print_summary.Goals as goal

pub returns-in-Ok : goal.returns-in-Ok
returns-in-Ok g c =
    inl (record {
      status_is = refl;
      put = record {
        whole = c.in-Ok.ensures.all;
        untouched = λ none.
            absurd (summary_some c.args.task.now c.args.plan.now c.args.stats.now c.args.verdict.now none);
      };
      quiet = refl;
    })

pub returns-in-Err : goal.returns-in-Err
returns-in-Err g c =
    let e = c.in-Err.ensures in
    inr (record {
      status_is = c.cannot_write.ensures.status;
      some = summary_some c.args.task.now c.args.plan.now c.args.stats.now c.args.verdict.now;
      cause = e.cause.failed;
      front = e.front;
      line = c.cannot_write.ensures.line;
    })
