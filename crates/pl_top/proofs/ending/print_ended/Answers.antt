use Rattle.std.proofs.Common.{inl, inr, refl}
use Rattle.pl_top.specs.Ended.{ending_in}
use Rattle.pl_top.proofs.PlanLemmas.{ended_text_some}
use Rattle.pl_top.proofs.ending.print_ended.Goals as goal

pub returns-in-Ok : goal.returns-in-Ok
returns-in-Ok g c =
    let ending = ending_in c.args.end.now.outcome in
    inl (record {
      status_is = c.status.ensures;
      put = record {
        whole = c.in-Ok.ensures.all;
        untouched = λ none.
            absurd (ended_text_some c.args.task.now c.args.limit c.args.stats ending c.args.end.now.stats
            none);
      };
      quiet = refl;
    })

pub returns-in-Err : goal.returns-in-Err
returns-in-Err g c =
    let ending = ending_in c.args.end.now.outcome in
    let e = c.in-Err.ensures in
    inr (record {
      status_is = c.cannot_write.ensures.status;
      some = ended_text_some c.args.task.now c.args.limit c.args.stats ending c.args.end.now.stats;
      cause = e.cause.failed;
      front = e.front;
      line = c.cannot_write.ensures.line;
    })
