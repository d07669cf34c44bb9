use Rattle.std.proofs.Common.{refl}
use Rattle.pl_top.specs.Answer.{verdict_outcome}
use Rattle.pl_top.proofs.RunLemmas.{refused_run, written, verdict_status_other}
use Rattle.pl_top.proofs.validating.validate.Goals as goal

pub returns-in-Ok : goal.returns-in-Ok
returns-in-Ok g c =
    let ready = c.in-Ok.ensures in
    written _ _ _ _ _ _ _ _ 3 (verdict_outcome c.in-Ok.verdict) ready.begun ready.verdict refl
    (verdict_status_other c.in-Ok.verdict) c.print_verdict.ensures

pub returns-in-Err : goal.returns-in-Err
returns-in-Err g c =
    rw c.refuse.ensures.status
    (refused_run _ _ _ _ _ _ _ _ c.in-Err.ensures.refused refl c.refuse.ensures.line)
