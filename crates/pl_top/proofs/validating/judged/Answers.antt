use Rattle.std.proofs.Common.{◌∙◌, ap, sym}
use Rattle.pl_check.specs.declared.fault.CheckEnd.TheVariants as check_end
use Rattle.pl_top.proofs.ValidateLemmas.{judged_verdict, faulty_plan}
use Rattle.pl_top.proofs.validating.judged.Goals as goal

pub returns-in-Err-Fault-read_plan-clause-refused : goal.returns-in-Err-Fault-read_plan-clause-refused
returns-in-Err-Fault-read_plan-clause-refused c =
    let end = c.in-Err-Fault-read_plan in
    faulty_plan _ _ _ _ _ _ _ c.in-Ok.ensures.task end.ensures.err
    (end.field-0-is ∙ ap check_end.Fault (sym end.fault-is)) c.faulty.ensures

pub returns-in-Ok-judge-clause-verdict : goal.returns-in-Ok-judge-clause-verdict
returns-in-Ok-judge-clause-verdict c =
    judged_verdict _ _ _ _ _ _ _ c.in-Ok.ensures.task c.in-Ok-read_plan.ensures.lines c.as_slice.ensures
    c.in-Ok-judge.ensures
