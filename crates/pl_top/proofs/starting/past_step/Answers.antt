use Rattle.std.proofs.Common.{◌≡◌, Err}
use Rattle.pl_check.specs.declared.fault.StepEnd.TheVariants as step_end
use Rattle.pl_top.proofs.StartLemmas.{no_step}
use Rattle.pl_top.proofs.starting.past_step.Goals as goal

pub returns-in-Err-NotAStep-clause-refused : goal.returns-in-Err-NotAStep-clause-refused
returns-in-Err-NotAStep-clause-refused c =
    let named : c.read_step.result ≡ Err step_end.NotAStep =
    cc (c.in-Err-NotAStep.is, c.in-Err-NotAStep.field-0-is) in
    no_step c.args.task.now c.args.past c.in-Some.text c.as_bytes.result.now c.in-Some.is
    c.as_bytes.ensures.value
    (c.read_step.ensures.refused named)
