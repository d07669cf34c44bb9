use Rattle.std.proofs.Common.{◌∙◌, ◌≤◌, sym, subst, length}
use Rattle.pl_task.proofs.StepLemmas.{few_objects}
use Rattle.pl_check.proofs.PlanLineLemmas.{lines_none, lines_one, step_of_line}
use Rattle.pl_check.proofs.plan_lines.read_step.Goals as goal

pub returns-in-Err-Fault-clause-refused : goal.returns-in-Err-Fault-clause-refused
returns-in-Err-Fault-clause-refused c =
    let fault = rw c.in-Err-Fault.field-0-is at c.in-Err-Fault.ensures.err in
    λ e step is. lines_none c.args.text.now c.args.task.now _ _ fault is.line

pub returns-in_default-clause-refused : goal.returns-in_default-clause-refused
returns-in_default-clause-refused c =
    λ e step is. c.in_default.ensures step
    (c.as_slice.ensures ∙
    lines_one c.args.text.now c.args.task.now c.in-Ok.lines _ c.in-Ok.ensures.lines is.line)

pub of-requires : goal.of-requires
of-requires c =
    subst (λ args. length args ≤ 64) (sym c.view.ensures.args)
    (few_objects c.args.task.now c.in-Some.step.now
    (step_of_line c.args.task.now c.in-Ok.lines c.in-Some.step.now c.in-Ok.ensures.steps
    (sym c.as_slice.ensures ∙ c.in-Some.ensures)))
