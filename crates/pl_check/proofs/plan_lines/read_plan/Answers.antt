use Rattle.pl_text.specs.Words.{folded}
use Rattle.pl_check.specs.Elements.{trees}
use Rattle.pl_check.proofs.PlanLineLemmas.{are_lines, is_plan_fault, lines_steps}
use Rattle.pl_check.proofs.plan_lines.read_plan.Goals as goal

pub returns-in-Ok-lines_of-clause-lines : goal.returns-in-Ok-lines_of-clause-lines
returns-in-Ok-lines_of-clause-lines c =
    are_lines c.args.bytes.now c.args.task.now c.in_ok-list.list c.as_slice-forms.result.now
    c.in-Ok-lines_of.lines
    c.in_ok-list.ensures.read c.as_slice-forms.ensures c.in-Ok.ensures.0 c.in-Ok-lines_of.ensures

pub returns-in-Ok-lines_of-clause-steps : goal.returns-in-Ok-lines_of-clause-steps
returns-in-Ok-lines_of-clause-steps c =
    lines_steps (folded c.args.bytes.now) c.args.task.now
    (trees c.as_slice-forms.result.now) c.in-Ok-lines_of.lines
    c.in-Ok-lines_of.ensures

pub returns-in-Err-Fault-clause-err : goal.returns-in-Err-Fault-clause-err
returns-in-Err-Fault-clause-err c =
    let some = rw c.in-Err-Fault.field-0-is at c.in-Err-Fault.ensures in
    rw c.in-Err-Fault.fault-is
    (is_plan_fault c.args.bytes.now c.in_ok-list.list c.as_slice-forms.result.now c.in-Err-Fault.fault
    c.in_ok-list.ensures.read c.as_slice-forms.ensures some)
