use Rattle.std.proofs.Common.{refl}
use Rattle.pl_top.specs.Asked.{bytes_in}
use Rattle.pl_top.proofs.StartLemmas.{is_start, plan_refused, step_refused}
use Rattle.pl_top.proofs.starting.start_of.Goals as goal

pub returns-in-Ok-past_step-clause-start : goal.returns-in-Ok-past_step-clause-start
returns-in-Ok-past_step-clause-start c =
    is_start c.args.domain.now c.args.problem.now (bytes_in c.args.plan)
    (bytes_in c.args.past) c.args.count c.in-Ok.task
    c.in-Ok-lines_of.lines c.in-Ok-past_step.past c.in-Ok.ensures.task c.in-Ok-lines_of.ensures.lines
    c.in-Ok-past_step.ensures.step

pub returns-in-Err-past_step-clause-refused : goal.returns-in-Err-past_step-clause-refused
returns-in-Err-past_step-clause-refused c =
    step_refused c.args.domain.now c.args.problem.now (bytes_in c.args.plan)
    (bytes_in c.args.past) c.args.count c.in-Ok.task
    c.in-Ok-lines_of.lines c.in-Err-past_step.refusal c.in-Ok.ensures.task c.in-Ok-lines_of.ensures.lines
    c.in-Err-past_step.ensures.refused

pub returns-in-Err-clause-refused : goal.returns-in-Err-clause-refused
returns-in-Err-clause-refused c =
    plan_refused c.args.domain.now c.args.problem.now (bytes_in c.args.plan)
    (bytes_in c.args.past) c.args.count c.in-Ok.task
    c.in-Err.refusal c.in-Ok.ensures.task c.in-Err.ensures.refused

pub returns-in-Ok-past_step-clause-stated : goal.returns-in-Ok-past_step-clause-stated
returns-in-Ok-past_step-clause-stated c =
    record { stated = c.in-Ok.ensures.task; are = c.in-Ok-lines_of.ensures.lines }

pub returns-in-Ok-past_step-clause-page : goal.returns-in-Ok-past_step-clause-page
returns-in-Ok-past_step-clause-page c = record { step = c.in-Ok-past_step.ensures.step; same_count = refl }
