use Rattle.std.proofs.Common.{◌<◌, length, arith}
use Rattle.pl_io.proofs.Gathering.{on_err}
use Rattle.pl_print.specs.Texts.{step_text}
use Rattle.pl_print.proofs.Writing.{all_to_item, front_to_item}
use Rattle.pl_print.proofs.plan.put_steps.Goals as goal

pub returns-in_err-put_owned_step-clause-front : goal.returns-in_err-put_owned_step-clause-front
returns-in_err-put_owned_step-clause-front g c =
    let here : c.loop-step.step-index < length c.args.steps.now = omega (arith, c.loop-step-test.true) in
    on_err c.from_residual.result
    (front_to_item _ _ _ (step_text c.args.task.now) c.args.steps.now _ _ here c.step-item.is
    c.loop-step.invariant.written
    c.in_err-put_owned_step.ensures.front)

pub loop-step-preserved : goal.loop-step-preserved
loop-step-preserved g c =
    let here : c.loop-step.step-index < length c.args.steps.now = omega (arith, c.loop-step-test.true) in
    let so_far = c.loop-step.invariant in
    let step = c.in_ok-put_owned_step.ensures in
    record {
      written = all_to_item _ _ _ (step_text c.args.task.now) c.args.steps.now _ _ here c.step-item.is
          so_far.written step.all;
      later = omega (arith, so_far.later, step.cause.later);
    }
