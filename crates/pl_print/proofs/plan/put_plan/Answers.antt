use Rattle.std.proofs.Common.{◌∙◌, subst}
use Rattle.pl_io.specs.Outside.{AppendsFront}
use Rattle.pl_io.proofs.Gathering.{on_err, front_of_next}
use Rattle.pl_print.proofs.Writing.{plan_is}
use Rattle.pl_print.proofs.plan.put_plan.Goals as goal

pub returns-in_err-put_pieces-clause-front : goal.returns-in_err-put_pieces-clause-front
returns-in_err-put_pieces-clause-front g c =
    let whole = plan_is c.args.task.now c.as_slice-steps.result.now c.args.plan.now c.as_bytes.result.now
    c.as_slice-steps.ensures
    (c.as_bytes.ensures.value ∙ c.format-length.ensures.text) in
    on_err c.from_residual-in_err-put_pieces.result
    (subst (AppendsFront _ _) whole
    (front_of_next _ _ _ _ _ c.in_ok-put_steps.ensures.all c.in_err-put_pieces.ensures.front))
