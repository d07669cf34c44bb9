use Rattle.std.proofs.Common.{refl}
use Rattle.std.specs.Prelude.{codes}
use Rattle.pl_io.specs.Blocks.{held_of}
use Rattle.pl_io.proofs.Gathering.{on_err, sent_same, front_of_same, front_of_taken, front_after, sent_both}
use Rattle.pl_task.specs.Instance.{Instance}
use Rattle.pl_print.proofs.Writing.{step_is}
use Rattle.pl_print.proofs.step_in_blocks.put_step_in_blocks.Goals as goal

pub returns-in_err-put_pieces-clause-front : goal.returns-in_err-put_pieces-clause-front
returns-in_err-put_pieces-clause-front g c =
    let step : Instance = record { schema = c.args.step.schema; args = c.args.step.args.now } in
    let whole = step_is c.args.task.now step c.as_slice.result.now c.index-as_slice-step.result
    c.as_slice-2.result.now c.args.task.now.objects
    c.requires.step c.as_slice.ensures c.index-as_slice-step.is c.as_slice-2.ensures refl in
    on_err c.from_residual.result
    (front_of_same _ _ (held_of c.args.blocks.now) _ _ whole
    (front_of_taken _ _ (held_of c.args.blocks.now) _ _ c.in_err-put_pieces.ensures.front))

pub returns-in_err-put_arguments-clause-front : goal.returns-in_err-put_arguments-clause-front
returns-in_err-put_arguments-clause-front g c =
    let step : Instance = record { schema = c.args.step.schema; args = c.args.step.args.now } in
    let whole = step_is c.args.task.now step c.as_slice.result.now c.index-as_slice-step.result
    c.as_slice-2.result.now c.as_slice-3.result.now
    c.requires.step c.as_slice.ensures c.index-as_slice-step.is c.as_slice-2.ensures c.as_slice-3.ensures in
    on_err c.from_residual-in_err-put_arguments.result
    (front_of_same _ _ (held_of c.args.blocks.now) _ _ whole
    (front_after _ _ _ (held_of c.args.blocks.now) _ _ _ c.in_ok-put_pieces.ensures.all
    (front_of_taken _ _ _ _ (codes ")\n") c.in_err-put_arguments.ensures.front)))

pub returns-in_err-put-clause-front : goal.returns-in_err-put-clause-front
returns-in_err-put-clause-front g c =
    let step : Instance = record { schema = c.args.step.schema; args = c.args.step.args.now } in
    let whole = step_is c.args.task.now step c.as_slice.result.now c.index-as_slice-step.result
    c.as_slice-2.result.now c.as_slice-3.result.now
    c.requires.step c.as_slice.ensures c.index-as_slice-step.is c.as_slice-2.ensures c.as_slice-3.ensures in
    on_err c.from_residual-in_err-put.result
    (front_of_same _ _ (held_of c.args.blocks.now) _ _ whole
    (front_after _ _ _ (held_of c.args.blocks.now) _ _ _ c.in_ok-put_pieces.ensures.all
    (front_after _ _ _ _ _ _ (codes ")\n") c.in_ok-put_arguments.ensures.all c.in_err-put.ensures.front)))

pub returns-clause-all : goal.returns-clause-all
returns-clause-all g c =
    let step : Instance = record { schema = c.args.step.schema; args = c.args.step.args.now } in
    let whole = step_is c.args.task.now step c.as_slice.result.now c.index-as_slice-step.result
    c.as_slice-2.result.now c.as_slice-3.result.now
    c.requires.step c.as_slice.ensures c.index-as_slice-step.is c.as_slice-2.ensures c.as_slice-3.ensures in
    sent_same _ _ _ _ _ _ whole
    (sent_both _ _ _ _ _ _ _ _ c.in_ok-put_pieces.ensures.all
    (sent_both _ _ _ _ _ _ (codes ")\n") _ c.in_ok-put_arguments.ensures.all c.in_ok-put.ensures.all))
