use Rattle.std.proofs.Common.{refl, subst}
use Rattle.std.specs.Prelude.{codes}
use Rattle.std.specs.Io.KnownBytes.{Appends}
use Rattle.std.proofs.KnownBytes.{Appends-trans}
use Rattle.pl_io.specs.Outside.{AppendsFront}
use Rattle.pl_io.proofs.Gathering.{on_err, front_of_first, front_of_next}
use Rattle.pl_task.specs.Instance.{Instance}
use Rattle.pl_print.proofs.Writing.{step_is}
use Rattle.pl_print.proofs.step.put_step.Goals as goal

pub returns-in_err-put_pieces-clause-front : goal.returns-in_err-put_pieces-clause-front
returns-in_err-put_pieces-clause-front g c =
    let step : Instance = record { schema = c.args.step.schema; args = c.args.step.args.now } in
    let whole = step_is c.args.task.now step c.as_slice.result.now c.index-as_slice-step.result
    c.as_slice-2.result.now c.args.task.now.objects
    c.requires.step c.as_slice.ensures c.index-as_slice-step.is c.as_slice-2.ensures refl in
    on_err c.from_residual.result
    (subst (AppendsFront _ _) whole (front_of_first _ _ _ _ c.in_err-put_pieces.ensures.front))

pub returns-in_err-put_arguments-clause-front : goal.returns-in_err-put_arguments-clause-front
returns-in_err-put_arguments-clause-front g c =
    let step : Instance = record { schema = c.args.step.schema; args = c.args.step.args.now } in
    let whole = step_is c.args.task.now step c.as_slice.result.now c.index-as_slice-step.result
    c.as_slice-2.result.now c.as_slice-3.result.now
    c.requires.step c.as_slice.ensures c.index-as_slice-step.is c.as_slice-2.ensures c.as_slice-3.ensures in
    on_err c.from_residual-in_err-put_arguments.result
    (subst (AppendsFront _ _) whole
    (front_of_next _ _ _ _ _ c.in_ok-put_pieces.ensures.all
    (front_of_first _ _ _ (codes ")\n") c.in_err-put_arguments.ensures.front)))

pub returns-in_err-put_all-clause-front : goal.returns-in_err-put_all-clause-front
returns-in_err-put_all-clause-front g c =
    let step : Instance = record { schema = c.args.step.schema; args = c.args.step.args.now } in
    let whole = step_is c.args.task.now step c.as_slice.result.now c.index-as_slice-step.result
    c.as_slice-2.result.now c.as_slice-3.result.now
    c.requires.step c.as_slice.ensures c.index-as_slice-step.is c.as_slice-2.ensures c.as_slice-3.ensures in
    on_err c.from_residual-in_err-put_all.result
    (subst (AppendsFront _ _) whole
    (front_of_next _ _ _ _ _ c.in_ok-put_pieces.ensures.all
    (front_of_next _ _ _ _ (codes ")\n") c.in_ok-put_arguments.ensures.all c.in_err-put_all.ensures.front)))

pub returns-clause-all : goal.returns-clause-all
returns-clause-all g c =
    let step : Instance = record { schema = c.args.step.schema; args = c.args.step.args.now } in
    let whole = step_is c.args.task.now step c.as_slice.result.now c.index-as_slice-step.result
    c.as_slice-2.result.now c.as_slice-3.result.now
    c.requires.step c.as_slice.ensures c.index-as_slice-step.is c.as_slice-2.ensures c.as_slice-3.ensures in
    subst (Appends _ _) whole
    (Appends-trans _ _ _ _ _ c.in_ok-put_pieces.ensures.all
    (Appends-trans _ _ _ _ (codes ")\n") c.in_ok-put_arguments.ensures.all c.in_ok-put_all.ensures.all))
