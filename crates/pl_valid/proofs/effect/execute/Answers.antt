use Rattle.pl_valid.proofs.StepLemmas.{schema_read, executed}
use Rattle.pl_valid.proofs.effect.execute.Goals as goal

pub returns : goal.returns
returns c =
    let schema = c.index-as_slice-step in
    let found = schema_read c.args.task.now c.args.step.now c.as_slice.result.now c.view-step.result.schema
    schema.result c.requires c.as_slice.ensures c.view-step.ensures.schema schema.is in
    executed c.args.task.now c.args.step.now _ _ _ schema.result c.view-step.result.args.now
    c.as_slice-2.result.now c.as_slice-3.result.now found
    c.view-step.ensures.args c.as_slice-2.ensures c.as_slice-3.ensures
    c.in_ok-delete_all.ensures c.in_ok-add_all.ensures
