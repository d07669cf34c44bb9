use Rattle.pl_task.specs.States.{state_of}
use Rattle.pl_valid.proofs.StepLemmas.{schema_read, condition_values, applicable_where}
use Rattle.pl_valid.proofs.line.is_applicable.Goals as goal

pub hold_all-requires : goal.hold_all-requires
hold_all-requires c =
    let schema = c.index-as_slice-step in
    let found = schema_read c.args.task.now c.args.step.now c.as_slice.result.now c.view-step.result.schema
    schema.result c.requires.step c.as_slice.ensures c.view-step.ensures.schema schema.is in
    condition_values c.args.task.now c.args.step.now schema.result c.view-step.result.args.now
    c.as_slice-3.result.now c.requires.step found c.view-step.ensures.args c.as_slice-3.ensures

pub returns-clause-decides : goal.returns-clause-decides
returns-clause-decides c =
    let schema = c.index-as_slice-step in
    let found = schema_read c.args.task.now c.args.step.now c.as_slice.result.now c.view-step.result.schema
    schema.result c.requires.step c.as_slice.ensures c.view-step.ensures.schema schema.is in
    applicable_where c.args.task.now (state_of c.args.atoms.now.keys) c.args.step.now schema.result
    c.as_slice-2.result.now c.view-step.result.args.now c.as_slice-3.result.now c.in_ok-holds.holds
    found c.view-step.ensures.args c.as_slice-2.ensures c.as_slice-3.ensures
    (c.in_ok-are_typed.ensures.decides.0 c.if-not-branch.false) c.in_ok-holds.ensures
