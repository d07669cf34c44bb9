-- A step of a task has as many objects as a schema may have parameters.
use Rattle.std.proofs.Common.{◌≡◌, ◌<◌, ◌≤◌, length, get_or, ap, arith}
use Rattle.std.proofs.lemmas.Option.{slice_get_within, get_or_from_slice_get}
use Rattle.pl_task.specs.declared.data.Schema.{Schema}
use Rattle.pl_task.specs.declared.task.Task.{Task}
use Rattle.pl_task.specs.Instance.{Instance}
use Rattle.pl_task.specs.States.{IsStep}

pub few_objects : (task : Task) (step : Instance) → IsStep task step → length step.args ≤ 64
few_objects task step is =
    let within : step.schema < length task.schemas = slice_get_within task.schemas step.schema is.schema
    is.found in
    let of = task.schemas_ok.each step.schema is.schema within in
    let same : get_or task.schemas step.schema is.schema ≡ is.schema =
    get_or_from_slice_get task.schemas step.schema is.schema is.schema is.found in
    omega (arith, is.many, of.few_parameters, ap (λ (s : Schema). length s.parameters) same)
