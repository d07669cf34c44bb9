-- The normal form of a schema of a task.
use Rattle.std.specs.Prelude.{◌≡◌}
use Rattle.pl_task.specs.declared.data.Schema.{Schema}
use Rattle.pl_task.specs.declared.task.Task.{Task}
use Rattle.pl_normal.specs.declared.form.NormalSchema.{NormalSchema}
use Rattle.pl_normal.specs.Classes.{parameter_classes}
use Rattle.pl_normal.specs.Slots.{fixed_objects}
use Rattle.pl_normal.specs.Edges.{edges_of, sets_of}
use Rattle.pl_normal.specs.Guards.{guards_of}
use Rattle.pl_normal.specs.Filters.{local_of, late_of}
use Rattle.pl_normal.specs.EarRemoval.{ear_removal}
use Rattle.pl_normal.specs.ParameterOrder.{parameter_order}

-- the parts of the normal form are those that the definitions give: nothing is left open
-- the normal form of a schema of the task
pub record IsNormalForm (task : Task) (schema : Schema) (form : NormalSchema) : Type 0 where
  pub class_of : form.class_of ≡ parameter_classes schema
  pub fixed : form.fixed ≡ fixed_objects schema
  pub edges : form.edges ≡ edges_of schema
  pub guards : form.guards ≡ guards_of task schema
  pub local : form.local ≡ local_of schema
  pub late : form.late ≡ late_of schema
  pub plan : form.plan ≡ ear_removal (sets_of (edges_of schema))
  pub order : form.order ≡ parameter_order schema
