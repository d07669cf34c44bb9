-- The order of the steps of a task.
use Rattle.std.specs.Prelude.{ℕ, List, ◌∷◌, map, slice_index}
use Rattle.std.specs.declared.cmp.Ordering.{Ordering}
use Rattle.pl_task.specs.declared.task.Task.{Task}
use Rattle.pl_task.specs.Instance.{Instance}
use Rattle.pl_rows.specs.Rows.{row_cmp}
use Rattle.pl_normal.specs.ParameterOrder.{order_of}

-- the objects read in the order of the parameters
abbrev pub read_in : List ℕ → List ℕ → List ℕ
read_in order args = map (slice_index args) order

-- the number of the schema, and then the objects read in the schema's parameter order
unfoldable pub step_key : Task → Instance → List ℕ
step_key task step = step.schema ∷ read_in (order_of task step.schema) step.args

-- steps are compared by the number of the schema, then by their objects read in its parameter order: the
-- first difference decides
abbrev pub step_cmp : Task → Instance → Instance → Ordering
step_cmp task a b = row_cmp (step_key task a) (step_key task b)
