-- The measures that bounds on work are stated in.
use Rattle.std.specs.Prelude.{ℕ, ◌+◌, ◌*◌, List, length, slice_index, max}
use Rattle.std.specs.List.{count_by, fold, sum_by}
use Rattle.pl_task.specs.declared.data.Schema.{Schema}
use Rattle.pl_task.specs.declared.task.Task.{Task}
use Rattle.pl_task.specs.States.{State}
use Rattle.pl_join.specs.Relation.{Assignment}
use Rattle.pl_normal.specs.declared.form.Edge.{Edge}
use Rattle.pl_normal.specs.Edges.{edges_of}
use Rattle.pl_normal.specs.ParameterOrder.{classes_in_order}
use Rattle.pl_normal.specs.Query.{is_in_source, is_local_answer}
use Rattle.pl_normal.specs.Steps.{tuples, place_of}

-- the rows of the relation of an edge
abbrev pub edge_rows : Task → Schema → State → Edge → ℕ
edge_rows task schema s edge = count_by (is_in_source task schema s edge.source)
    (tuples (length task.objects) (length edge.slots))

-- the rows of the relations of all edges of a schema, each edge on its own
unfoldable pub relation_rows : Task → State → Schema → ℕ
relation_rows task s schema = sum_by (edge_rows task schema s) (edges_of schema)

-- the assignment that gives the classes these objects
abbrev pub assigned : List ℕ → List ℕ → Assignment
assigned classes objects class = slice_index objects (place_of class classes)

-- the assignments of objects to the unfixed classes of a schema that meet all edges, guards and local filters
unfoldable pub local_answers : Task → State → Schema → ℕ
local_answers task s schema =
    count_by (λ objects. is_local_answer task schema s (assigned (classes_in_order schema) objects))
    (tuples (length task.objects) (length (classes_in_order schema)))

-- the literals of the precondition and the parameters
abbrev pub schema_size : Schema → ℕ
schema_size schema = length schema.condition + length schema.parameters

-- what a walk over all applicable steps of a state may probe
unfoldable pub probe_bound : Task → State → ℕ
probe_bound task s =
    sum_by (λ schema. 4 * schema_size schema
    * (relation_rows task s schema + local_answers task s schema + 1)) task.schemas

-- what the preparation of a state may probe
unfoldable pub base_bound : Task → State → ℕ
base_bound task s = sum_by (λ schema. 4 * schema_size schema * (relation_rows task s schema + 1)) task.schemas

-- the greatest size of a schema, and 0 without a schema
abbrev pub largest_size : Task → ℕ
largest_size task = fold (λ largest schema. max largest (schema_size schema)) 0 task.schemas
