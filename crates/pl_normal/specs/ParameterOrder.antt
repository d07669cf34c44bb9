-- The order of the parameters of a schema.
use Rattle.std.specs.Prelude.{ℕ, Bool, ◌==◌, not, List, [], ◌++◌, Option, Some, None, length, slice_get}
use Rattle.std.specs.List.{filter, list_any, range_with_len}
use Rattle.pl_task.specs.declared.data.Schema.{Schema}
use Rattle.pl_task.specs.declared.task.Task.{Task}
use Rattle.pl_hyper.specs.ClassOrder.{class_order}
use Rattle.pl_normal.specs.Edges.{edges_of, sets_of}
use Rattle.pl_normal.specs.EarRemoval.{ear_removal}

-- whether the number is among these
abbrev pub is_among : List ℕ → ℕ → Bool
is_among xs x = list_any (λ y. y == x) xs

-- these, and then the other numbers below n, rising
abbrev pub then_others : ℕ → List ℕ → List ℕ
then_others n xs = xs ++ filter (λ p. not (is_among xs p)) (range_with_len 0 n)

-- the classes of a schema in the class order of the ears of its edges
unfoldable pub classes_in_order : Schema → List ℕ
classes_in_order schema = class_order (ear_removal (sets_of (edges_of schema)))

-- the parameters: the classes in class order, then the others
unfoldable pub parameter_order : Schema → List ℕ
parameter_order schema = then_others (length schema.parameters) (classes_in_order schema)

abbrev pub order_by : Option Schema → List ℕ
order_by None = []
order_by (Some schema) = parameter_order schema

-- the order of the parameters of the schema with this number
abbrev pub order_of : Task → ℕ → List ℕ
order_of task schema = order_by (slice_get task.schemas schema)
