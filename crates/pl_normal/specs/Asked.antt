-- A query with the tables that it is asked of.
use Rattle.std.specs.Prelude.{◌≡◌, ℕ, Some, slice_get}
use Rattle.pl_task.specs.declared.data.Schema.{Schema}
use Rattle.pl_task.specs.declared.task.Task.{Task}
use Rattle.pl_task.specs.States.{State}
use Rattle.pl_normal.specs.declared.query.Query.{Query}
use Rattle.pl_normal.specs.Edges.{edges_of}
use Rattle.pl_normal.specs.Kinds.{AreKindTables}
use Rattle.pl_normal.specs.Measures.{edge_rows}
use Rattle.pl_normal.specs.Queries.{edge_at}
use Rattle.pl_normal.specs.StateTables.{state_of_tables, AreTables}
use Rattle.pl_normal.specs.Tables.{AreStatics}

-- the task, the state and the schema that a query is about
abbrev pub task_in : Query → Task
task_in query = query.task.now

abbrev pub state_asked : Query → State
state_asked query = state_of_tables query.task.now query.tables.now

abbrev pub schema_in : Query → Schema
schema_in query = query.schema.now

-- the query is that of a schema of the task, and has the tables of its static predicates, of the types of
-- its parameters, and of a state
pub record IsQuery (query : Query) : Type 0 where
  pub statics : AreStatics query.task.now query.statics.now
  pub kinds : AreKindTables query.task.now query.kinds.now.starts.items query.kinds.now.numbers.items
      query.kinds.now.tables.items
  pub tables : AreTables query.task.now query.tables.now
  pub found : slice_get query.task.now.schemas query.number ≡ Some query.schema.now

-- the rows of the relation of the edge with a number
abbrev pub source_rows : Query → ℕ → ℕ
source_rows query e =
    edge_rows (task_in query) (schema_in query) (state_asked query) (edge_at (edges_of (schema_in query)) e)
