-- The query of a schema in a state, as the functions that answer it know it.
use Rattle.std.specs.Prelude.{◌≡◌, Some, slice_get}
use Rattle.pl_task.specs.declared.data.Schema.{Schema}
use Rattle.pl_task.specs.declared.task.Task.{Task}
use Rattle.pl_task.specs.States.{State}
use Rattle.pl_state.specs.StateOf.{state_in, IsStateOf}
use Rattle.pl_state.specs.Tables.{AreTablesOf}
use Rattle.pl_gen.specs.declared.query.Query.{Query}

-- the task, the state and the schema that a query is about
abbrev pub task_in : Query → Task
task_in query = query.normal.now

abbrev pub state_asked : Query → State
state_asked query = state_in query.normal.now query.words.now

abbrev pub schema_in : Query → Schema
schema_in query = query.schema.now

-- the query is that of a schema of the task, and has the tables of the state
pub record IsQuery (query : Query) : Type 0 where
  pub state : IsStateOf query.normal.now query.words.now
  pub tables : AreTablesOf query.normal.now (state_in query.normal.now query.words.now) query.tables.now
  pub found : slice_get query.normal.now.schemas query.number ≡ Some query.schema.now
