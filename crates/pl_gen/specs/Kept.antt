-- What a prepared state and a walk over its steps keep.
use Rattle.std.specs.Prelude.{◌≡◌, ◌≢◌, ◌<◌, ◌+◌, ◌-◌, ◌++◌, ◌∷◌, ℕ, List, [], length, map, filter, All}
use Rattle.std.specs.Prelude.{Option, None, Some, slice_get}
use Rattle.std.specs.List.{flat_map, range_with_len}
use Rattle.pl_rows.specs.Rows.{Rows}
use Rattle.pl_task.specs.declared.data.Schema.{Schema}
use Rattle.pl_task.specs.declared.task.Task.{Task}
use Rattle.pl_task.specs.Instance.{Instance}
use Rattle.pl_cursor.specs.Cursor.{CursorView}
use Rattle.pl_normal.specs.ParameterOrder.{classes_in_order}
use Rattle.pl_state.specs.StateOf.{state_in, IsStateOf}
use Rattle.pl_state.specs.Tables.{AreTablesOf}
use Rattle.pl_gen.specs.declared.entry.Entry.{Entry}
use Rattle.pl_gen.specs.declared.turn.Turn.{Turn}
use Rattle.pl_gen.specs.declared.turn.Turn.TheVariants as turn
use Rattle.pl_gen.specs.Entries.{AreEntriesUpTo}
use Rattle.pl_gen.specs.SchemaSteps.{applicable_of, step_at, passes_late}
use Rattle.pl_gen.specs.Walks.{PreparedState, state_of_prepared}

-- the words are a state of the task, and the tables and entries are those of this state
pub record IsPrepared (task : Task) (words : List ℕ) (tables : List (Option Rows))
    (entries : List Entry) : Type 0 where
  pub state : IsStateOf task words
  pub tables_are : AreTablesOf task (state_in task words) tables
  pub entries_are : AreEntriesUpTo task (state_in task words) (length task.schemas) entries

-- the steps that a turn has still to give, where the schema with its number is this one
abbrev pub turn_steps_of : PreparedState → ℕ → Option Schema → Turn → List Instance
turn_steps_of p number None t = []
turn_steps_of p number (Some schema) turn.Over = []
turn_steps_of p number (Some schema) turn.Once = step_at number schema [] ∷ []
turn_steps_of p number (Some schema) (turn.Rows cursor) = map (step_at number schema)
    (filter (passes_late schema (state_of_prepared p)) cursor.left)

abbrev pub turn_steps : PreparedState → ℕ → Turn → List Instance
turn_steps p number t = turn_steps_of p number (slice_get p.task.schemas number) t

-- the steps of the schemas behind one
abbrev pub later_steps : PreparedState → ℕ → List Instance
later_steps p number = flat_map (applicable_of p.task (state_of_prepared p))
    (range_with_len (number + 1) (length p.task.schemas - (number + 1)))

-- the steps that are left: those of the turn of a schema, and those of the schemas behind it
abbrev pub left_of : PreparedState → ℕ → Turn → List Instance
left_of p number t = turn_steps p number t ++ later_steps p number

-- the rows that a turn reads are over the classes of its schema, in class order
pub record AreRowsFor (task : Task) (number : ℕ) (cursor : CursorView) : Type 0 where
  pub classes : (schema : Schema) → slice_get task.schemas number ≡ Some schema
      → cursor.join.classes ≡ classes_in_order schema
  pub wide : All (λ (row : List ℕ). length row ≡ length cursor.join.classes) cursor.left

-- a turn is that of a schema of the task
pub record IsTurnOf (task : Task) (number : ℕ) (t : Turn) : Type 0 where
  pub in_range : t ≢ turn.Over → number < length task.schemas
  pub once : (schema : Schema) → t ≡ turn.Once → slice_get task.schemas number ≡ Some schema
      → classes_in_order schema ≡ []
  pub rows : (cursor : CursorView) → t ≡ turn.Rows cursor → AreRowsFor task number cursor
