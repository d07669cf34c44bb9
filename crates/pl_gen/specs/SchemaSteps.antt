-- The applicable steps of one schema, as the rows of its query.
use Rattle.std.specs.Prelude.{◌≡◌, ◌↔◌, ◌∷◌, ◌++◌, ◌+◌, ◌-◌, ℕ, Bool, true, false, IsTrue, List, [], length}
use Rattle.std.specs.Prelude.{map, filter, Contains, Some, slice_get, slice_index}
use Rattle.std.specs.List.{flat_map, list_all, range_with_len}
use Rattle.pl_rows.specs.Rows.{IsAscending}
use Rattle.pl_task.specs.declared.data.Schema.{Schema}
use Rattle.pl_task.specs.declared.task.Task.{Task}
use Rattle.pl_task.specs.Instance.{Instance}
use Rattle.pl_task.specs.States.{State, IsStep, is_applicable}
use Rattle.pl_join.specs.Relation.{Assignment}
use Rattle.pl_normal.specs.Edges.{edges_of}
use Rattle.pl_normal.specs.Filters.{late_of}
use Rattle.pl_normal.specs.Guards.{guards_of}
use Rattle.pl_normal.specs.Measures.{assigned}
use Rattle.pl_normal.specs.ParameterOrder.{classes_in_order}
use Rattle.pl_normal.specs.Query.{KeepsStatic, is_answer, is_local_answer, meets_guard, meets_sieve}
use Rattle.pl_normal.specs.Query.{step_under}
use Rattle.pl_normal.specs.Steps.{steps_of, applicable_steps}
use Rattle.pl_cursor.specs.Cursor.{is_past}
use Rattle.pl_gen.specs.Walks.{is_above}

-- the applicable steps of the schema with a number, in step order
unfoldable pub applicable_of : Task → State → ℕ → List Instance
applicable_of task s number = filter (is_applicable task s) (steps_of task number)

-- the step of a schema in which the unfixed classes have these objects, in class order
abbrev pub step_at : ℕ → Schema → List ℕ → Instance
step_at number schema row = step_under number schema (assigned (classes_in_order schema) row)

-- the rows are, ascending, the objects of the unfixed classes, in class order, under the assignments that
-- pass
pub record AreRowsOf (schema : Schema) (passes : Assignment → Bool) (rows : List (List ℕ)) : Type 0 where
  pub ascending : IsAscending rows
  pub members : (row : List ℕ) → Contains rows row
      ↔ ((f : Assignment) × IsTrue (passes f) × (row ≡ map f (classes_in_order schema)))

-- whether the late filters let a row pass
abbrev pub passes_late : Schema → State → List ℕ → Bool
passes_late schema s row = list_all (meets_sieve s (assigned (classes_in_order schema) row)) (late_of schema)

-- the objects that a step gives to the unfixed classes, in class order: those of the parameters that name
-- them
abbrev pub class_key : Schema → List ℕ → List ℕ
class_key schema args = map (slice_index args) (classes_in_order schema)

-- ---- laws

-- the applicable steps of a state come schema by schema
abbrev pub StepsComeBySchemas : Task → Type 0
StepsComeBySchemas task = (s : State) → applicable_steps task s ≡ flat_map (applicable_of task s)
    (range_with_len 0 (length task.schemas))

-- the steps under the ascending answers of a schema's query are its applicable steps, in order
abbrev pub RowsAreSteps : Task → Type 0
RowsAreSteps task = (number : ℕ) (schema : Schema) (s : State) (rows : List (List ℕ))
    → slice_get task.schemas number ≡ Some schema → KeepsStatic task s →
    AreRowsOf schema (is_answer task schema s) rows → applicable_of task s number ≡ map
    (step_at number schema) rows

-- the answers are those that meet all but the late filters and pass these
abbrev pub LateFiltersAreLast : Task → Type 0
LateFiltersAreLast task = (number : ℕ) (schema : Schema) (s : State) (rows : List (List ℕ))
    → slice_get task.schemas number ≡ Some schema →
    AreRowsOf schema (is_local_answer task schema s) rows
    → AreRowsOf schema (is_answer task schema s) (filter (passes_late schema s) rows)

-- where a guard is false no step of the schema is applicable
abbrev pub FalseGuardsStop : Task → Type 0
FalseGuardsStop task = (number : ℕ) (schema : Schema) (s : State)
    → slice_get task.schemas number ≡ Some schema → KeepsStatic task s →
    list_all (meets_guard s) (guards_of task schema) ≡ false → applicable_of task s number ≡ []

-- where all guards hold, a schema without edges has one applicable step, of its fixed objects
abbrev pub NoEdgeIsOneStep : Task → Type 0
NoEdgeIsOneStep task = (number : ℕ) (schema : Schema) (s : State)
    → slice_get task.schemas number ≡ Some schema → KeepsStatic task s →
    list_all (meets_guard s) (guards_of task schema) ≡ true → edges_of schema ≡ []
    → applicable_of task s number ≡ step_at number schema [] ∷ []

-- the applicable steps above a step: those of its schema that are above it, and those of all later schemas
abbrev pub StepsAboveComeBySchemas : Task → Type 0
StepsAboveComeBySchemas task = (s : State) (past : Instance) → IsStep task past →
    filter (is_above task past) (applicable_steps task s) ≡
    filter (is_above task past) (applicable_of task s past.schema)
    ++ flat_map (applicable_of task s)
    (range_with_len (past.schema + 1) (length task.schemas - (past.schema + 1)))

-- of the steps under ascending rows those above a step of the schema are those under the rows past its key;
-- the key itself counts exactly where the step under it is above
abbrev pub StepsAboveAreRowsPast : Task → Type 0
StepsAboveAreRowsPast task = (number : ℕ) (schema : Schema) (past : Instance) (rows : List (List ℕ))
    → slice_get task.schemas number ≡ Some schema →
    IsStep task past → past.schema ≡ number
    → ((row : List ℕ) → Contains rows row → length row ≡ length (classes_in_order schema)) →
    filter (is_above task past) (map (step_at number schema) rows) ≡
    map (step_at number schema)
    (filter (is_past (is_above task past (step_at number schema (class_key schema past.args)))
    (class_key schema past.args)) rows)
