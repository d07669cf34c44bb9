-- A prepared state, the steps that are applicable in it, and a walk over them as its callers see it.
use Rattle.std.specs.Prelude.{◌≡◌, ◌≤◌, ◌∷◌, ◌+◌, ◌*◌, ◌==◌, cond, ℕ, Bool, List, [], length, filter, Option}
use Rattle.std.specs.Prelude.{None, Some, slice_get, Contains}
use Rattle.std.specs.List.{sum_by}
use Rattle.std.specs.Ordering.{is_lt}
use Rattle.pl_task.specs.declared.data.Schema.{Schema}
use Rattle.pl_task.specs.declared.task.Task.{Task}
use Rattle.pl_task.specs.Instance.{Instance}
use Rattle.pl_task.specs.States.{State}
use Rattle.pl_hyper.specs.JoinTree.{IsAcyclic}
use Rattle.pl_normal.specs.Edges.{edges_of, sets_of}
use Rattle.pl_normal.specs.Filters.{late_of}
use Rattle.pl_normal.specs.Measures.{local_answers, relation_rows}
use Rattle.pl_normal.specs.ParameterOrder.{classes_in_order}
use Rattle.pl_normal.specs.StepOrder.{step_cmp}
use Rattle.pl_normal.specs.Steps.{applicable_steps}
use Rattle.pl_state.specs.StateOf.{state_in}

-- a state that is prepared: the task, and the words of the state
pub record PreparedState : Type 0 where
  pub task : Task
  pub words : List ℕ

-- the state
abbrev pub state_of_prepared : PreparedState → State
state_of_prepared prepared = state_in prepared.task prepared.words

-- the steps that are applicable in it, in step order
abbrev pub steps_in : PreparedState → List Instance
steps_in prepared = applicable_steps prepared.task (state_of_prepared prepared)

-- the step of a schema with these objects
abbrev pub step_with : ℕ → List ℕ → Instance
step_with schema args = record { schema = schema; args = args }

-- whether a step stands above another in step order
abbrev pub is_above : Task → Instance → Instance → Bool
is_above task past step = is_lt (step_cmp task past step)

-- the applicable steps above a step, which may be applicable or not
abbrev pub steps_above : PreparedState → Instance → List Instance
steps_above prepared past = filter (is_above prepared.task past) (steps_in prepared)

-- what a walk may probe for the steps of a schema: three probes for each unfixed class where it is resumed
-- there, and then for each assignment that meets all but the late filters two for each unfixed class and one
-- for each late filter
unfoldable pub schema_reads : Task → State → Schema → ℕ
schema_reads task s schema =
    3 * length (classes_in_order schema) + local_answers task s schema
    * (2 * length (classes_in_order schema) + length (late_of schema))

-- and for those of some schemas
abbrev pub reads_in : Task → State → List Schema → ℕ
reads_in task s schemas = sum_by (schema_reads task s) schemas

-- what a walk over all steps may probe
abbrev pub walk_reads : PreparedState → ℕ
walk_reads prepared = reads_in prepared.task (state_of_prepared prepared) prepared.task.schemas

-- the unfixed classes whose values are looked for where a walk is resumed at the schema: none where no edge
-- has a row
unfoldable pub sought_classes : Task → State → Schema → ℕ
sought_classes task s schema =
    cond {A = ℕ} (relation_rows task s schema == 0) 0 (length (classes_in_order schema))

-- what resuming a walk may probe: three probes for each class that is sought, of whichever schema
abbrev pub resume_reads : PreparedState → ℕ
resume_reads prepared =
    sum_by (λ schema. 3 * sought_classes prepared.task (state_of_prepared prepared) schema)
    prepared.task.schemas

-- what one step may probe where all filters are local: two probes for each unfixed class, of whichever schema
abbrev pub step_reads : Task → ℕ
step_reads task = sum_by (λ schema. 2 * length (classes_in_order schema)) task.schemas

-- all schemas of the task are acyclic
abbrev pub AreAcyclic : Task → Type 0
AreAcyclic task = (schema : Schema) → Contains task.schemas schema → IsAcyclic (sets_of (edges_of schema))

-- all filters of the schemas from one number up to, and with, another are local
abbrev pub AreLocal : Task → ℕ → ℕ → Type 0
AreLocal task first last = (number : ℕ) (schema : Schema) → first ≤ number → number ≤ last
    → slice_get task.schemas number ≡ Some schema →
    late_of schema ≡ []

-- a walk: the state, the applicable steps that are still to be given, the step last given, the number of the
-- schema that the next step is looked for in first, and how many probes the rest of the walk may take
pub record WalkView : Type 0 where
  pub prepared : PreparedState
  pub left : List Instance
  pub last : Option Instance
  pub number : ℕ
  pub reads : ℕ

-- the step that was given is the first of those that were left, and the others are left
pub record Gives (old new : WalkView) (step : Instance) : Type 0 where
  pub left : old.left ≡ step ∷ new.left
  pub last : new.last ≡ Some step
  pub prepared : new.prepared ≡ old.prepared
  pub number : new.number ≡ step.schema

-- a walk behind the last schema: nothing is left to be given or read
abbrev pub at_end : WalkView → WalkView
at_end walk = record {
  prepared = walk.prepared;
  left = [];
  last = walk.last;
  number = length walk.prepared.task.schemas;
  reads = 0;
}

-- a turn of a walk: a step is given where one is left, and else the walk is at its end
abbrev pub IsTurn : WalkView → Option Instance → WalkView → Type 0
IsTurn old None new = (old.left ≡ []) × (new ≡ at_end old)
IsTurn old (Some step) new = Gives old new step
