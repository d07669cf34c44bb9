-- What the functions that give the steps of one schema promise each other.
use Rattle.std.specs.Prelude.{◌≡◌, ◌∷◌, ℕ, ◌≤◌, length, Bool, true, false, List, [], filter, take}
use Rattle.std.specs.Prelude.{slice_index, slice_index_or, Option, Some, None, MatchOption, slice_get}
use Rattle.pl_task.specs.declared.data.Schema.{Schema}
use Rattle.pl_task.specs.declared.task.Task.{Task}
use Rattle.pl_task.specs.Instance.{Instance}
use Rattle.pl_join.specs.Relation.{Agree}
use Rattle.pl_normal.specs.Measures.{assigned}
use Rattle.pl_normal.specs.ParameterOrder.{classes_in_order}
use Rattle.pl_normal.specs.Query.{step_under}
use Rattle.pl_gen.specs.declared.query.Query.{Query}
use Rattle.pl_gen.specs.declared.turn.Turn.{Turn}
use Rattle.pl_gen.specs.declared.place.Place.{Place}
use Rattle.pl_gen.specs.Kept.{left_of, turn_steps, turn_steps_of, IsTurnOf}
use Rattle.pl_gen.specs.Queries.{state_asked}
use Rattle.pl_gen.specs.Reads.{TakesOfLocal}
use Rattle.pl_gen.specs.SchemaSteps.{passes_late}
use Rattle.pl_gen.specs.Walks.{PreparedState, WalkView, IsTurn, Gives}

-- the rows that pass of those that are left
abbrev pub passing : Query → List (List ℕ) → List (List ℕ)
passing query rows = filter (passes_late query.schema.now (state_asked query)) rows

-- there is a next row that passes, and the values are those of its classes; or there is none, and no row is
-- left
abbrev pub HasNextRow : Query → List (List ℕ) → List (List ℕ) → List ℕ → Bool → Type 0
HasNextRow query old new values false = (passing query old ≡ []) × (new ≡ [])
HasNextRow query old new values true = (row : List ℕ) × (passing query old ≡ row ∷ passing query new) ×
    Agree (classes_in_order query.schema.now) (slice_index values)
    (assigned (classes_in_order query.schema.now) row)

abbrev pub prepared_of : Query → PreparedState
prepared_of query = record { task = query.normal.now; words = query.words.now }

-- the steps of a turn of the query's schema
abbrev pub steps_of_turn : Query → Turn → List Instance
steps_of_turn query t = turn_steps_of (prepared_of query) query.number (Some query.schema.now) t

-- there is a next step, that under the values; or there is none, and none is left
abbrev pub HasNextStep : Query → Turn → Turn → List ℕ → Bool → Type 0
HasNextStep query old new values false = (steps_of_turn query old ≡ []) × (steps_of_turn query new ≡ [])
HasNextStep query old new values true =
    steps_of_turn query old ≡ step_under query.number query.schema.now
    (slice_index values) ∷ steps_of_turn query new

-- the step last given
abbrev pub step_of_place : Place → Instance
step_of_place place = record { schema = place.schema; args = take place.len place.args }

abbrev pub left_at : PreparedState → Place → List Instance
left_at p place = left_of p place.number place.turn

-- a walk that goes on gives the first of the steps that were left; one that doesn't has none left
abbrev pub WalksOn : PreparedState → Place → Place → Bool → Type 0
WalksOn p old new false = (left_at p old ≡ [])
    × ((left_at p new ≡ []) × (step_of_place new ≡ step_of_place old))
WalksOn p old new true = left_at p old ≡ step_of_place new ∷ left_at p new

-- what a walk takes where it passes no late filter: two probes for each unfixed class of the schema that
-- gives the step, and else none
abbrev pub WalksOnLocal : Task → ℕ → ℕ → ℕ → Bool → Type 0
WalksOnLocal task old new number false = new ≡ old
WalksOnLocal task old new number true = (schema : Schema) → slice_get task.schemas number ≡ Some schema
    → TakesOfLocal schema old new true

-- the turn is that of a schema of the task, or over, and a step has at most 64 objects
pub record IsPlace (task : Task) (place : Place) : Type 0 where
  pub turn : IsTurnOf task place.number place.turn
  pub number : place.number ≤ length task.schemas
  pub values : length place.values ≡ 64
  pub args : length place.args ≡ 64
  pub len : place.len ≤ 64

-- the same of a walk as its callers see it
abbrev pub GoesOn : WalkView → Bool → WalkView → Type 0
GoesOn old false new = IsTurn old None new
GoesOn old true new = MatchOption new.last ⊥ (λ step. Gives old new step)

-- of the steps of the turn the first is given, or there is none
abbrev pub TakesStep : PreparedState → Place → Place → Bool → Type 0
TakesStep p old new false = (turn_steps p old.number old.turn ≡ [])
    × ((new.number ≡ old.number) × (step_of_place new ≡ step_of_place old))
TakesStep p old new true =
    (turn_steps p old.number old.turn ≡ step_of_place new ∷ turn_steps p new.number new.turn)
    × (new.number ≡ old.number)

-- the object of a parameter: that which it is fixed to, or the value of its class
abbrev pub object_or : Option ℕ → ℕ → ℕ
object_or None value = value
object_or (Some object) value = object

abbrev pub object_at : List (Option ℕ) → List ℕ → List ℕ → ℕ → ℕ
object_at fixed classes values p = object_or (slice_index_or fixed p None)
    (slice_index values (slice_index classes p))
