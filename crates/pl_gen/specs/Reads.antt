-- How many probes the rest of a walk may take.
use Rattle.std.specs.Prelude.{◌≡◌, ◌≤◌, ◌+◌, ◌*◌, ℕ, Bool, true, false, length, drop, Option, None, Some}
use Rattle.std.specs.Prelude.{slice_get}
use Rattle.pl_task.specs.declared.data.Schema.{Schema}
use Rattle.pl_normal.specs.Filters.{late_of}
use Rattle.pl_normal.specs.ParameterOrder.{classes_in_order}
use Rattle.pl_gen.specs.declared.turn.Turn.{Turn}
use Rattle.pl_gen.specs.declared.turn.Turn.TheVariants as turn
use Rattle.pl_gen.specs.declared.place.Place.{Place}
use Rattle.pl_gen.specs.Walks.{PreparedState, state_of_prepared, reads_in}

-- two probes for each unfixed class, and one for each late filter: what a row and its test may take
abbrev pub row_reads : Schema → ℕ
row_reads schema = 2 * length (classes_in_order schema) + length (late_of schema)

-- what the rows that a turn has still to read may take, where its schema is this one
abbrev pub turn_reads_of : Option Schema → Turn → ℕ
turn_reads_of None t = 0
turn_reads_of (Some schema) turn.Over = 0
turn_reads_of (Some schema) turn.Once = 0
turn_reads_of (Some schema) (turn.Rows cursor) = length cursor.left * row_reads schema

-- what a turn of the schema with a number may still take, and the schemas behind it
abbrev pub reads_of : PreparedState → ℕ → Turn → ℕ
reads_of p number t = turn_reads_of (slice_get p.task.schemas number) t + reads_in p.task
    (state_of_prepared p) (drop (number + 1) p.task.schemas)

abbrev pub reads_at : PreparedState → Place → ℕ
reads_at p place = reads_of p place.number place.turn

-- what a turn may take of a schema without late filters: two probes for each unfixed class where it gives a
-- step, and else none
abbrev pub TakesOfLocal : Schema → ℕ → ℕ → Bool → Type 0
TakesOfLocal schema old new false = new ≡ old
TakesOfLocal schema old new true = new ≤ old + 2 * length (classes_in_order schema)
