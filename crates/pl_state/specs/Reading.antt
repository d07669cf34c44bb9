-- Where the part of a predicate lies in the words.
use Rattle.std.specs.Prelude.{◌≡◌, ℕ, ◌+◌, ◌*◌, ◌≤◌, List, ◌++◌, length, take, drop, slice_index, All}
use Rattle.pl_task.specs.declared.task.Task.{Task}
use Rattle.pl_state.specs.Layout.{part_of, parts_from}
use Rattle.pl_state.specs.StateOf.{rows_in}

-- the place where the part of predicate p begins, or would begin if it were fluent
abbrev pub start_of : Task → List ℕ → ℕ → ℕ
start_of task words p = length (parts_from (rows_in task.predicates words) 0 (take p task.predicates))

-- from this place on the words have the part of these rows
pub record IsPartAt (words : List ℕ) (at arity : ℕ) (rows : List (List ℕ)) : Type 0 where
  pub split : words ≡ take at words ++ (part_of rows ++ drop (at + (1 + arity * length rows)) words)
  pub count : slice_index words at ≡ length rows
  pub whole : at + (1 + arity * slice_index words at) ≤ length words
  pub wide : All (λ row. length row ≡ arity) rows
