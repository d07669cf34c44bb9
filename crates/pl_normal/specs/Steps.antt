-- The lists of all steps of a task and of those that are applicable in a state. Every tuple of objects is
-- tried.
use Rattle.std.specs.Prelude.{ℕ, zero, suc, ◌+◌, ◌==◌, cond, List, [], ◌∷◌, length, map, slice_index}
use Rattle.std.specs.List.{filter, flat_map, range_with_len}
use Rattle.pl_task.specs.declared.task.Task.{Task}
use Rattle.pl_task.specs.Instance.{Instance}
use Rattle.pl_task.specs.States.{State, is_applicable}
use Rattle.pl_normal.specs.ParameterOrder.{order_of}

-- all lists of so many numbers below n, in lexicographic order
abbrev pub tuples : ℕ → ℕ → List (List ℕ)
tuples n zero = [] ∷ []
tuples n (suc k) = flat_map (λ o. map (λ rest. o ∷ rest) (tuples n k)) (range_with_len 0 n)

-- the place of a number in a list, and the list's length where it isn't there
abbrev pub place_of : ℕ → List ℕ → ℕ
place_of p [] = 0
place_of p (x ∷ xs) = cond (x == p) 0 (place_of p xs + 1)

-- the objects of the parameters by their numbers, of a tuple that has them in the parameters' order
abbrev pub arranged : List ℕ → List ℕ → List ℕ
arranged order tuple = map (λ p. slice_index tuple (place_of p order)) (range_with_len 0 (length order))

abbrev pub step_of : ℕ → List ℕ → List ℕ → Instance
step_of schema order tuple = record { schema = schema; args = arranged order tuple }

-- the steps of a schema: all tuples of objects in lexicographic order, each read in the order of the
-- parameters
abbrev pub steps_of : Task → ℕ → List Instance
steps_of task schema = map (step_of schema (order_of task schema))
    (tuples (length task.objects) (length (order_of task schema)))

-- all steps of the task, schema by schema
unfoldable pub all_steps : Task → List Instance
all_steps task = flat_map (steps_of task) (range_with_len 0 (length task.schemas))

-- the steps that are applicable in a state
unfoldable pub applicable_steps : Task → State → List Instance
applicable_steps task s = filter (is_applicable task s) (all_steps task)
