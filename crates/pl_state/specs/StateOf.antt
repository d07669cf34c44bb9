-- The state that words stand for: the fluent atoms that they lay out, with the static atoms of the initial
-- state.
use Rattle.std.specs.Prelude.{ℕ, zero, suc, ◌+◌, ◌*◌, Bool, false, not, List, [], ◌∷◌, drop, bytes_eq}
use Rattle.std.specs.Prelude.{slice_index, Option, Some, None, slice_get, if◌then◌else◌}
use Rattle.std.specs.List.{list_any}
use Rattle.pl_rows.specs.Rows.{rows_of}
use Rattle.pl_task.specs.declared.data.PredicateDef.{PredicateDef}
use Rattle.pl_task.specs.declared.task.Task.{Task}
use Rattle.pl_task.specs.States.{State, initial}
use Rattle.pl_state.specs.Layout.{IsLayoutOf}

-- the rows of the part that the words begin with
abbrev pub first_rows : ℕ → List ℕ → List (List ℕ)
first_rows arity words = rows_of arity (slice_index words 0) (drop 1 words)

-- the words behind this part
abbrev pub behind_first : ℕ → List ℕ → List ℕ
behind_first arity words = drop (1 + arity * slice_index words 0) words

-- the rows of predicate p, in words that have the parts of the fluent ones of these predicates
abbrev pub rows_in : List PredicateDef → List ℕ → ℕ → List (List ℕ)
rows_in [] words p = []
rows_in (d ∷ ds) words zero = if d.is_static then [] else first_rows d.arity words
rows_in (d ∷ ds) words (suc p) = rows_in ds (if d.is_static then words else behind_first d.arity words) p

abbrev pub is_fluent_one : Option PredicateDef → Bool
is_fluent_one None = false
is_fluent_one (Some d) = not d.is_static

-- whether there is a predicate with the number, and it is fluent
abbrev pub is_fluent_in : Task → ℕ → Bool
is_fluent_in task p = is_fluent_one (slice_get task.predicates p)

abbrev pub arity_one : Option PredicateDef → ℕ
arity_one None = 0
arity_one (Some d) = d.arity

-- how many objects an atom of the predicate has
abbrev pub arity_in : Task → ℕ → ℕ
arity_in task p = arity_one (slice_get task.predicates p)

-- fluent atoms as the words have them, all others as in the initial state
abbrev pub state_in : Task → List ℕ → State
state_in task words a =
    if is_fluent_in task a.predicate then list_any (bytes_eq a.objects)
    (rows_in task.predicates words a.predicate) else initial task a

-- the words are a state of the task: the layout of the state that they stand for
abbrev pub IsStateOf : Task → List ℕ → Type 0
IsStateOf task words = IsLayoutOf task (state_in task words) words
