-- The text of `successors`: the applicable steps of a state, from a place on and up to a number of them.
use Rattle.std.specs.Prelude.{ℕ, ◌+◌, ◌*◌, List, [], ◌∷◌, ◌++◌, length, take, drop, filter, flat_map, Option}
use Rattle.std.specs.Prelude.{Some, None, codes}
use Rattle.pl_task.specs.declared.task.Task.{Task}
use Rattle.pl_task.specs.Instance.{Instance}
use Rattle.pl_task.specs.States.{State}
use Rattle.pl_normal.specs.Measures.{base_bound, largest_size}
use Rattle.pl_normal.specs.Steps.{applicable_steps}
use Rattle.pl_gen.specs.Walks.{is_above}
use Rattle.pl_print.specs.Texts.{step_text}

-- the steps that are applicable in the state, in step order; where a step is given, those above it alone
abbrev pub listed_steps : Task → State → Option Instance → List Instance
listed_steps task s None = applicable_steps task s
listed_steps task s (Some past) = filter (is_above task past) (applicable_steps task s)

-- one line for each step
abbrev pub step_lines : Task → List Instance → List ℕ
step_lines task steps = flat_map (step_text task) steps

-- the last line, by the steps that are not printed
abbrev pub end_text : List Instance → List ℕ
end_text [] = codes "; end\n"
end_text (step ∷ steps) = codes "; more\n"

-- the lines of the first steps, up to a number of them where one is given, and whether there are more
abbrev pub list_text : Task → Option ℕ → List Instance → List ℕ
list_text task None steps = step_lines task steps ++ end_text []
list_text task (Some count) steps = step_lines task (take count steps) ++ end_text (drop count steps)

-- the applicable steps of a state past a step, up to a number of them
abbrev pub successors_text : Task → State → Option Instance → Option ℕ → List ℕ
successors_text task s past count = list_text task count (listed_steps task s past)

-- the first steps, up to a number of them where one is given: those whose lines `list_text` has
abbrev pub first_steps : Option ℕ → List Instance → List Instance
first_steps None steps = steps
first_steps (Some count) steps = take count steps

-- how many steps `successors_text` has a line of
abbrev pub printed_steps : Task → State → Option Instance → Option ℕ → ℕ
printed_steps task s past count = length (first_steps count (listed_steps task s past))

-- what writing that text may probe where all schemas are acyclic and all filters local: the preparation of
-- the state, and two probes for each literal and parameter of the largest schema, for each printed step and
-- one more
abbrev pub page_bound : Task → State → Option Instance → Option ℕ → ℕ
page_bound task s past count =
    base_bound task s + 2 * largest_size task * (printed_steps task s past count + 1)
