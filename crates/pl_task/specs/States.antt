-- Ground atoms, states, steps, when a step is applicable, and what it leads to.
use Rattle.std.specs.Prelude.{◌≡◌, ℕ, ◌<◌, ◌==◌, Bool, true, false, not, ◌||◌, ◌&&◌, IsTrue, List, [], ◌∷◌}
use Rattle.std.specs.Prelude.{map, length, Option, Some, None, slice_get, slice_index, All, Any, bytes_eq}
use Rattle.std.specs.List.{list_any, list_all}
use Rattle.pl_task.specs.declared.data.Atom.{Atom}
use Rattle.pl_task.specs.declared.data.Lifted.{Lifted}
use Rattle.pl_task.specs.declared.data.Literal.{Literal}
use Rattle.pl_task.specs.declared.data.Literal.TheVariants as literal
use Rattle.pl_task.specs.declared.data.Parameter.{Parameter}
use Rattle.pl_task.specs.declared.data.Schema.{Schema}
use Rattle.pl_task.specs.declared.data.Term.{Term}
use Rattle.pl_task.specs.declared.data.Term.TheVariants as term
use Rattle.pl_task.specs.declared.task.Task.{Task}
use Rattle.pl_task.specs.Instance.{Instance}
use Rattle.pl_task.specs.Types.{HasType, is_of_type}

-- which ground atoms are true; two states that agree on every atom are one
abbrev pub State : Type 0
State = Atom → Bool

-- whether two atoms have one predicate and the same objects
abbrev pub is_same : Atom → Atom → Bool
is_same a b = (a.predicate == b.predicate) && bytes_eq a.objects b.objects

-- the state in which these atoms are true and no others
abbrev pub state_of : List Atom → State
state_of atoms a = list_any (is_same a) atoms

-- the initial state: an atom that is not listed is false
abbrev pub initial : Task → State
initial task = state_of task.init

-- the object that a term stands for, where the parameters take these objects
abbrev pub value_of : List ℕ → Term → ℕ
value_of args (term.Parameter n) = slice_index args n
value_of args (term.Object n) = n

-- the atom with the objects put in
abbrev pub atom_at : List ℕ → Lifted → Atom
atom_at args atom = record { predicate = atom.predicate; objects = map (value_of args) atom.terms }

-- a schema of the task with an object of the task for each parameter, whatever the types are
pub record IsStep (task : Task) (step : Instance) : Type 0 where
  pub schema : Schema
  pub found : slice_get task.schemas step.schema ≡ Some schema
  pub many : length step.args ≡ length schema.parameters
  pub within : All (λ o. o < length task.objects) step.args

-- there are as many objects as parameters, and each has at least one type of its parameter
abbrev pub AreTyped : Task → List Parameter → List ℕ → Type 0
AreTyped task [] objects = objects ≡ []
AreTyped task (p ∷ parameters) [] = ⊥
AreTyped task (p ∷ parameters) (o ∷ objects) = Any (HasType task o) p.types × AreTyped task parameters objects

-- whether the literal holds in the state, with the objects put in
abbrev pub is_met : State → List ℕ → Literal → Bool
is_met s args (literal.Atom a) = s (atom_at args a)
is_met s args (literal.NotAtom a) = not (s (atom_at args a))
is_met s args (literal.Equal a b) = value_of args a == value_of args b
is_met s args (literal.NotEqual a b) = not (value_of args a == value_of args b)

-- a schema of the task whose parameters take these objects and whose precondition holds
pub record IsApplicable (task : Task) (s : State) (step : Instance) : Type 0 where
  pub schema : Schema
  pub found : slice_get task.schemas step.schema ≡ Some schema
  pub typed : AreTyped task schema.parameters step.args
  pub met : All (λ l. IsTrue (is_met s step.args l)) schema.condition

-- without the deletes, then with the adds
abbrev pub changed : State → List Atom → List Atom → State
changed s deletes adds a = state_of adds a || (s a && not (state_of deletes a))

abbrev pub changed_by : State → List ℕ → Option Schema → State
changed_by s args None = s
changed_by s args (Some schema) = changed s (map (atom_at args) schema.delete) (map (atom_at args) schema.add)

-- the state that a step leads to, applicable or not
abbrev pub result_of : Task → State → Instance → State
result_of task s step = changed_by s step.args (slice_get task.schemas step.schema)

-- Applicability as a test, for lists of steps that are filtered by it.

abbrev pub are_typed : Task → List Parameter → List ℕ → Bool
are_typed task [] [] = true
are_typed task [] (o ∷ objects) = false
are_typed task (p ∷ parameters) [] = false
are_typed task (p ∷ parameters) (o ∷ objects) = list_any (is_of_type task o) p.types &&
    are_typed task parameters objects

abbrev pub is_applicable_by : Task → State → List ℕ → Option Schema → Bool
is_applicable_by task s args None = false
is_applicable_by task s args (Some schema) = are_typed task schema.parameters args && list_all
    (is_met s args) schema.condition

abbrev pub is_applicable : Task → State → Instance → Bool
is_applicable task s step = is_applicable_by task s step.args (slice_get task.schemas step.schema)
