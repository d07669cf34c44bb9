-- Laws about states, execution and the tests, carried by the functions of the module `laws`.
use Rattle.std.specs.Prelude.{◌≡◌, ℕ, ◌↔◌, List, ◌++◌, IsTrue, Contains}
use Rattle.pl_task.specs.declared.data.Atom.{Atom}
use Rattle.pl_task.specs.declared.task.Task.{Task}
use Rattle.pl_task.specs.Instance.{Instance}
use Rattle.pl_task.specs.Types.{HasType, is_of_type}
use Rattle.pl_task.specs.States.{State, state_of, changed, IsStep, IsApplicable, is_applicable}
use Rattle.pl_task.specs.Plans.{Executes}

-- two states that agree on every atom are one state
abbrev pub AgreeingStatesAreOne : Type 0
AgreeingStatesAreOne = (s t : State) → ((a : Atom) → s a ≡ t a) → s ≡ t

-- the atoms that are true in the state of a list are its members, whatever their order and repeats
abbrev pub StatesAreSets : Type 0
StatesAreSets = (atoms : List Atom) (a : Atom) → IsTrue (state_of atoms a) ↔ Contains atoms a

-- an atom that one step deletes and adds is true afterwards
abbrev pub AddsComeLast : Type 0
AddsComeLast = (s : State) (deletes adds : List Atom) (a : Atom) → Contains adds a →
    IsTrue (changed s deletes adds a)

-- the same steps lead from a state to one state
abbrev pub ExecutionHasOneEnd : Task → Type 0
ExecutionHasOneEnd task = (s x y : State) (steps : List Instance) → Executes task s steps x →
    Executes task s steps y → x ≡ y

-- steps are executed in parts: the first ones lead to a state from which the rest is executed
abbrev pub ExecutesInParts : Task → Type 0
ExecutesInParts task = (s after : State) (first rest : List Instance) →
    Executes task s (first ++ rest) after ↔
    ((middle : State) × Executes task s first middle × Executes task middle rest after)

-- the test of a type decides it
abbrev pub TypesAreTested : Task → Type 0
TypesAreTested task = (o t : ℕ) → IsTrue (is_of_type task o t) ↔ HasType task o t

-- the test of a step decides whether it is applicable
abbrev pub StepsAreTested : Task → Type 0
StepsAreTested task = (s : State) (step : Instance) → IsTrue (is_applicable task s step) ↔
    IsApplicable task s step

-- an applicable step is a step of the task
abbrev pub ApplicableStepsAreSteps : Task → Type 0
ApplicableStepsAreSteps task = (s : State) (step : Instance) → IsApplicable task s step → IsStep task step
