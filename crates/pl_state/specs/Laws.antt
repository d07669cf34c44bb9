-- Laws of packed states, carried by the functions of the module `laws`.
use Rattle.std.specs.Prelude.{◌≡◌, ℕ, List, true}
use Rattle.pl_task.specs.declared.data.Atom.{Atom}
use Rattle.pl_task.specs.declared.task.Task.{Task}
use Rattle.pl_task.specs.States.{State}
use Rattle.pl_state.specs.Layout.{IsLayoutOf}
use Rattle.pl_state.specs.StateOf.{is_fluent_in, state_in, IsStateOf}

-- the states agree on every fluent atom
abbrev pub AgreeOnFluents : Task → State → State → Type 0
AgreeOnFluents task s t = (a : Atom) → is_fluent_in task a.predicate ≡ true → s a ≡ t a

-- a set of fluent atoms has at most one layout
abbrev pub LayoutIsOne : Task → Type 0
LayoutIsOne task = (s t : State) (words others : List ℕ) → IsLayoutOf task s words →
    IsLayoutOf task t others →
    AgreeOnFluents task s t → words ≡ others

-- two different sets of fluent atoms have different layouts
abbrev pub LayoutTellsApart : Task → Type 0
LayoutTellsApart task = (s t : State) (words : List ℕ) → IsLayoutOf task s words → IsLayoutOf task t words →
    AgreeOnFluents task s t

-- the layout of a state's fluent atoms is a state of the task with just these
abbrev pub LayoutIsAState : Task → Type 0
LayoutIsAState task = (s : State) (words : List ℕ) → IsLayoutOf task s words →
    IsStateOf task words × AgreeOnFluents task (state_in task words) s

-- words that stand for one state are the same words
abbrev pub StatesHaveOneLayout : Task → Type 0
StatesHaveOneLayout task = (words others : List ℕ) → IsStateOf task words → IsStateOf task others →
    state_in task words ≡ state_in task others → words ≡ others
