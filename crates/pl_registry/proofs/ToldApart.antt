-- Two states of a task that are reached are one or they are not: only atoms that some step names can differ,
-- and these are finitely many. All others are as in the initial state, so finitely many can be true at all.
use Rattle.std.proofs.Common.{◌≡◌, ◌≢◌, ◌⊎◌, ℕ, Bool, true, false, not, ◌&&◌, ◌||◌, List, [], ◌∷◌, ◌++◌, map}
use Rattle.std.proofs.Common.{Option, None, Some, slice_get, Contains, refl, sym, ap, ◌∙◌, subst, IsTrue, inl}
use Rattle.std.proofs.Common.{inr}
use Rattle.std.specs.List.{list_any, flat_map}
use Rattle.std.proofs.lemmas.Bool.{cases_Bool, false≢true}
use Rattle.std.proofs.lemmas.List.Elements.{Contains-append_left, Contains-append_right}
use Rattle.std.proofs.lemmas.List.Folds.{list_any-append}
use Rattle.pl_task.specs.declared.data.Atom.{Atom}
use Rattle.pl_task.specs.declared.data.Schema.{Schema}
use Rattle.pl_task.specs.declared.task.Task.{Task}
use Rattle.pl_task.specs.Instance.{Instance}
use Rattle.pl_task.specs.States.{State, is_same, state_of, initial, atom_at, changed_by, result_of}
use Rattle.pl_task.specs.States.{is_applicable}
use Rattle.pl_task.proofs.StateLemmas.{state_of-members, agreeing_states}
use Rattle.pl_normal.specs.Steps.{all_steps, applicable_steps}
use Rattle.pl_registry.specs.StateSpace.{LeadsTo, space_of}
use Rattle.pl_registry.proofs.Lists.{Contains-nil, Contains-cons_cases, Contains-from_filter}
use Rattle.pl_registry.proofs.Running.{AreToldApart, IsReached}
use Rattle.std.proofs.lemmas.Bool.{or_parts}
use Rattle.std.proofs.Math.Bool.{and-true}

-- the atoms that a step deletes or adds
abbrev effects_by : List ℕ → Option Schema → List Atom
effects_by args None = []
effects_by args (Some schema) = map (atom_at args) schema.delete ++ map (atom_at args) schema.add

abbrev effects_of : Task → Instance → List Atom
effects_of task step = effects_by step.args (slice_get task.schemas step.schema)

-- the atoms that some step of the task deletes or adds
abbrev pub touched : Task → List Atom
touched task = flat_map (effects_of task) (all_steps task)

-- the state is the initial one but for atoms of the list
abbrev IsBut : List Atom → State → State → Type 0
IsBut atoms first s = (a : Atom) → state_of atoms a ≡ false → s a ≡ first a

-- what no element of a joined list passes, none of its parts has
any_of_part : (p : Atom → Bool) (f : Instance → List Atom) (xs : List Instance) (x : Instance) → Contains xs x
    → list_any p (flat_map f xs) ≡ false → list_any p (f x) ≡ false
any_of_part p f [] x has none = absurd (Contains-nil x has)
any_of_part p f (y ∷ xs) x has none =
    let parts = or_parts (list_any p (f y)) (list_any p (flat_map f xs))
    (sym (list_any-append p (f y) (flat_map f xs)) ∙ none) in
    elim (Contains-cons_cases y xs x has) [
      | inl e ↦ ap (λ z. list_any p (f z)) (sym e) ∙ parts.0
      | inr rest ↦ any_of_part p f xs x rest parts.1
    ]

-- a step changes no atom but its own
changed_but : (s : State) (args : List ℕ) (found : Option Schema) (a : Atom)
    → state_of (effects_by args found) a ≡ false → changed_by s args found a ≡ s a
changed_but s args None a none = refl
changed_but s args (Some schema) a none =
    let deletes = map (atom_at args) schema.delete in
    let adds = map (atom_at args) schema.add in
    let parts = or_parts (state_of deletes a) (state_of adds a)
    (sym (list_any-append (is_same a) deletes adds) ∙ none) in
    (λ i. parts.1 i || (s a && not (parts.0 i))) ∙ and-true (s a)

applicable_is_listed : (task : Task) (s : State) (step : Instance) → Contains (applicable_steps task s) step
    → Contains (all_steps task) step
unfolding applicable_steps
applicable_is_listed task s step has =
    (Contains-from_filter (is_applicable task s) (all_steps task) step has).0

step_but : (task : Task) (first s : State) (step : Instance) → Contains (applicable_steps task s) step
    → IsBut (touched task) first s →
    IsBut (touched task) first (result_of task s step)
step_but task first s step of but a none =
    changed_but s step.args (slice_get task.schemas step.schema) a
    (any_of_part (is_same a) (effects_of task) (all_steps task) step
    (applicable_is_listed task s step of) none)
    ∙ but a none

reached_but : (task : Task) (first s t : State) (steps : List Instance) → IsBut (touched task) first s
    → LeadsTo (space_of task) s steps t → IsBut (touched task) first t
reached_but task first s t [] but leads = subst (IsBut (touched task) first) leads but
reached_but task first s t (step ∷ steps) but leads = reached_but task first (result_of task s step) t steps
    (step_but task first s step leads.0 but) leads.1

bool_same_or_not : (a b : Bool) → (a ≡ b) ⊎ (a ≢ b)
bool_same_or_not true true = inl refl
bool_same_or_not false false = inl refl
bool_same_or_not true false = inr (λ e. false≢true (sym e))
bool_same_or_not false true = inr false≢true

agree_or_not : (s t : State) (atoms : List Atom) → ((a : Atom) → Contains atoms a → s a ≡ t a) ⊎ (s ≢ t)
agree_or_not s t [] = inl (λ a has. absurd (Contains-nil a has))
agree_or_not s t (x ∷ atoms) = elim (bool_same_or_not (s x) (t x)) [
  | inr other ↦ inr (λ e. other (ap (λ (u : State). u x) e))
  | inl same ↦ elim (agree_or_not s t atoms) [
    | inr other ↦ inr other
    | inl all ↦ inl (λ a has. elim (Contains-cons_cases x atoms a has) [
      | inl e ↦ subst (λ z. s z ≡ t z) e same
      | inr rest ↦ all a rest
    ])
  ]
]

same_or_not : (first s t : State) (atoms : List Atom) → IsBut atoms first s → IsBut atoms first t → (s ≡ t)
    ⊎ (s ≢ t)
same_or_not first s t atoms one two = elim (agree_or_not s t atoms) [
  | inr other ↦ inr other
  | inl all ↦ inl (agreeing_states s t (λ a. elim (cases_Bool (state_of atoms a)) [
    | inl there ↦ all a ((state_of-members atoms a).0 there)
    | inr gone ↦ one a gone ∙ sym (two a gone)
  ]))
]

pub told_apart : (task : Task) → AreToldApart (space_of task)
told_apart task s t (steps, leads) (others, also) =
    let start : IsBut (touched task) (initial task) (initial task) = λ a none. refl in
    same_or_not (initial task) s t (touched task)
    (reached_but task (initial task) (initial task) s steps start leads)
    (reached_but task (initial task) (initial task) t others start also)

-- an atom that is true in a state that is reached was so at first, or some step names it
pub true_within : (task : Task) (s : State) → IsReached (space_of task) s → (a : Atom) → IsTrue (s a) →
    Contains (task.init ++ touched task) a
true_within task s (steps, leads) a is = elim (cases_Bool (state_of (touched task) a)) [
  | inl there ↦ Contains-append_right task.init (touched task) a ((state_of-members (touched task) a).0 there)
  | inr gone ↦ Contains-append_left task.init (touched task) a ((state_of-members task.init a).0
      (sym (reached_but task (initial task) (initial task) s steps (λ b none. refl) leads a gone) ∙ is))
]
