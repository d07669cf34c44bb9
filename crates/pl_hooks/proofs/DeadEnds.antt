-- A goal literal whose atom no effect could change stays as it is along all steps.
use Rattle.std.proofs.Common.{◌≡◌, ℕ, zero, suc, Bool, true, false, not, cond, IsTrue, List, [], ◌∷◌, map}
use Rattle.std.proofs.Common.{Some, None, Option, slice_get, Contains, All, refl, sym, ap, ◌∙◌, subst, inl}
use Rattle.std.proofs.Common.{inr}
use Rattle.std.specs.List.{list_all}
use Rattle.std.proofs.lemmas.Bool.{cases_Bool, false≢true, and_parts}
use Rattle.std.proofs.lemmas.List.{length-map}
use Rattle.std.proofs.lemmas.List.Elements.{All-contains}
use Rattle.pl_task.specs.declared.data.Atom.{Atom}
use Rattle.pl_task.specs.declared.data.GoalLiteral.{GoalLiteral}
use Rattle.pl_task.specs.declared.data.Lifted.{Lifted}
use Rattle.pl_task.specs.declared.data.Schema.{Schema}
use Rattle.pl_task.specs.declared.data.Term.{Term}
use Rattle.pl_task.specs.declared.data.Term.TheVariants as term
use Rattle.pl_task.specs.declared.task.Task.{Task}
use Rattle.pl_task.specs.Instance.{Instance}
use Rattle.pl_task.specs.States.{State, IsApplicable, state_of, value_of, atom_at, changed, changed_by}
use Rattle.pl_task.specs.States.{result_of}
use Rattle.pl_task.specs.Plans.{Executes}
use Rattle.pl_task.specs.Goal.{CouldGive, IsStuck, IsHopeless, is_goal_met}
use Rattle.pl_task.proofs.StateLemmas.{state_of-members}
use Rattle.pl_registry.specs.Cut.{ReachesNoGoal}
use Rattle.pl_registry.proofs.Lists.{Contains-nil, Contains-cons_cases, Contains-map_cases}
use Rattle.pl_registry.proofs.Lists.{Contains-cons_first, Contains-cons_rest}
use Rattle.std.proofs.lemmas.Bool.{not-true}

-- an object of a ground atom is what its term stands for
object_at : (args : List ℕ) (terms : List Term) (i : ℕ) (t : Term) → slice_get terms i ≡ Some t
    → slice_get (map (value_of args) terms) i ≡ Some (value_of args t)
object_at args [] i t h = absurd (none_some h)
  where
    none_some : None ≡ Some t → ⊥
    none_some e = cc
object_at args (x ∷ terms) zero t h = ap (some_value) h
  where
    some_value : Option Term → Option ℕ
    some_value None = None
    some_value (Some y) = Some (value_of args y)
object_at args (x ∷ terms) (suc i) t h = object_at args terms i t h

-- an effect could give each atom that it gives
gives : (args : List ℕ) (effect : Lifted) → CouldGive effect (atom_at args effect)
gives args effect = record {
  predicate = refl;
  many = sym (length-map effect.terms (value_of args));
  constants = λ i n h. object_at args effect.terms i (term.Object n) h;
  same = λ i j n h k. object_at args effect.terms i (term.Parameter n) h
      ∙ sym (object_at args effect.terms j (term.Parameter n) k);
}

-- an atom that none of the effects could give is not among those that they give
not_given : (args : List ℕ) (effects : List Lifted) (a : Atom)
    → All (λ effect. CouldGive effect a → ⊥) effects → state_of (map (atom_at args) effects) a ≡ false
not_given args effects a none = elim (cases_Bool (state_of (map (atom_at args) effects) a)) [
  | inl there ↦ (
      let (effect, m, is) = Contains-map_cases (atom_at args) effects a
      ((state_of-members (map (atom_at args) effects) a).0 there) in
      absurd (All-contains (λ e. CouldGive e a → ⊥) effects effect none m
      (subst (CouldGive effect) is (gives args effect))))
  | inr gone ↦ gone
]

-- the schema of a step is one of the task
found_member : (schemas : List Schema) (i : ℕ) (schema : Schema) → slice_get schemas i ≡ Some schema
    → Contains schemas schema
found_member [] i schema h = absurd (none_some h)
  where
    none_some : None ≡ Some schema → ⊥
    none_some e = cc
found_member (x ∷ schemas) zero schema h = subst (Contains (x ∷ schemas)) (same h)
    (Contains-cons_first x schemas)
  where
    same : Some x ≡ Some schema → x ≡ schema
    same e = cc
found_member (x ∷ schemas) (suc i) schema h = Contains-cons_rest x schemas schema
    (found_member schemas i schema h)

-- what a step leaves of an atom that no effect of the kind in question could give
kept_false : (s : State) (deletes adds : List Atom) (a : Atom) → s a ≡ false → state_of adds a ≡ false
    → changed s deletes adds a ≡ false
kept_false s deletes adds a gone none = rw (none, gone) refl

kept_true : (s : State) (deletes adds : List Atom) (a : Atom) → s a ≡ true → state_of deletes a ≡ false
    → changed s deletes adds a ≡ true
kept_true s deletes adds a there none = rw (there, none)
    (elim (cases_Bool (state_of adds a)) [ inl y ↦ rw y refl | inr n ↦ rw n refl ])

missed_unwanted : (b : Bool) → not (not b) ≡ true → b ≡ true
missed_unwanted true e = refl
missed_unwanted false e = absurd (false≢true e)

-- a stuck literal is stuck behind each step
still_stuck : (task : Task) (s : State) (g : GoalLiteral) (step : Instance) → IsApplicable task s step
    → IsStuck task s g → IsStuck task (result_of task s step) g
still_stuck task s g step able stuck = record { missed = missed; none = stuck.none }
  where
    effects_none : All (λ effect. CouldGive effect g.atom → ⊥)
        (cond g.wanted able.schema.add able.schema.delete)
    effects_none = All-contains
        (λ (schema : Schema). All (λ effect. CouldGive effect g.atom → ⊥)
        (cond g.wanted schema.add schema.delete)) task.schemas able.schema
        stuck.none (found_member task.schemas step.schema able.schema able.found)

    result_is : result_of task s step ≡ changed s (map (atom_at step.args) able.schema.delete)
        (map (atom_at step.args) able.schema.add)
    result_is = ap (changed_by s step.args) able.found

    by : (w : Bool) → g.wanted ≡ w → IsTrue (not (is_goal_met (result_of task s step) g))
    by true wanted =
        let gone : s g.atom ≡ false = not-true (s g.atom)
        (subst (λ b. not (cond b (s g.atom) (not (s g.atom))) ≡ true) wanted stuck.missed) in
        let none = not_given step.args able.schema.add g.atom
        (subst (λ b. All (λ effect. CouldGive effect g.atom → ⊥)
        (cond b able.schema.add able.schema.delete)) wanted effects_none) in
        let still : result_of task s step g.atom ≡ false =
        ap (λ (u : State). u g.atom) result_is ∙ kept_false s (map (atom_at step.args) able.schema.delete)
        (map (atom_at step.args) able.schema.add) g.atom gone none in
        subst (λ b. not (cond b (result_of task s step g.atom) (not (result_of task s step g.atom))) ≡ true)
        (sym wanted) (ap not still)
    by false unwanted =
        let there : s g.atom ≡ true = missed_unwanted (s g.atom)
        (subst (λ b. not (cond b (s g.atom) (not (s g.atom))) ≡ true) unwanted stuck.missed) in
        let none = not_given step.args able.schema.delete g.atom
        (subst (λ b. All (λ effect. CouldGive effect g.atom → ⊥)
        (cond b able.schema.add able.schema.delete)) unwanted effects_none) in
        let still : result_of task s step g.atom ≡ true =
        ap (λ (u : State). u g.atom) result_is ∙ kept_true s (map (atom_at step.args) able.schema.delete)
        (map (atom_at step.args) able.schema.add) g.atom there none in
        subst (λ b. not (cond b (result_of task s step g.atom) (not (result_of task s step g.atom))) ≡ true)
        (sym unwanted) (ap (λ b. not (not b)) still)

    missed : IsTrue (not (is_goal_met (result_of task s step) g))
    missed = by g.wanted refl

stuck_along : (task : Task) (s last : State) (g : GoalLiteral) (steps : List Instance)
    → Executes task s steps last → IsStuck task s g → IsStuck task last g
stuck_along task s last g [] runs stuck = subst (λ t. IsStuck task t g) runs stuck
stuck_along task s last g (step ∷ steps) runs stuck = stuck_along task
    (result_of task s step) last g steps runs.1 (still_stuck task s g step runs.0 stuck)

all_met : (s : State) (goal : List GoalLiteral) (g : GoalLiteral) → Contains goal g
    → list_all (is_goal_met s) goal ≡ true → is_goal_met s g ≡ true
all_met s [] g has all = absurd (Contains-nil g has)
all_met s (x ∷ goal) g has all =
    let parts = and_parts (is_goal_met s x) (list_all (is_goal_met s) goal) all in
    elim (Contains-cons_cases x goal g has) [
      | inl e ↦ sym (ap (is_goal_met s) e) ∙ parts.0
      | inr rest ↦ all_met s goal g rest parts.1
    ]

-- no goal state is reached from a hopeless state
pub hopeless_reaches_no_goal : (task : Task) (s : State) → IsHopeless task s → ReachesNoGoal task s
hopeless_reaches_no_goal task s (k, g, l, is, stuck) steps last runs goal =
    let end = stuck_along task s last g steps runs stuck in
    let met = all_met last task.goal g (k, l, is) goal in
    false≢true (rw met at end.missed)
