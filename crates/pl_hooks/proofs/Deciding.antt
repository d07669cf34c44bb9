-- The test of hopeless states decides which states are hopeless.
use Rattle.std.proofs.Common.{◌≡◌, ◌↔◌, ◌⊎◌, ℕ, zero, suc, Bool, true, false, not, cond, ◌||◌, ◌==◌, IsTrue}
use Rattle.std.proofs.Common.{List, [], ◌∷◌, length, get_or, Some, None, slice_get, All, refl, sym, ap, ◌∙◌}
use Rattle.std.proofs.Common.{inl, inr, arith, eqb-true, eq-eqb}
use Rattle.std.specs.List.{list_all}
use Rattle.std.proofs.lemmas.Bool.{and_parts, and_from, or_cases, false≢true, cases_Bool}
use Rattle.std.proofs.lemmas.List.Folds.{Any-from_list_any, list_any-from_Any}
use Rattle.std.proofs.lemmas.List.Sums.{AllPass-from_list_all, list_all-from_AllPass}
use Rattle.pl_task.specs.declared.data.Atom.{Atom}
use Rattle.pl_task.specs.declared.data.GoalLiteral.{GoalLiteral}
use Rattle.pl_task.specs.declared.data.Lifted.{Lifted}
use Rattle.pl_task.specs.declared.data.Schema.{Schema}
use Rattle.pl_task.specs.declared.data.Term.{Term}
use Rattle.pl_task.specs.declared.data.Term.TheVariants as term
use Rattle.pl_task.specs.declared.task.Task.{Task}
use Rattle.pl_task.specs.States.{State}
use Rattle.pl_task.specs.Goal.{is_goal_met, CouldGive, IsStuck, IsHopeless}
use Rattle.pl_hooks.specs.Hopeless.{have_object, could_stand, could_give, none_give, is_stuck, is_hopeless}
use Rattle.std.proofs.lemmas.Bool.{not-true}

not_from : (b : Bool) → (b ≡ true → ⊥) → not b ≡ true
not_from true none = absurd (none refl)
not_from false none = refl

parameter_same : (m n : ℕ) → Some (term.Parameter m) ≡ Some (term.Parameter n) → m ≡ n
parameter_same m n e = cc

object_same : (m n : ℕ) → Some (term.Object m) ≡ Some (term.Object n) → m ≡ n
object_same m n e = cc

other_terms : (m n : ℕ) → Some (term.Object m) ≡ Some (term.Parameter n) → ⊥
other_terms m n e = cc

-- ---- one parameter

-- at each place with the parameter there is the object
abbrev HasAt : ℕ → ℕ → List Term → List ℕ → Type 0
HasAt n object terms objects = (j : ℕ) → slice_get terms j ≡ Some (term.Parameter n) →
    slice_get objects j ≡ Some object

have_object-sound : (n object : ℕ) (terms : List Term) (objects : List ℕ) →
    have_object n object terms objects ≡ true → HasAt n object terms objects
have_object-sound n object [] objects h j at = absurd (nothing at)
  where
    nothing : None ≡ Some (term.Parameter n) → ⊥
    nothing e = cc
have_object-sound n object (t ∷ terms) [] h j at = absurd (false≢true h)
have_object-sound n object (term.Object m ∷ terms) (o ∷ objects) h zero at = absurd (other_terms m n at)
have_object-sound n object (term.Object m ∷ terms) (o ∷ objects) h (suc j) at =
    have_object-sound n object terms objects h j at
have_object-sound n object (term.Parameter m ∷ terms) (o ∷ objects) h zero at =
    let parts = and_parts (not (m == n) || o == object) (have_object n object terms objects) h in
    elim (or_cases (not (m == n)) (o == object) parts.0) [
      | inl other ↦ absurd (false≢true (sym (not-true (m == n) other) ∙ eq-eqb m n (parameter_same m n at)))
      | inr same ↦ ap Some (eqb-true o object same)
    ]
have_object-sound n object (term.Parameter m ∷ terms) (o ∷ objects) h (suc j) at =
    have_object-sound n object terms objects
    (and_parts (not (m == n) || o == object) (have_object n object terms objects) h).1 j at

have_object-from : (n object : ℕ) (terms : List Term) (objects : List ℕ) → length terms ≡ length objects →
    HasAt n object terms objects → have_object n object terms objects ≡ true
have_object-from n object [] objects many has = refl
have_object-from n object (t ∷ terms) [] many has = absurd (omega (arith, many))
have_object-from n object (term.Object m ∷ terms) (o ∷ objects) many has =
    have_object-from n object terms objects (omega (arith, many)) (λ j at. has (suc j) at)
have_object-from n object (term.Parameter m ∷ terms) (o ∷ objects) many has =
    and_from (not (m == n) || o == object) (have_object n object terms objects) (first (cases_Bool (m == n)))
    (have_object-from n object terms objects (omega (arith, many)) (λ j at. has (suc j) at))
  where
    some_same : (a b : ℕ) → Some a ≡ Some b → a ≡ b
    some_same a b e = cc

    first : ((m == n) ≡ true) ⊎ ((m == n) ≡ false) → (not (m == n) || o == object) ≡ true
    first (inl same) = rw same (eq-eqb o object
        (some_same o object (has 0 (ap (λ k. Some (term.Parameter k)) (eqb-true m n same)))))
    first (inr other) = rw other refl

-- ---- the terms of an effect

-- a term for each object: constants are there, and equal parameters have equal objects
record Stand (terms : List Term) (objects : List ℕ) : Type 0 where
  many : length terms ≡ length objects
  constants : (i n : ℕ) → slice_get terms i ≡ Some (term.Object n) → slice_get objects i ≡ Some n
  same : (i j n : ℕ) → slice_get terms i ≡ Some (term.Parameter n) →
      slice_get terms j ≡ Some (term.Parameter n) → slice_get objects i ≡ slice_get objects j

could_stand-sound : (terms : List Term) (objects : List ℕ) → could_stand terms objects ≡ true →
    Stand terms objects
could_stand-sound [] [] h = record {
  many = refl;
  constants =
      λ i n at. absurd (nothing (term.Object n) at);
  same = λ i j n at to. refl;
}
  where
    nothing : (t : Term) → None ≡ Some t → ⊥
    nothing t e = cc
could_stand-sound [] (o ∷ objects) h = absurd (false≢true h)
could_stand-sound (t ∷ terms) [] h = absurd (false≢true h)
could_stand-sound (term.Object n ∷ terms) (o ∷ objects) h =
    let parts = and_parts (o == n) (could_stand terms objects) h in
    let rest = could_stand-sound terms objects parts.1 in
    record {
      many = omega (arith, rest.many);
      constants = constants (eqb-true o n parts.0) rest;
      same =
          same rest;
    }
  where
    constants : o ≡ n → Stand terms objects → (i k : ℕ) →
        slice_get (term.Object n ∷ terms) i ≡ Some (term.Object k) → slice_get (o ∷ objects) i ≡ Some k
    constants is rest zero k at = ap Some (is ∙ object_same n k at)
    constants is rest (suc i) k at = rest.constants i k at

    same : Stand terms objects → (i j k : ℕ) →
        slice_get (term.Object n ∷ terms) i ≡ Some (term.Parameter k) →
        slice_get (term.Object n ∷ terms) j ≡ Some (term.Parameter k) →
        slice_get (o ∷ objects) i ≡ slice_get (o ∷ objects) j
    same rest zero j k at to = absurd (other_terms n k at)
    same rest (suc i) zero k at to = absurd (other_terms n k to)
    same rest (suc i) (suc j) k at to = rest.same i j k at to
could_stand-sound (term.Parameter n ∷ terms) (o ∷ objects) h =
    let parts = and_parts (have_object n o terms objects) (could_stand terms objects) h in
    let rest = could_stand-sound terms objects parts.1 in
    record {
      many = omega (arith, rest.many);
      constants = constants rest;
      same =
          same (have_object-sound n o terms objects parts.0) rest;
    }
  where
    constants : Stand terms objects → (i k : ℕ) →
        slice_get (term.Parameter n ∷ terms) i ≡ Some (term.Object k) → slice_get (o ∷ objects) i ≡ Some k
    constants rest zero k at = absurd (other_terms k n (sym at))
    constants rest (suc i) k at = rest.constants i k at

    same : HasAt n o terms objects → Stand terms objects → (i j k : ℕ) →
        slice_get (term.Parameter n ∷ terms) i ≡ Some (term.Parameter k) →
        slice_get (term.Parameter n ∷ terms) j ≡ Some (term.Parameter k) →
        slice_get (o ∷ objects) i ≡ slice_get (o ∷ objects) j
    same has rest zero zero k at to = refl
    same has rest zero (suc j) k at to =
        sym (has j (to ∙ sym (ap (λ p. Some (term.Parameter p)) (parameter_same n k at))))
    same has rest (suc i) zero k at to =
        has i (at ∙ sym (ap (λ p. Some (term.Parameter p)) (parameter_same n k to)))
    same has rest (suc i) (suc j) k at to = rest.same i j k at to

could_stand-from : (terms : List Term) (objects : List ℕ) → Stand terms objects →
    could_stand terms objects ≡ true
could_stand-from [] [] h = refl
could_stand-from [] (o ∷ objects) h = absurd (let m = h.many in omega (arith, m))
could_stand-from (t ∷ terms) [] h = absurd (let m = h.many in omega (arith, m))
could_stand-from (term.Object n ∷ terms) (o ∷ objects) h =
    and_from (o == n) (could_stand terms objects) (eq-eqb o n (some_same o n (h.constants 0 n refl)))
    (could_stand-from terms objects (record {
      many = (let m = h.many in omega (arith, m));
      constants = λ i k at. h.constants (suc i) k at;
      same = λ i j k at to. h.same (suc i) (suc j) k at to;
    }))
  where
    some_same : (a b : ℕ) → Some a ≡ Some b → a ≡ b
    some_same a b e = cc
could_stand-from (term.Parameter n ∷ terms) (o ∷ objects) h =
    and_from (have_object n o terms objects) (could_stand terms objects)
    (have_object-from n o terms objects (let m = h.many in omega (arith, m))
    (λ j at. sym (h.same 0 (suc j) n refl at))) (could_stand-from terms objects (record {
      many = (let m = h.many in omega (arith, m));
      constants = λ i k at. h.constants (suc i) k at;
      same = λ i j k at to. h.same (suc i) (suc j) k at to;
    }))

-- ---- effects, literals and states

could_give-sound : (effect : Lifted) (atom : Atom) → could_give effect atom ≡ true → CouldGive effect atom
could_give-sound effect atom h =
    let parts = and_parts (effect.predicate == atom.predicate) (could_stand effect.terms atom.objects) h in
    let stand = could_stand-sound effect.terms atom.objects parts.1 in
    record {
      predicate = eqb-true effect.predicate atom.predicate parts.0;
      many = stand.many;
      constants =
          stand.constants;
      same = stand.same;
    }

could_give-from : (effect : Lifted) (atom : Atom) → CouldGive effect atom → could_give effect atom ≡ true
could_give-from effect atom h =
    and_from (effect.predicate == atom.predicate) (could_stand effect.terms atom.objects)
    (eq-eqb effect.predicate atom.predicate h.predicate)
    (could_stand-from effect.terms atom.objects
    (record { many = h.many; constants = h.constants; same = h.same }))

abbrev NoneGive : List Lifted → Atom → Type 0
NoneGive effects atom = All (λ effect. CouldGive effect atom → ⊥) effects

none_give-sound : (effects : List Lifted) (atom : Atom) → none_give effects atom ≡ true →
    NoneGive effects atom
none_give-sound effects atom h k d l could =
    false≢true (sym (not-true (could_give (get_or effects k d) atom)
    (AllPass-from_list_all (λ effect. not (could_give effect atom)) effects h k d l))
    ∙ could_give-from (get_or effects k d) atom could)

none_give-from : (effects : List Lifted) (atom : Atom) → NoneGive effects atom → none_give effects atom ≡ true
none_give-from effects atom none =
    list_all-from_AllPass (λ effect. not (could_give effect atom)) effects
    (λ k d l. not_from (could_give (get_or effects k d) atom)
    (λ could. none k d l (could_give-sound (get_or effects k d) atom could)))

stuck_sound : (task : Task) (s : State) (g : GoalLiteral) → is_stuck task s g ≡ true → IsStuck task s g
stuck_sound task s g h =
    let parts = and_parts (not (is_goal_met s g))
    (list_all (λ (schema : Schema). none_give (cond g.wanted schema.add schema.delete) g.atom)
    task.schemas) h in
    record {
      missed = parts.0;
      none = λ k d l. none_give-sound (cond g.wanted (get_or task.schemas k d).add
          (get_or task.schemas k d).delete) g.atom
          (AllPass-from_list_all (λ (schema : Schema). none_give
          (cond g.wanted schema.add schema.delete) g.atom) task.schemas parts.1 k d l);
    }

stuck_from : (task : Task) (s : State) (g : GoalLiteral) → IsStuck task s g → is_stuck task s g ≡ true
stuck_from task s g h =
    and_from (not (is_goal_met s g)) (list_all
    (λ (schema : Schema). none_give (cond g.wanted schema.add schema.delete) g.atom) task.schemas)
    h.missed
    (list_all-from_AllPass (λ (schema : Schema). none_give (cond g.wanted schema.add schema.delete) g.atom)
    task.schemas
    (λ k d l. none_give-from (cond g.wanted (get_or task.schemas k d).add (get_or task.schemas k d).delete)
    g.atom (h.none k d l)))

pub is_hopeless-decides : (task : Task) (s : State) → IsTrue (is_hopeless task s) ↔ IsHopeless task s
unfolding is_hopeless
is_hopeless-decides task s = (
  (λ h. (let (k, g, within, is, stuck) =
      Any-from_list_any (is_stuck task s) task.goal h in (k, g, within, is, stuck_sound task s g stuck))),
  (λ (k, g, within, is, stuck). list_any-from_Any (is_stuck task s) task.goal
      (k, g, within, is, stuck_from task s g stuck)),
)
