-- Hopeless states by a test: the states that a search cuts.
use Rattle.std.specs.Prelude.{ℕ, Bool, true, false, not, cond, ◌&&◌, ◌||◌, ◌==◌, List, [], ◌∷◌}
use Rattle.std.specs.List.{list_all, list_any}
use Rattle.pl_task.specs.declared.data.Atom.{Atom}
use Rattle.pl_task.specs.declared.data.GoalLiteral.{GoalLiteral}
use Rattle.pl_task.specs.declared.data.Lifted.{Lifted}
use Rattle.pl_task.specs.declared.data.Schema.{Schema}
use Rattle.pl_task.specs.declared.data.Term.{Term}
use Rattle.pl_task.specs.declared.data.Term.TheVariants as term
use Rattle.pl_task.specs.declared.task.Task.{Task}
use Rattle.pl_task.specs.States.{State}
use Rattle.pl_task.specs.Goal.{is_goal_met}

-- whether each place with the parameter has the object
abbrev pub have_object : ℕ → ℕ → List Term → List ℕ → Bool
have_object n object [] objects = true
have_object n object (t ∷ terms) [] = false
have_object n object (term.Object m ∷ terms) (o ∷ objects) = have_object n object terms objects
have_object n object (term.Parameter m ∷ terms) (o ∷ objects) =
    (not (m == n) || o == object) && have_object n object terms objects

-- whether the terms could stand for the objects: a constant for itself, and a parameter for one object at
-- all its places
abbrev pub could_stand : List Term → List ℕ → Bool
could_stand [] [] = true
could_stand [] (o ∷ objects) = false
could_stand (t ∷ terms) [] = false
could_stand (term.Object n ∷ terms) (o ∷ objects) = (o == n) && could_stand terms objects
could_stand (term.Parameter n ∷ terms) (o ∷ objects) =
    have_object n o terms objects && could_stand terms objects

-- whether the effect could give the atom
abbrev pub could_give : Lifted → Atom → Bool
could_give effect atom = (effect.predicate == atom.predicate) && could_stand effect.terms atom.objects

-- whether none of the effects could give the atom
abbrev pub none_give : List Lifted → Atom → Bool
none_give effects atom = list_all (λ effect. not (could_give effect atom)) effects

-- whether the literal is not met, and no effect could change its atom
abbrev pub is_stuck : Task → State → GoalLiteral → Bool
is_stuck task s g =
    not (is_goal_met s g) && list_all (λ (schema : Schema). none_give
    (cond g.wanted schema.add schema.delete) g.atom) task.schemas

-- whether some literal of the goal is stuck
unfoldable pub is_hopeless : Task → State → Bool
is_hopeless task s = list_any (is_stuck task s) task.goal
