-- A small task for tests: places to be at, a static link between two of them, and whether all is done.
use Rattle.std.specs.Prelude.{◌≡◌, ℕ, Bool, false, true, List, [], ◌∷◌, length, map, All}
use Rattle.std.specs.Borrow.{Bor}
use Rattle.pl_task.specs.declared.data.Atom.{Atom}
use Rattle.pl_task.specs.declared.data.GoalLiteral.{GoalLiteral}
use Rattle.pl_task.specs.declared.data.Lifted.{Lifted}
use Rattle.pl_task.specs.declared.data.ObjectDef.{ObjectDef}
use Rattle.pl_task.specs.declared.data.Parameter.{Parameter}
use Rattle.pl_task.specs.declared.data.PredicateDef.{PredicateDef}
use Rattle.pl_task.specs.declared.data.Schema.{Schema}
use Rattle.pl_task.specs.declared.data.Term.{Term}
use Rattle.pl_task.specs.declared.data.Term.TheVariants as term
use Rattle.pl_task.specs.declared.data.TypeDef.{TypeDef}
use Rattle.pl_task.specs.declared.task.Task.{Task}
use Rattle.pl_task.specs.Atoms.{atom_of}
use Rattle.pl_task.specs.WellFormed.{IsAtomOf}

-- the type that every object has
abbrev pub object : TypeDef
object = record { name = []; parents = [] }

-- an object without a name and without a declared type
abbrev pub plain : ObjectDef
plain = record { name = []; types = [] }

abbrev pub at_place : Term → Lifted
at_place t = record { predicate = 0; terms = t ∷ [] }

abbrev pub done : Lifted
done = record { predicate = 2; terms = [] }

abbrev pub at_definition : PredicateDef
at_definition = record { name = []; arity = 1; is_static = false }

abbrev pub link_definition : PredicateDef
link_definition = record { name = []; arity = 2; is_static = true }

abbrev pub done_definition : PredicateDef
done_definition = record { name = []; arity = 0; is_static = false }

abbrev pub definitions : List PredicateDef
definitions = at_definition ∷ link_definition ∷ done_definition ∷ []

abbrev pub place : Parameter
place = record { name = []; types = 0 ∷ [] }

-- from one place to another
abbrev pub hop : Schema
hop = record {
  name = [];
  parameters = place ∷ place ∷ [];
  condition = [];
  delete = at_place (term.Parameter 0) ∷ [];
  add = at_place (term.Parameter 1) ∷ [];
}

-- done, and away from a place
abbrev pub finish : Schema
finish = record {
  name = [];
  parameters = place ∷ [];
  condition = [];
  delete = at_place (term.Parameter 0) ∷ [];
  add = done ∷ [];
}

-- not done; at both places, the first of which is deleted as well
abbrev pub spread : Schema
spread = record {
  name = [];
  parameters = place ∷ place ∷ [];
  condition = [];
  delete = done ∷ at_place (term.Parameter 0) ∷ [];
  add = at_place (term.Parameter 1) ∷ at_place (term.Parameter 0) ∷ [];
}

abbrev pub schemas_of_places : List Schema
schemas_of_places = hop ∷ finish ∷ spread ∷ []

-- the literal of a goal that wants the atom true, or false
abbrev pub literal_of : ℕ → List ℕ → Bool → GoalLiteral
literal_of predicate objects wanted = record { atom = atom_of predicate objects; wanted = wanted }

-- the goal: at place 1, said twice, done, place 0 linked to 1, and 1 linked to 0 or not
abbrev pub hop_goal : Bool → List GoalLiteral
hop_goal back = literal_of 0 (1 ∷ []) true ∷ literal_of 0 (1 ∷ []) true ∷ literal_of 2 [] true ∷
    literal_of 1 (0 ∷ 1 ∷ []) true ∷ literal_of 1 (1 ∷ 0 ∷ []) back ∷ []

-- the task with so many places, in full: at first place 0 is linked to place 1, and nothing else is true
pub record IsTaskOfPlaces (count : ℕ) (back : Bool) (task : Task) : Type 0 where
  pub types : task.types ≡ object ∷ []
  pub many : length task.objects ≡ count
  pub plain_objects : All (λ (o : ObjectDef). o ≡ plain) task.objects
  pub predicates : task.predicates ≡ definitions
  pub schemas : task.schemas ≡ schemas_of_places
  pub init : task.init ≡ atom_of 1 (0 ∷ 1 ∷ []) ∷ []
  pub goal : task.goal ≡ hop_goal back

-- the atom of a case: a predicate's number and the objects' numbers
abbrev pub case_atom : ℕ × Bor (List ℕ) → Atom
case_atom case = atom_of case.0 case.1.now

-- where each case is an atom of the task, these are the atoms of the cases
abbrev pub AreAtomsOf : Task → List (ℕ × Bor (List ℕ)) → List Atom → Type 0
AreAtomsOf task cases made =
    All (λ case. IsAtomOf task.objects task.predicates (case_atom case)) cases → made ≡ map case_atom cases
