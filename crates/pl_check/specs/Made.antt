-- The parts of a task before it is made, as the sections of both files state them.
use Rattle.std.specs.Prelude.{◌≡◌, ℕ, false, List, ◌++◌, map, codes}
use Rattle.pl_task.specs.declared.data.Atom.{Atom}
use Rattle.pl_task.specs.declared.data.GoalLiteral.{GoalLiteral}
use Rattle.pl_task.specs.declared.data.ObjectDef.{ObjectDef}
use Rattle.pl_task.specs.declared.data.PredicateDef.{PredicateDef}
use Rattle.pl_task.specs.declared.data.Schema.{Schema}
use Rattle.pl_task.specs.declared.data.TypeDef.{TypeDef}
use Rattle.pl_task.specs.declared.task.Task.{Task}
use Rattle.pl_task.specs.WellFormed.{AreTypes, AreObjects, ArePredicates, AreSchemas, AreInitial, IsGoalOf}
use Rattle.pl_text.specs.Trees.{Tree}
use Rattle.pl_check.specs.Known.{Known, first_section}
use Rattle.pl_check.specs.Stated.{type_of, object_of}
use Rattle.pl_check.specs.TypedLists.{typed_items}

-- the types that a domain states
abbrev pub stated_types : List ℕ → List Tree → Known → List TypeDef
stated_types domain sections known =
    map (type_of known.types (typed_items domain false (first_section domain (codes ":types") sections)))
    known.types

-- the objects that both files state
abbrev pub stated_objects : List ℕ → List Tree → List ℕ → List Tree → Known → List ObjectDef
stated_objects domain domain_sections problem problem_sections known =
    map (object_of known.types
    (typed_items domain false (first_section domain (codes ":constants") domain_sections) ++
    typed_items problem false (first_section problem (codes ":objects") problem_sections))) known.objects

-- these are well formed as the parts of one task
pub record AreParts (types : List TypeDef) (objects : List ObjectDef) (predicates : List PredicateDef)
    (schemas : List Schema) (init : List Atom) (goal : List GoalLiteral) : Type 0 where
  pub types_ok : AreTypes types
  pub objects_ok : AreObjects types objects
  pub predicates_ok : ArePredicates schemas predicates
  pub schemas_ok : AreSchemas types objects predicates schemas
  pub init_ok : AreInitial objects predicates init
  pub goal_ok : IsGoalOf objects predicates goal

-- the task has these parts
pub record IsOfParts (types : List TypeDef) (objects : List ObjectDef) (predicates : List PredicateDef)
    (schemas : List Schema) (init : List Atom) (goal : List GoalLiteral) (task : Task) : Type 0 where
  pub types_are : task.types ≡ types
  pub objects_are : task.objects ≡ objects
  pub predicates_are : task.predicates ≡ predicates
  pub schemas_are : task.schemas ≡ schemas
  pub init_is : task.init ≡ init
  pub goal_is : task.goal ≡ goal
