-- The task that two files without a fault state. All things are numbered by first appearance.
use Rattle.std.specs.Prelude.{◌≡◌, ◌+◌, ℕ, Bool, false, not, ◌==◌, List, [], ◌∷◌, ◌++◌, map, filter, length}
use Rattle.std.specs.Prelude.{drop, codes, bytes_eq, Option, Some, None}
use Rattle.std.specs.List.{flat_map, filter_map}
use Rattle.pl_names.specs.Names.{number_among}
use Rattle.pl_task.specs.declared.data.Atom.{Atom}
use Rattle.pl_task.specs.declared.data.GoalLiteral.{GoalLiteral}
use Rattle.pl_task.specs.declared.data.ObjectDef.{ObjectDef}
use Rattle.pl_task.specs.declared.data.Parameter.{Parameter}
use Rattle.pl_task.specs.declared.data.PredicateDef.{PredicateDef}
use Rattle.pl_task.specs.declared.data.Schema.{Schema}
use Rattle.pl_task.specs.declared.data.TypeDef.{TypeDef}
use Rattle.pl_task.specs.declared.task.Task.{Task}
use Rattle.pl_task.specs.States.{is_same}
use Rattle.pl_task.specs.WellFormed.{is_fluent}
use Rattle.pl_text.specs.Trees.{Tree, Trees, members}
use Rattle.pl_text.specs.Words.{folded}
use Rattle.pl_check.specs.TypedLists.{Item, type_numbers, typed_items}
use Rattle.pl_check.specs.Known.{Known, sections, first_section, sections_of, all_after}
use Rattle.pl_check.specs.Sections.{problem_scope}
use Rattle.pl_check.specs.Literals.{literals_of, added, deleted, ground_atom, wanted}
use Rattle.pl_check.specs.Actions.{action_name, action_scope, parameter_elements, keyed_literals, pairs}
use Rattle.pl_check.specs.FirstFault.{AreRead, known_in, faults_of}

-- the numbers of the types of all items of this name, in their order
abbrev pub types_of : List (List ℕ) → List Item → List ℕ → List ℕ
types_of types list name = flat_map (λ (i : Item). type_numbers types i.types)
    (filter (λ (i : Item). bytes_eq i.name name) list)

-- a type under all types that stand after `-` in its declarations
abbrev pub type_of : List (List ℕ) → List Item → List ℕ → TypeDef
type_of types list name = record { name = name; parents = types_of types list name }

-- an object with the types of all its declarations
abbrev pub object_of : List (List ℕ) → List Item → List ℕ → ObjectDef
object_of types list name = record { name = name; types = types_of types list name }

-- a parameter with the types of its group
abbrev pub parameter_of : List (List ℕ) → Item → Parameter
parameter_of types item = record { name = item.name; types = type_numbers types item.types }

-- the schema of this name that pairs of keys and values state
abbrev pub schema_of : List ℕ → Known → List ℕ → List Tree → Schema
schema_of text known name list =
    let scope = action_scope text known list in
    record {
      name = name;
      parameters = map (parameter_of known.types) (typed_items text false (parameter_elements text list));
      condition = keyed_literals scope (codes ":precondition") list;
      delete = filter_map deleted (keyed_literals scope (codes ":effect") list);
      add = filter_map added (keyed_literals scope (codes ":effect") list);
    }

-- the schema that an action states
abbrev pub stated_schema : List ℕ → Known → Tree → Schema
stated_schema text known action = schema_of text known (action_name text action) (pairs action)

-- the predicates of these names and numbers of arguments from a number on, static where no effect names them
abbrev pub predicates_from : List Schema → ℕ → List (List ℕ) → List ℕ → List PredicateDef
predicates_from schemas number [] arities = []
predicates_from schemas number (name ∷ names) [] = []
predicates_from schemas number (name ∷ names) (arity ∷ arities) =
    record { name = name; arity = arity; is_static = not (is_fluent schemas number) } ∷
    predicates_from schemas (number + 1) names arities

-- each atom once, in the order of their first places
abbrev pub once : List Atom → List Atom
once [] = []
once (a ∷ atoms) = a ∷ filter (λ b. not (is_same a b)) (once atoms)

-- the task that the sections of a domain and of a problem state
pub record StatesTask (domain : List ℕ) (domain_sections : List Tree) (problem : List ℕ)
    (problem_sections : List Tree) (known : Known) (task : Task) : Type 0 where
  pub types : task.types ≡
      map (type_of known.types (typed_items domain false
      (first_section domain (codes ":types") domain_sections))) known.types
  pub objects : task.objects ≡
      map (object_of known.types
      (typed_items domain false (first_section domain (codes ":constants") domain_sections) ++
      typed_items problem false (first_section problem (codes ":objects") problem_sections))) known.objects
  pub predicates : task.predicates ≡ predicates_from task.schemas 0 known.predicates known.arities
  pub schemas : task.schemas ≡ map (stated_schema domain known)
      (sections_of domain (codes ":action") domain_sections)
  pub init : task.init ≡
      once (map (ground_atom (problem_scope problem known))
      (all_after problem (codes ":init") problem_sections))
  pub goal : task.goal ≡
      filter_map wanted (flat_map (literals_of (problem_scope problem known))
      (all_after problem (codes ":goal") problem_sections))

-- two files without a fault, and the task that they state
pub record AreStated (domain problem : List ℕ) (task : Task) : Type 0 where
  pub domain_trees : Trees
  pub problem_trees : Trees
  pub domain_read : AreRead domain domain_trees
  pub problem_read : AreRead problem problem_trees
  pub no_fault : faults_of domain domain_trees problem problem_trees ≡ []
  pub stated : StatesTask (folded domain) (sections (members domain_trees)) (folded problem)
      (sections (members problem_trees)) (known_in domain domain_trees problem problem_trees) task
