-- Two files have a first fault or state a task, never both, and they state one task at most.
use Rattle.std.proofs.Common.{◌≡◌, ◌⊎◌, inl, inr, ◌≤◌, ℕ, List, [], ◌∷◌, ◌++◌, map, length, codes, Option}
use Rattle.std.proofs.Common.{None, Some, refl, sym, ap, ◌∙◌, subst, arith}
use Rattle.std.specs.List.{flat_map, filter_map}
use Rattle.std.proofs.Props.{props}
use mathlib.Core.HLevel.{is_prop→PathP}
use Rattle.pl_task.specs.declared.data.Atom.{Atom}
use Rattle.pl_task.specs.declared.data.GoalLiteral.{GoalLiteral}
use Rattle.pl_task.specs.declared.data.Literal.{Literal}
use Rattle.pl_task.specs.declared.data.ObjectDef.{ObjectDef}
use Rattle.pl_task.specs.declared.data.PredicateDef.{PredicateDef}
use Rattle.pl_task.specs.declared.data.Schema.{Schema}
use Rattle.pl_task.specs.declared.data.TypeDef.{TypeDef}
use Rattle.pl_task.specs.declared.task.Task.{Task}
use Rattle.pl_task.specs.WellFormed.{AreTypes, AreObjects, ArePredicates, AreSchemas, AreInitial, IsGoalOf}
use Rattle.pl_text.specs.Laws.{FormsOrFault}
use Rattle.pl_text.specs.TextFaults.{HasForms, GivesFault}
use Rattle.pl_text.specs.Trees.{Tree, Trees, members, AreTreesOf}
use Rattle.pl_text.specs.Words.{folded}
use Rattle.pl_text.proofs.TreePlaceLaws.{AreTreesOf-lie, AreTreesOf-one}
use Rattle.pl_check.specs.declared.role.FileRole.TheVariants.{Domain, Problem}
use Rattle.pl_check.specs.declared.fault.InputFault.{InputFault}
use Rattle.pl_check.specs.declared.reading.Fault.{Fault}
use Rattle.pl_check.specs.Files.{file_faults}
use Rattle.pl_check.specs.FirstFault.{AreRead, text_in_file, in_file, faults_of, first_of, known_in}
use Rattle.pl_check.specs.Known.{Known, sections, sections_of, all_after}
use Rattle.pl_check.specs.Laws.{HaveFirstFault, HaveTask, FaultOrTask, FaultExcludesTask, TaskIsOne}
use Rattle.pl_check.specs.Literals.{literals_of, ground_atom, wanted}
use Rattle.pl_check.specs.Made.{stated_types, stated_objects, AreParts}
use Rattle.pl_check.specs.Sections.{problem_scope}
use Rattle.pl_check.specs.Stated.{StatesTask, AreStated, stated_schema, predicates_from, once}
use Rattle.pl_check.proofs.FirstLemmas.{text-none}
use Rattle.pl_check.proofs.WeightLemmas.{total, weights_between, total_members}
use Rattle.pl_check.proofs.WellFormedLemmas.{well_formed}

-- ---- a task is its parts: what it keeps has one proof at most

types-prop : (types : List TypeDef) → IsProp (AreTypes types)
types-prop types = hlevel props

objects-prop : (types : List TypeDef) (objects : List ObjectDef) → IsProp (AreObjects types objects)
objects-prop types objects = hlevel props

predicates-prop : (schemas : List Schema) (predicates : List PredicateDef) →
    IsProp (ArePredicates schemas predicates)
predicates-prop schemas predicates = hlevel props

schemas-prop : (types : List TypeDef) (objects : List ObjectDef) (predicates : List PredicateDef)
    (schemas : List Schema) → IsProp (AreSchemas types objects predicates schemas)
schemas-prop types objects predicates schemas = hlevel props

init-prop : (objects : List ObjectDef) (predicates : List PredicateDef) (init : List Atom) →
    IsProp (AreInitial objects predicates init)
init-prop objects predicates init = hlevel props

goal-prop : (objects : List ObjectDef) (predicates : List PredicateDef) (goal : List GoalLiteral) →
    IsProp (IsGoalOf objects predicates goal)
goal-prop objects predicates goal = hlevel props

-- tasks with the same parts are one
same_parts : (t u : Task) → t.types ≡ u.types → t.objects ≡ u.objects → t.predicates ≡ u.predicates →
    t.schemas ≡ u.schemas → t.init ≡ u.init → t.goal ≡ u.goal → t ≡ u
same_parts t u types objects predicates schemas init goal = λ i. record {
  types = types i;
  objects = objects i;
  predicates = predicates i;
  schemas = schemas i;
  init = init i;
  goal = goal i;
  types_ok = is_prop→PathP (λ j. AreTypes (types j)) (λ j. types-prop (types j)) t.types_ok u.types_ok i;
  objects_ok =
      is_prop→PathP (λ j. AreObjects (types j) (objects j)) (λ j. objects-prop (types j) (objects j))
      t.objects_ok u.objects_ok i;
  predicates_ok =
      is_prop→PathP (λ j. ArePredicates (schemas j) (predicates j))
      (λ j. predicates-prop (schemas j) (predicates j)) t.predicates_ok u.predicates_ok i;
  schemas_ok =
      is_prop→PathP (λ j. AreSchemas (types j) (objects j) (predicates j) (schemas j))
      (λ j. schemas-prop (types j) (objects j) (predicates j) (schemas j)) t.schemas_ok u.schemas_ok i;
  init_ok =
      is_prop→PathP (λ j. AreInitial (objects j) (predicates j) (init j))
      (λ j. init-prop (objects j) (predicates j) (init j)) t.init_ok u.init_ok i;
  goal_ok =
      is_prop→PathP (λ j. IsGoalOf (objects j) (predicates j) (goal j))
      (λ j. goal-prop (objects j) (predicates j) (goal j)) t.goal_ok u.goal_ok i;
}

-- what sections state is one task
stated-one : (domain : List ℕ) (domain_sections : List Tree) (problem : List ℕ) (problem_sections : List Tree)
    (known : Known) (t u : Task) → StatesTask domain domain_sections problem problem_sections known t →
    StatesTask domain domain_sections problem problem_sections known u → t ≡ u
stated-one domain domain_sections problem problem_sections known t u h k =
    let schemas : t.schemas ≡ u.schemas = h.schemas ∙ sym k.schemas in
    same_parts t u (h.types ∙ sym k.types) (h.objects ∙ sym k.objects)
    (h.predicates ∙ ap (λ s. predicates_from s 0 known.predicates known.arities) schemas ∙ sym k.predicates)
    schemas (h.init ∙ sym k.init) (h.goal ∙ sym k.goal)

pub task-one : TaskIsOne
task-one domain problem task other h k =
    let domains = AreTreesOf-one domain k.domain_trees h.domain_trees k.domain_read.are h.domain_read.are in
    let problems = AreTreesOf-one problem k.problem_trees h.problem_trees k.problem_read.are
    h.problem_read.are in
    stated-one (folded domain) (sections (members h.domain_trees)) (folded problem)
    (sections (members h.problem_trees)) (known_in domain h.domain_trees problem h.problem_trees) task other
    h.stated
    (subst (λ ts. StatesTask (folded domain) (sections (members h.domain_trees)) (folded problem)
    (sections (members ts)) (known_in domain h.domain_trees problem ts) other) problems
    (subst (λ ts. StatesTask (folded domain) (sections (members ts)) (folded problem)
    (sections (members k.problem_trees)) (known_in domain ts problem k.problem_trees)
    other) domains k.stated))

-- ---- a first fault, or a task

append_nil : {A : Type 0} (xs ys : List A) → xs ++ ys ≡ [] → (xs ≡ []) × (ys ≡ [])
append_nil [] ys h = (refl, h)
append_nil (x ∷ xs) ys h = cc

map_nil : {A B : Type 0} (f : A → B) (xs : List A) → map f xs ≡ [] → xs ≡ []
map_nil f [] h = refl
map_nil f (x ∷ xs) h = cc

-- the trees of a file that may be read are few
few : (bytes : List ℕ) (trees : Trees) → length bytes ≤ 16777216 → AreTreesOf bytes trees →
    total (members trees) ≤ 16777216
few bytes trees le are =
    omega (
      arith,
      le,
      weights_between 0 (length bytes) trees (AreTreesOf-lie bytes trees are),
      total_members trees,
    )

-- the task of well-formed parts
task_with : (types : List TypeDef) (objects : List ObjectDef) (predicates : List PredicateDef)
    (schemas : List Schema) (init : List Atom) (goal : List GoalLiteral) →
    AreParts types objects predicates schemas init goal → Task
task_with types objects predicates schemas init goal parts = record {
  types = types;
  objects = objects;
  predicates = predicates;
  schemas = schemas;
  init = init;
  goal = goal;
  types_ok = parts.types_ok;
  objects_ok = parts.objects_ok;
  predicates_ok = parts.predicates_ok;
  schemas_ok = parts.schemas_ok;
  init_ok = parts.init_ok;
  goal_ok = parts.goal_ok;
}

-- two files whose forms lie as they should
module _ (domain problem : List ℕ) (dt pt : Trees) where
  abbrev known : Known
  known = known_in domain dt problem pt

  abbrev schemas : List Schema
  schemas = map (stated_schema (folded domain) known)
      (sections_of (folded domain) (codes ":action") (sections (members dt)))

  abbrev init : List Atom
  init = map (ground_atom (problem_scope (folded problem) known))
      (all_after (folded problem) (codes ":init") (sections (members pt)))

  abbrev goal : List Literal
  goal = flat_map (literals_of (problem_scope (folded problem) known))
      (all_after (folded problem) (codes ":goal") (sections (members pt)))

  parts : length domain ≤ 16777216 → length problem ≤ 16777216 → AreRead domain dt → AreRead problem pt →
      faults_of domain dt problem pt ≡ [] →
      AreParts (stated_types (folded domain) (sections (members dt)) known)
      (stated_objects (folded domain) (sections (members dt)) (folded problem) (sections (members pt)) known)
      (predicates_from schemas 0 known.predicates known.arities) schemas (once init) (filter_map wanted goal)
  parts dle ple dr pr none =
      let in_domain = file_faults Domain (folded domain) known (length domain) (members dt) in
      let in_problem = file_faults Problem (folded problem) known (length problem) (members pt) in
      let both = append_nil (map (in_file Domain) in_domain) (map (in_file Problem) in_problem) none in
      well_formed (folded domain) (folded problem) (members dt) (members pt) (length domain) (length problem)
      schemas init goal (few domain dt dle dr.are) (few problem pt ple pr.are)
      (map_nil (in_file Domain) in_domain both.0) (map_nil (in_file Problem) in_problem both.1) refl refl refl

  made : length domain ≤ 16777216 → length problem ≤ 16777216 → AreRead domain dt → AreRead problem pt →
      faults_of domain dt problem pt ≡ [] → HaveTask domain problem
  unfolding task_with
  made dle ple dr pr none = (
    task_with _ _ _ _ _ _ (parts dle ple dr pr none),
    record {
      domain_trees = dt;
      problem_trees = pt;
      domain_read = dr;
      problem_read = pr;
      no_fault = none;
      stated = record {
        types = refl;
        objects = refl;
        predicates = refl;
        schemas = refl;
        init = refl;
        goal = refl;
      };
    },
  )

  of_forms : length domain ≤ 16777216 → length problem ≤ 16777216 → AreRead domain dt → AreRead problem pt →
      (faults : List InputFault) → faults_of domain dt problem pt ≡ faults →
      HaveFirstFault domain problem ⊎ HaveTask domain problem
  of_forms dle ple dr pr [] are = inr (made dle ple dr pr are)
  of_forms dle ple dr pr (fault ∷ rest) are =
      inl (
        fault,
        inr (inr (record {
          domain_trees = dt;
          problem_trees = pt;
          domain_read = dr;
          problem_read = pr;
          is_first = ap first_of are;
        })),
      )

of_problem : (domain problem : List ℕ) (dt : Trees) → length domain ≤ 16777216 → length problem ≤ 16777216 →
    AreRead domain dt → HasForms problem ⊎ GivesFault problem →
    HaveFirstFault domain problem ⊎ HaveTask domain problem
of_problem domain problem dt dle ple dr (inl has) =
    of_forms domain problem dt has.1.0 dle ple dr (record { faultless = has.0; are = has.1.1 }) _ refl
of_problem domain problem dt dle ple dr (inr gives) =
    inl (
      text_in_file Problem gives.0,
      inr (inl (record {
        domain_trees = dt;
        domain_read = dr;
        of_problem = record { given = gives.0; is_given = gives.1; is = refl };
      })),
    )

of_domain : (domain problem : List ℕ) → length domain ≤ 16777216 → length problem ≤ 16777216 →
    HasForms domain ⊎ GivesFault domain → HasForms problem ⊎ GivesFault problem →
    HaveFirstFault domain problem ⊎ HaveTask domain problem
of_domain domain problem dle ple (inl has) next =
    of_problem domain problem has.1.0 dle ple (record { faultless = has.0; are = has.1.1 }) next
of_domain domain problem dle ple (inr gives) next =
    inl (text_in_file Domain gives.0, inl (record { given = gives.0; is_given = gives.1; is = refl }))

pub fault-or-task : FormsOrFault → FaultOrTask
fault-or-task either_way domain problem dle ple =
    of_domain domain problem dle ple (either_way domain dle).0 (either_way problem ple).0

-- ---- never both

pub fault-excludes-task : FaultExcludesTask
fault-excludes-task domain problem fault task (inl h) k =
    text-none Domain domain k.domain_trees fault h k.domain_read
fault-excludes-task domain problem fault task (inr (inl h)) k =
    text-none Problem problem k.problem_trees fault h.of_problem k.problem_read
fault-excludes-task domain problem fault task (inr (inr h)) k =
    let domains = AreTreesOf-one domain h.domain_trees k.domain_trees h.domain_read.are k.domain_read.are in
    let problems = AreTreesOf-one problem h.problem_trees k.problem_trees h.problem_read.are
    k.problem_read.are in
    let none : first_of (faults_of domain h.domain_trees problem h.problem_trees) ≡ None =
    ap (λ ts. first_of (faults_of domain ts problem h.problem_trees)) domains ∙
    ap (λ ts. first_of (faults_of domain k.domain_trees problem ts)) problems ∙
    ap first_of k.no_fault
    in
    let some = h.is_first in cc
