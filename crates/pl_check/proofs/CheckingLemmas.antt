-- The check of two files: the faults of their forms, and the task that they state.
use Rattle.std.proofs.Common.{◌≡◌, ◌+◌, ◌≤◌, inl, inr, ℕ, List, [], ◌∷◌, ◌++◌, map, length, Option, None}
use Rattle.std.proofs.Common.{Some, Result, Ok, Err, All, codes, refl, sym, ap, ◌∙◌, subst, arith}
use Rattle.std.specs.Prelude.{IfOk, IfErr}
use Rattle.std.specs.List.{flat_map, filter_map}
use Rattle.std.proofs.lemmas.List.{length-map}
use Rattle.pl_task.specs.declared.data.Atom.{Atom}
use Rattle.pl_task.specs.declared.data.GoalLiteral.{GoalLiteral}
use Rattle.pl_task.specs.declared.data.Literal.{Literal}
use Rattle.pl_task.specs.declared.data.ObjectDef.{ObjectDef}
use Rattle.pl_task.specs.declared.data.PredicateDef.{PredicateDef}
use Rattle.pl_task.specs.declared.data.Schema.{Schema}
use Rattle.pl_task.specs.declared.data.TypeDef.{TypeDef}
use Rattle.pl_task.specs.declared.task.Task.{Task}
use Rattle.pl_text.specs.declared.form.Form.{Form}
use Rattle.pl_text.specs.Trees.{Tree, Trees, trees_of, members, LieBetween}
use Rattle.pl_text.specs.Words.{folded, folded_byte}
use Rattle.pl_text.proofs.TreeLaws.{members-trees_of}
use Rattle.pl_check.specs.declared.role.FileRole.{FileRole}
use Rattle.pl_check.specs.declared.role.FileRole.TheVariants.{Domain, Problem}
use Rattle.pl_check.specs.declared.fault.InputFault.{InputFault}
use Rattle.pl_check.specs.declared.fault.CheckEnd.{CheckEnd}
use Rattle.pl_check.specs.declared.fault.CheckEnd.TheVariants as check_end
use Rattle.pl_check.specs.declared.reading.Fault.{Fault}
use Rattle.pl_check.specs.declared.reading.ReadEnd.{ReadEnd}
use Rattle.pl_check.specs.declared.reading.ReadEnd.TheVariants as read_end
use Rattle.pl_check.specs.Checking.{known_by, faults_by, Checks}
use Rattle.pl_check.specs.Elements.{trees}
use Rattle.pl_check.specs.FaultLists.{first}
use Rattle.pl_check.specs.Files.{file_faults}
use Rattle.pl_check.specs.FirstFault.{in_file, first_of, AreRead, EndsBy, known_in, faults_of}
use Rattle.pl_check.specs.Known.{Known, known_of, sections, sections_of, all_after}
use Rattle.pl_check.specs.Literals.{literals_of, ground_atom, wanted}
use Rattle.pl_check.specs.Made.{stated_types, stated_objects, AreParts, IsOfParts}
use Rattle.pl_check.specs.Reading.{Refuses, HasFew, check_end_of, EndsReading}
use Rattle.pl_check.specs.Sections.{problem_scope}
use Rattle.pl_check.specs.Stated.{StatesTask, AreStated, stated_schema, predicates_from, once}
use Rattle.pl_check.proofs.OpeningLemmas.{few_sections}
use Rattle.pl_check.proofs.PlacedLemmas.{forms_few}
use Rattle.pl_check.proofs.WeightLemmas.{total, weights, weights_between, total_members}
use Rattle.pl_check.proofs.WellFormedLemmas.{well_formed}

-- ---- the first fault

first_here : (file : FileRole) (faults : List Fault) (rest : List InputFault) (x : Fault) → first faults ≡
    Some x →
    first_of (map (in_file file) faults ++ rest) ≡ Some (in_file file x)
first_here file [] rest x h = cc
first_here file (f ∷ faults) rest x h =
    let same : f ≡ x = cc in
    ap (λ y. Some (in_file file y)) same

none_nil : (faults : List Fault) → first faults ≡ None → faults ≡ []
none_nil [] h = refl
none_nil (f ∷ faults) h = cc

first_after : (file : FileRole) (faults : List Fault) (rest : List InputFault) → first faults ≡ None →
    map (in_file file) faults ++ rest ≡ rest
first_after file faults rest h = ap (λ fs. map (in_file file) fs ++ rest) (none_nil faults h)

-- what both files declare, by their forms
known_is : (domain problem : List ℕ) (ds ps in_domain in_problem : List Tree) (known : Known) → in_domain ≡
    sections ds →
    in_problem ≡ sections ps → known ≡ known_of domain in_domain problem in_problem → known ≡
    known_by domain ds problem ps
known_is domain problem ds ps in_domain in_problem known d p k =
    k ∙ ap (λ x. known_of domain x problem in_problem) d ∙ ap (known_of domain (sections ds) problem) p

domain_ends : (domain problem : List ℕ) (ds ps : List Tree) (known : Known) (e : ReadEnd) → known ≡
    known_by domain ds problem ps →
    Refuses (file_faults Domain domain known (length domain) ds) e →
    Checks domain ds problem ps (Err (check_end_of Domain e))
domain_ends domain problem ds ps known (read_end.Fault x) k h =
    first_here Domain (file_faults Domain domain (known_by domain ds problem ps) (length domain) ds) _ x
    (subst (λ n. first (file_faults Domain domain n (length domain) ds) ≡ Some x) k h)
domain_ends domain problem ds ps known (read_end.Memory error) k h = tt

problem_ends : (domain problem : List ℕ) (ds ps : List Tree) (known : Known) (e : ReadEnd) → known ≡
    known_by domain ds problem ps →
    first (file_faults Domain domain known (length domain) ds) ≡ None →
    Refuses (file_faults Problem problem known (length problem) ps) e →
    Checks domain ds problem ps (Err (check_end_of Problem e))
problem_ends domain problem ds ps known (read_end.Fault x) k none h =
    let here = subst (λ n. first (file_faults Problem problem n (length problem) ps) ≡ Some x) k h in
    let clean = subst (λ n. first (file_faults Domain domain n (length domain) ds) ≡ None) k none in
    ap (λ fs. first_of (map (in_file Domain) fs ++ map (in_file Problem)
    (file_faults Problem problem (known_by domain ds problem ps) (length problem) ps)))
    (none_nil (file_faults Domain domain (known_by domain ds problem ps) (length domain) ds) clean) ∙
    first_map Problem (file_faults Problem problem (known_by domain ds problem ps) (length problem) ps) x here
  where
    first_map : (file : FileRole) (faults : List Fault) (y : Fault) → first faults ≡ Some y →
        first_of (map (in_file file) faults) ≡ Some (in_file file y)
    first_map file [] y g = cc
    first_map file (f ∷ faults) y g = (let same : f ≡ y = cc in ap (λ z. Some (in_file file z)) same)
problem_ends domain problem ds ps known (read_end.Memory error) k none h = tt

pub domain_refused : (domain problem : List ℕ) (ds ps in_domain in_problem : List Tree) (known : Known)
    (e : ReadEnd) (end : CheckEnd) →
    in_domain ≡ sections ds → in_problem ≡ sections ps → known ≡
    known_of domain in_domain problem in_problem →
    end ≡ check_end_of Domain e → Refuses (file_faults Domain domain known (length domain) ds) e →
    Checks domain ds problem ps (Err end)
domain_refused domain problem ds ps in_domain in_problem known e end d p k is h =
    subst (λ x. Checks domain ds problem ps (Err x)) (sym is)
    (domain_ends domain problem ds ps known e (known_is domain problem ds ps in_domain in_problem known d p k)
    h)

pub problem_refused : (domain problem : List ℕ) (ds ps in_domain in_problem : List Tree) (known : Known)
    (e : ReadEnd) (end : CheckEnd) →
    in_domain ≡ sections ds → in_problem ≡ sections ps → known ≡
    known_of domain in_domain problem in_problem →
    end ≡ check_end_of Problem e → first (file_faults Domain domain known (length domain) ds) ≡ None →
    Refuses (file_faults Problem problem known (length problem) ps) e → Checks domain ds problem ps (Err end)
problem_refused domain problem ds ps in_domain in_problem known e end d p k is none h =
    subst (λ x. Checks domain ds problem ps (Err x)) (sym is)
    (problem_ends domain problem ds ps known e
    (known_is domain problem ds ps in_domain in_problem known d p k) none h)

-- ---- the task

-- the sections of forms that lie in a file have few elements
pub sections_few : (size : ℕ) (forms : List Form) (found : List Tree) → size ≤ 16777216 →
    LieBetween 0 size (trees_of forms) →
    found ≡ sections (trees forms) → All HasFew found
sections_few size forms found le lie is =
    subst (All HasFew) (sym is) (few_sections (trees forms) (forms_few size forms le lie))

total_few : (size : ℕ) (forms : List Form) → size ≤ 16777216 → LieBetween 0 size (trees_of forms) →
    total (trees forms) ≤ 16777216
total_few size forms le lie =
    omega (
      arith,
      le,
      weights_between 0 size (trees_of forms) lie,
      total_members (trees_of forms),
      ap total (members-trees_of forms),
    )

pub parts_ok : (domain problem : List ℕ) (ds ps : List Form) (in_domain in_problem : List Tree)
    (known : Known)
    (schemas : List Schema) (init : List Atom) (goal : List Literal) →
    length domain ≤ 16777216 → length problem ≤ 16777216 →
    LieBetween 0 (length domain) (trees_of ds) → LieBetween 0 (length problem) (trees_of ps) →
    in_domain ≡ sections (trees ds) → in_problem ≡ sections (trees ps) →
    known ≡ known_of domain in_domain problem in_problem →
    first (file_faults Domain domain known (length domain) (trees ds)) ≡ None →
    first (file_faults Problem problem known (length problem) (trees ps)) ≡ None →
    schemas ≡ map (stated_schema domain known) (sections_of domain (codes ":action") (sections (trees ds))) →
    init ≡ map (ground_atom (problem_scope problem known))
    (all_after problem (codes ":init") (sections (trees ps))) →
    goal ≡ flat_map (literals_of (problem_scope problem known))
    (all_after problem (codes ":goal") (sections (trees ps))) →
    AreParts (stated_types domain in_domain known) (stated_objects domain in_domain problem in_problem known)
    (predicates_from schemas 0 known.predicates known.arities) schemas (once init) (filter_map wanted goal)
parts_ok domain problem ds ps in_domain in_problem known schemas init goal dle ple dlie plie d p k dnone pnone
    s i g =
    let same = known_is domain problem (trees ds) (trees ps) in_domain in_problem known d p k in
    let dnil = none_nil (file_faults Domain domain (known_by domain (trees ds) problem (trees ps))
    (length domain) (trees ds))
    (subst (λ n. first (file_faults Domain domain n (length domain) (trees ds)) ≡ None) same dnone) in
    let pnil = none_nil (file_faults Problem problem (known_by domain (trees ds) problem (trees ps))
    (length problem) (trees ps))
    (subst (λ n. first (file_faults Problem problem n (length problem) (trees ps)) ≡ None) same pnone) in
    let made = well_formed domain problem (trees ds) (trees ps) (length domain) (length problem) schemas init
    goal
    (total_few (length domain) ds dle dlie) (total_few (length problem) ps ple plie) dnil pnil
    (subst (λ n. schemas ≡ map (stated_schema domain n)
    (sections_of domain (codes ":action") (sections (trees ds)))) same s)
    (subst (λ n. init ≡ map (ground_atom (problem_scope problem n))
    (all_after problem (codes ":init") (sections (trees ps)))) same i)
    (subst (λ n. goal ≡ flat_map (literals_of (problem_scope problem n))
    (all_after problem (codes ":goal") (sections (trees ps)))) same g) in
    subst (λ x. AreParts (stated_types domain x known) (stated_objects domain x problem in_problem known)
    (predicates_from schemas 0 known.predicates known.arities) schemas (once init) (filter_map wanted goal))
    (sym d)
    (subst (λ y. AreParts (stated_types domain (sections (trees ds)) known)
    (stated_objects domain (sections (trees ds)) problem y known)
    (predicates_from schemas 0 known.predicates known.arities) schemas (once init) (filter_map wanted goal))
    (sym p)
    (subst (λ n. AreParts (stated_types domain (sections (trees ds)) n)
    (stated_objects domain (sections (trees ds)) problem (sections (trees ps)) n)
    (predicates_from schemas 0 n.predicates n.arities) schemas (once init) (filter_map wanted goal))
    (sym same) made))

-- the same for lists that are those of the sections
pub listed_parts : (types types_in : List TypeDef) (objects objects_in : List ObjectDef)
    (predicates : List PredicateDef)
    (schemas : List Schema) (init : List Atom) (goal : List GoalLiteral) →
    types ≡ types_in → objects ≡ objects_in →
    AreParts types_in objects_in predicates schemas init goal →
    AreParts types objects predicates schemas init goal
listed_parts types types_in objects objects_in predicates schemas init goal t o h =
    subst (λ x. AreParts x objects predicates schemas init goal) (sym t)
    (subst (λ x. AreParts types_in x predicates schemas init goal) (sym o) h)

-- a task of what the sections state
pub states_parts : (domain problem : List ℕ) (ds ps in_domain in_problem : List Tree) (known : Known)
    (types : List TypeDef) (objects : List ObjectDef) (schemas : List Schema) (init : List Atom)
    (goal : List Literal) (task : Task) →
    in_domain ≡ sections ds → in_problem ≡ sections ps →
    types ≡ stated_types domain in_domain known →
    objects ≡ stated_objects domain in_domain problem in_problem known →
    schemas ≡ map (stated_schema domain known) (sections_of domain (codes ":action") (sections ds)) →
    init ≡ map (ground_atom (problem_scope problem known)) (all_after problem (codes ":init") (sections ps)) →
    goal ≡ flat_map (literals_of (problem_scope problem known))
    (all_after problem (codes ":goal") (sections ps)) →
    IsOfParts types objects (predicates_from schemas 0 known.predicates known.arities) schemas (once init)
    (filter_map wanted goal) task →
    StatesTask domain in_domain problem in_problem known task
states_parts domain problem ds ps in_domain in_problem known types objects schemas init goal task d
    p t o s i g is = record {
      types = is.types_are ∙ t;
      objects = is.objects_are ∙ o;
      predicates = is.predicates_are ∙ ap (λ x. predicates_from x 0 known.predicates known.arities)
          (sym is.schemas_are);
      schemas = is.schemas_are ∙ s ∙ ap (λ x. map (stated_schema domain known)
          (sections_of domain (codes ":action") x)) (sym d);
      init = is.init_is ∙ ap once (i ∙ ap (λ x. map (ground_atom (problem_scope problem known))
          (all_after problem (codes ":init") x)) (sym p));
      goal = is.goal_is ∙ ap (filter_map wanted)
          (g ∙ ap (λ x. flat_map (literals_of (problem_scope problem known))
          (all_after problem (codes ":goal") x)) (sym p));
    }

pub checked : (domain problem : List ℕ) (ds ps in_domain in_problem : List Tree) (known : Known)
    (task : Task) →
    in_domain ≡ sections ds → in_problem ≡ sections ps → known ≡
    known_of domain in_domain problem in_problem →
    first (file_faults Domain domain known (length domain) ds) ≡ None →
    first (file_faults Problem problem known (length problem) ps) ≡ None →
    StatesTask domain in_domain problem in_problem known task → Checks domain ds problem ps (Ok task)
checked domain problem ds ps in_domain in_problem known task d p k dnone pnone h =
    let same = known_is domain problem ds ps in_domain in_problem known d p k in
    let dnil = none_nil (file_faults Domain domain (known_by domain ds problem ps) (length domain) ds)
    (subst (λ n. first (file_faults Domain domain n (length domain) ds) ≡ None) same dnone) in
    let pnil = none_nil (file_faults Problem problem (known_by domain ds problem ps) (length problem) ps)
    (subst (λ n. first (file_faults Problem problem n (length problem) ps) ≡ None) same pnone) in (
      ap (λ fs. map (in_file Domain) fs ++ map (in_file Problem)
          (file_faults Problem problem (known_by domain ds problem ps) (length problem) ps)) dnil ∙
          ap (map (in_file Problem)) pnil,
      subst (λ n. StatesTask domain (sections ds) problem (sections ps) n task) same
          (subst (λ y. StatesTask domain (sections ds) problem y known task) p
          (subst (λ x. StatesTask domain x problem in_problem known task) d h)),
    )

-- ---- two files

faults_same : (domain problem : List ℕ) (dt pt : Trees) →
    faults_of domain dt problem pt ≡ faults_by (folded domain) (members dt) (folded problem) (members pt)
faults_same domain problem dt pt =
    let known = known_in domain dt problem pt in
    ap (λ n. map (in_file Domain) (file_faults Domain (folded domain) known n (members dt)) ++
    map (in_file Problem) (file_faults Problem (folded problem) known (length problem) (members pt)))
    (sym (length-map domain folded_byte)) ∙
    ap (λ n. map (in_file Domain) (file_faults Domain (folded domain) known (length (folded domain))
    (members dt)) ++
    map (in_file Problem) (file_faults Problem (folded problem) known n (members pt)))
    (sym (length-map problem folded_byte))

checks_read : (domain problem small_domain small_problem : List ℕ) (ds ps : List Form)
    (r : Result Task CheckEnd) →
    small_domain ≡ folded domain → small_problem ≡ folded problem →
    Checks small_domain (trees ds) small_problem (trees ps) r →
    Checks (folded domain) (members (trees_of ds)) (folded problem) (members (trees_of ps)) r
checks_read domain problem small_domain small_problem ds ps r d p h =
    subst (λ x. Checks (folded domain) x (folded problem) (members (trees_of ps)) r)
    (sym (members-trees_of ds))
    (subst (λ x. Checks (folded domain) (trees ds) (folded problem) x r) (sym (members-trees_of ps))
    (subst (λ x. Checks (folded domain) (trees ds) x (trees ps) r) p
    (subst (λ x. Checks x (trees ds) small_problem (trees ps) r) d h)))

gives_task : (domain problem : List ℕ) (dt pt : Trees) (r : Result Task CheckEnd) → AreRead domain dt →
    AreRead problem pt →
    Checks (folded domain) (members dt) (folded problem) (members pt) r → IfOk r (AreStated domain problem)
gives_task domain problem dt pt (Ok task) dr pr h = record {
  domain_trees = dt;
  problem_trees = pt;
  domain_read = dr;
  problem_read = pr;
  no_fault = faults_same domain problem dt pt ∙ h.0;
  stated = h.1;
}
gives_task domain problem dt pt (Err e) dr pr h = tt

gives_end : (domain problem : List ℕ) (dt pt : Trees) (r : Result Task CheckEnd) → AreRead domain dt →
    AreRead problem pt →
    Checks (folded domain) (members dt) (folded problem) (members pt) r → IfErr r (EndsBy domain problem)
gives_end domain problem dt pt (Ok task) dr pr h = tt
gives_end domain problem dt pt (Err (check_end.Fault fault)) dr pr h =
    inr (inr (record {
      domain_trees = dt;
      problem_trees = pt;
      domain_read = dr;
      problem_read = pr;
      is_first = ap first_of (faults_same domain problem dt pt) ∙ h;
    }))
gives_end domain problem dt pt (Err (check_end.Memory error)) dr pr h = tt

pub task_stated : (domain problem small_domain small_problem : List ℕ) (ds ps all_ds all_ps : List Form)
    (r : Result Task CheckEnd) →
    small_domain ≡ folded domain → small_problem ≡ folded problem → ds ≡ all_ds → ps ≡ all_ps →
    AreRead domain (trees_of all_ds) → AreRead problem (trees_of all_ps) →
    Checks small_domain (trees ds) small_problem (trees ps) r → IfOk r (AreStated domain problem)
task_stated domain problem small_domain small_problem ds ps all_ds all_ps r d p ds_are ps_are dr pr h =
    gives_task domain problem (trees_of ds) (trees_of ps) r
    (subst (λ x. AreRead domain (trees_of x)) (sym ds_are) dr)
    (subst (λ x. AreRead problem (trees_of x)) (sym ps_are) pr)
    (checks_read domain problem small_domain small_problem ds ps r d p h)

pub end_given : (domain problem small_domain small_problem : List ℕ) (ds ps all_ds all_ps : List Form)
    (r : Result Task CheckEnd) →
    small_domain ≡ folded domain → small_problem ≡ folded problem → ds ≡ all_ds → ps ≡ all_ps →
    AreRead domain (trees_of all_ds) → AreRead problem (trees_of all_ps) →
    Checks small_domain (trees ds) small_problem (trees ps) r → IfErr r (EndsBy domain problem)
end_given domain problem small_domain small_problem ds ps all_ds all_ps r d p ds_are ps_are dr pr h =
    gives_end domain problem (trees_of ds) (trees_of ps) r
    (subst (λ x. AreRead domain (trees_of x)) (sym ds_are) dr)
    (subst (λ x. AreRead problem (trees_of x)) (sym ps_are) pr)
    (checks_read domain problem small_domain small_problem ds ps r d p h)

-- a text fault of the domain, and one of the problem where the domain has none
pub domain_text : (domain problem : List ℕ) (end : CheckEnd) → EndsReading Domain domain end →
    EndsBy domain problem end
domain_text domain problem (check_end.Fault fault) h = inl h
domain_text domain problem (check_end.Memory error) h = tt

pub problem_text : (domain problem : List ℕ) (ds : List Form) (end : CheckEnd) →
    AreRead domain (trees_of ds) →
    EndsReading Problem problem end → EndsBy domain problem end
problem_text domain problem ds (check_end.Fault fault) dr h =
    inr (inl (record { domain_trees = trees_of ds; domain_read = dr; of_problem = h }))
problem_text domain problem ds (check_end.Memory error) dr h = tt

-- forms that lie in a file lie in its copy in small letters
pub lie_small : (bytes small : List ℕ) (ds all : List Form) → small ≡ folded bytes → ds ≡ all →
    LieBetween 0 (length bytes) (trees_of all) → LieBetween 0 (length small) (trees_of ds)
lie_small bytes small ds all s d h =
    subst (λ n. LieBetween 0 n (trees_of ds)) (sym (ap length s ∙ length-map bytes folded_byte))
    (subst (λ x. LieBetween 0 (length bytes) (trees_of x)) (sym d) h)

pub small_short : (bytes small : List ℕ) → small ≡ folded bytes → length bytes ≤ 16777216 →
    length small ≤ 16777216
small_short bytes small s h = omega (arith, h, ap length s, length-map bytes folded_byte)
