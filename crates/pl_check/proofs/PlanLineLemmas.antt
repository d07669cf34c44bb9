-- Lines of a plan: the numbers that their words have, the steps that they name, and that a file has one list
-- of them.
use Rattle.std.proofs.Common.{◌≡◌, ◌⊎◌, inl, inr, ◌+◌, ◌-◌, ◌<◌, ◌≤◌, ◌==◌, ℕ, suc, Bool, true, false, cond}
use Rattle.std.proofs.Common.{List, [], ◌∷◌, ◌++◌, map, filter_map, drop, length, get_or, slice_get, Option}
use Rattle.std.proofs.Common.{None, Some, All, refl, sym, ap, ◌∙◌, subst, arith, eqb-true, add-one, drop-cons}
use Rattle.std.proofs.lemmas.List.{length-map, length-append, length-drop}
use Rattle.std.proofs.lemmas.List.Elements.{All-nil, All-cons, All-head, All-map}
use Rattle.std.proofs.lemmas.Option.{slice_get_within, slice_get-get_or}
use Rattle.std.specs.Str.{bytes_eq}
use Rattle.pl_names.specs.Names.{number_among}
use Rattle.pl_names.proofs.Numbers.{number_place}
use Rattle.pl_task.specs.declared.data.ObjectDef.{ObjectDef}
use Rattle.pl_task.specs.declared.data.Schema.{Schema}
use Rattle.pl_task.specs.declared.plan.PlanLine.{PlanLine}
use Rattle.pl_task.specs.declared.plan.PlanLine.TheVariants as line
use Rattle.pl_task.specs.declared.task.Task.{Task}
use Rattle.pl_task.specs.Instance.{Instance}
use Rattle.pl_task.specs.States.{IsStep}
use Rattle.pl_task.specs.WellFormed.{IsSchemaOf}
use Rattle.pl_text.specs.declared.form.Form.{Form}
use Rattle.pl_text.specs.Laws.{FaultIsOne, FormsOrFault}
use Rattle.pl_text.specs.TextFaults.{HasForms, GivesFault}
use Rattle.pl_text.specs.Trees.{Tree, Trees, tree_of, trees_of, members}
use Rattle.pl_text.proofs.TreeLaws.{members-trees_of}
use Rattle.pl_text.proofs.TreePlaceLaws.{AreTreesOf-one}
use Rattle.pl_text.specs.Words.{folded}
use Rattle.pl_check.specs.declared.fault.InputFault.{InputFault}
use Rattle.pl_check.specs.declared.reading.Fault.{Fault}
use Rattle.pl_check.specs.Elements.{trees, word_of, head_word, elements}
use Rattle.pl_check.specs.FaultLists.{first}
use Rattle.pl_check.specs.FirstFault.{AreRead, in_file, text_in_file}
use Rattle.pl_check.specs.Laws.{LinesAreOne, PlanFaultIsOne, HasPlanFault, HasLines, FaultOrLines}
use Rattle.pl_check.specs.Laws.{FaultExcludesLines}
use Rattle.pl_check.proofs.FirstLemmas.{text-one, text-none}
use Rattle.pl_check.specs.declared.role.FileRole.TheVariants.{Plan}
use Rattle.pl_check.specs.PlanLines.{numbers_named, objects_named, plan_faults, line_by, line_at, line_naming}
use Rattle.pl_check.specs.PlanLines.{line_of, AreLines, IsLineFault, IsPlanFault, IsStepText}

-- a word that is among names has a place there
pub number_within : (names : List (List ℕ)) (name : List ℕ) (n : ℕ) → number_among names name ≡ Some n →
    n < length names
number_within names name n h = slice_get_within names n name (number_place names name n h)

-- a word that names an action has the number of a schema
pub action_within : (task : Task) (name : List ℕ) (n : ℕ) →
    number_among (map (λ (s : Schema). s.name) task.schemas) name ≡ Some n → n < length task.schemas
action_within task name n h =
    omega (
      arith,
      number_within (map (λ (s : Schema). s.name) task.schemas) name n h,
      length-map task.schemas (λ (s : Schema). s.name),
    )

-- there are no more numbers than words
numbers_few : (text : List ℕ) (names : List (List ℕ)) (words : List Tree) →
    length (numbers_named text names words) ≤ length words
numbers_few text names [] = omega arith
numbers_few text names (w ∷ words) =
    by_number (number_among names (word_of text w)) refl (numbers_few text names words)
  where
    by_number : (n : Option ℕ) → number_among names (word_of text w) ≡ n →
        length (numbers_named text names words) ≤ length words →
        length (numbers_named text names (w ∷ words)) ≤ length (w ∷ words)
    by_number None h rest = rw h (omega (arith, rest))
    by_number (Some n) h rest = rw h (omega (arith, rest))

-- where one of the words is none of the names, there are fewer
pub numbers_fewer : (text : List ℕ) (names : List (List ℕ)) (forms : List Form) (i : ℕ) (form : Form)
    (numbers : List ℕ) →
    i < length forms → length numbers ≡ i →
    numbers ++ numbers_named text names (trees (drop i forms)) ≡ numbers_named text names (trees forms) →
    number_among names (word_of text (tree_of (get_or forms i form))) ≡ None →
    length (numbers_named text names (trees forms)) < length forms
numbers_fewer text names forms i form numbers within count whole none =
    let here : drop i forms ≡ get_or forms i form ∷ drop (i + 1) forms =
    rw add-one (drop-cons forms i form within) in
    let skips : numbers_named text names (trees (drop i forms)) ≡ numbers_named text names
    (trees (drop (i + 1) forms)) =
    ap (λ fs. numbers_named text names (trees fs)) here ∙ (rw none refl)
    in
    let few = numbers_few text names (trees (drop (i + 1) forms)) in
    omega (
      arith,
      ap length (sym whole),
      length-append numbers (numbers_named text names (trees (drop i forms))),
      ap length skips,
      few,
      length-map (drop (i + 1) forms) tree_of,
      length-drop (i + 1) forms,
    )

-- the numbers are numbers of objects
numbers_within : (text : List ℕ) (names : List (List ℕ)) (words : List Tree) →
    All (λ o. o < length names) (numbers_named text names words)
numbers_within text names [] = All-nil (λ o. o < length names)
numbers_within text names (w ∷ words) =
    by_number (number_among names (word_of text w)) refl (numbers_within text names words)
  where
    by_number : (n : Option ℕ) → number_among names (word_of text w) ≡ n →
        All (λ o. o < length names) (numbers_named text names words) →
        All (λ o. o < length names) (numbers_named text names (w ∷ words))
    by_number None h rest = rw h rest
    by_number (Some n) h rest =
        rw h
        (All-cons (λ o. o < length names) n (numbers_named text names words)
        (number_within names (word_of text w) n h) rest)

-- a line that names a step names one of the task
step_by : (text : List ℕ) (task : Task) (words : List Tree) (n : ℕ) (schema : Schema) (step : Instance)
    (many among : Bool) →
    slice_get task.schemas n ≡ Some schema → (length words == length schema.parameters) ≡ many →
    (length (objects_named text task words) == length words) ≡ among →
    cond many
    (cond among (line.Step (record { schema = n; args = objects_named text task words })) line.UnknownObject)
    line.Arguments
    ≡ line.Step step →
    IsStep task step
step_by text task words n schema step true true found m a is =
    let same : record { schema = n; args = objects_named text task words } ≡ step = cc in
    let names = map (λ (o : ObjectDef). o.name) task.objects in
    subst (IsStep task) same (record {
      schema = schema;
      found = found;
      many =
          eqb-true (length (objects_named text task words)) (length words) a ∙
          eqb-true (length words) (length schema.parameters) m;
      within =
          subst (λ k. All (λ o. o < k) (objects_named text task words))
          (length-map task.objects (λ (o : ObjectDef). o.name))
          (numbers_within text names words);
    })
step_by text task words n schema step true false found m a is = cc
step_by text task words n schema step false among found m a is = cc

line_by_step : (text : List ℕ) (task : Task) (words : List Tree) (n : ℕ) (step : Instance)
    (found : Option Schema) →
    slice_get task.schemas n ≡ found → line_by text task words n found ≡ line.Step step → IsStep task step
unfolding line_by
line_by_step text task words n step None at is = cc
line_by_step text task words n step (Some schema) at is =
    step_by text task words n schema step _ _ at refl refl is

line_at_step : (text : List ℕ) (task : Task) (words : List Tree) (step : Instance) (n : Option ℕ) →
    line_at text task words n ≡ line.Step step → IsStep task step
line_at_step text task words step None is = cc
line_at_step text task words step (Some n) is =
    line_by_step text task words n step (slice_get task.schemas n) refl is

pub lines_steps : (text : List ℕ) (task : Task) (ts : List Tree) (lines : List PlanLine) →
    lines ≡ map (line_of text task) ts →
    All (λ l. (step : Instance) → l ≡ line.Step step → IsStep task step) lines
lines_steps text task ts lines are =
    subst (All (λ l. (step : Instance) → l ≡ line.Step step → IsStep task step)) (sym are)
    (All-map (λ l. (step : Instance) → l ≡ line.Step step → IsStep task step) (line_of text task) ts
    (λ k d h step is. line_at_step text task (drop 1 (elements (get_or ts k d))) step _ is))

-- the one line of a text is a step of the task
pub step_of_line : (task : Task) (lines : List PlanLine) (step : Instance) →
    All (λ l. (s : Instance) → l ≡ line.Step s → IsStep task s) lines → lines ≡ line.Step step ∷ [] →
    IsStep task step
step_of_line task lines step steps are =
    All-head (λ l. (s : Instance) → l ≡ line.Step s → IsStep task s) (line.Step step) []
    (subst (All (λ l. (s : Instance) → l ≡ line.Step s → IsStep task s)) are steps) step refl

-- no faults have no first one
faultless : (faults : List Fault) → first faults ≡ None → faults ≡ []
faultless [] h = refl
faultless (f ∷ faults) h = cc

-- a plan file has one list of lines
pub lines_one : LinesAreOne
lines_one bytes task lines others are are' =
    are.each ∙
    ap (λ ts. map (line_of (folded bytes) task) (members ts))
    (AreTreesOf-one bytes are.trees are'.trees are.read.are are'.read.are) ∙
    sym are'.each

-- a plan file with a fault has no lines
pub lines_none : FaultExcludesLines
lines_none bytes task fault lines (inl text) are = text-none Plan bytes are.trees fault text are.read
lines_none bytes task fault lines (inr form) are =
    let same = AreTreesOf-one bytes form.trees are.trees form.read.are are.read.are in
    let none : first (plan_faults (members form.trees)) ≡ None =
    ap (λ ts. first (plan_faults (members ts))) same ∙ ap first are.no_fault
    in
    let some = form.is_first in cc

-- a plan file has one first fault
pub plan_fault_one : FaultIsOne → PlanFaultIsOne
plan_fault_one one bytes fault other (inl h) (inl k) = text-one one Plan bytes fault other h k
plan_fault_one one bytes fault other (inl h) (inr k) = absurd (text-none Plan bytes k.trees fault h k.read)
plan_fault_one one bytes fault other (inr h) (inl k) = absurd (text-none Plan bytes h.trees other k h.read)
plan_fault_one one bytes fault other (inr h) (inr k) =
    let both : Some h.found ≡ Some k.found =
    sym h.is_first ∙
    ap (λ ts. first (plan_faults (members ts)))
    (AreTreesOf-one bytes h.trees k.trees h.read.are k.read.are) ∙
    k.is_first
    in
    let same : h.found ≡ k.found = cc in h.is ∙ ap (in_file Plan) same ∙ sym k.is

-- the trees of a plan file have a first fault, or are its lines
trees_read : (bytes : List ℕ) (task : Task) (trees : Trees) → AreRead bytes trees → (faults : List Fault) →
    plan_faults (members trees) ≡ faults → HasPlanFault bytes ⊎ HasLines bytes task
trees_read bytes task trees read [] are =
    inr (
      map (line_of (folded bytes) task) (members trees),
      record {
        trees = trees;
        read = read;
        no_fault = are;
        each = refl;
      },
    )
trees_read bytes task trees read (fault ∷ rest) are =
    inl (
      in_file Plan fault,
      inr (record {
        trees = trees;
        read = read;
        found = fault;
        is_first = ap first are;
        is = refl;
      }),
    )

file_read : (bytes : List ℕ) (task : Task) → HasForms bytes ⊎ GivesFault bytes →
    HasPlanFault bytes ⊎ HasLines bytes task
file_read bytes task (inl has) =
    trees_read bytes task has.1.0 (record { faultless = has.0; are = has.1.1 }) _ refl
file_read bytes task (inr gives) =
    inl (text_in_file Plan gives.0, inl (record { given = gives.0; is_given = gives.1; is = refl }))

-- a plan file that may be read has a first fault or lines
pub fault_or_lines : FormsOrFault → FaultOrLines
fault_or_lines either_way bytes task short = file_read bytes task (either_way bytes short).0

-- the forms of a plan file without a fault are its lines
pub are_lines : (bytes : List ℕ) (task : Task) (list forms : List Form) (lines : List PlanLine) →
    AreRead bytes (trees_of list) → forms ≡ list → first (plan_faults (trees forms)) ≡ None →
    lines ≡ map (line_of (folded bytes) task) (trees forms) → AreLines bytes task lines
are_lines bytes task list forms lines read same none are =
    let ts : trees forms ≡ members (trees_of list) = ap trees same ∙ sym (members-trees_of list) in
    record {
      trees = trees_of list;
      read = read;
      no_fault = faultless (plan_faults (members (trees_of list)))
          (sym (ap (λ t. first (plan_faults t)) ts) ∙ none);
      each = are ∙ ap (map (line_of (folded bytes) task)) ts;
    }

-- the first fault of its forms is one of the file
pub is_plan_fault : (bytes : List ℕ) (list forms : List Form) (fault : Fault) →
    AreRead bytes (trees_of list) →
    forms ≡ list → first (plan_faults (trees forms)) ≡ Some fault → IsPlanFault bytes (in_file Plan fault)
is_plan_fault bytes list forms fault read same some =
    let ts : trees forms ≡ members (trees_of list) = ap trees same ∙ sym (members-trees_of list) in
    inr (record {
      trees = trees_of list;
      read = read;
      found = fault;
      is_first = sym (ap (λ t. first (plan_faults t)) ts) ∙ some;
      is = refl;
    })
