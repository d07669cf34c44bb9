-- The applicable steps of a schema are the steps under the answers of its query, row by row.
use Rattle.std.proofs.Common.{◌≡◌, ◌≢◌, ℕ, ◌<◌, Bool, true, false, not, ◌&&◌, ◌==◌, if◌then◌else◌, List, []}
use Rattle.std.proofs.Common.{◌∷◌, length, map, filter, get_or, Option, Some, None, slice_get, refl, sym, ◌∙◌}
use Rattle.std.proofs.Common.{ap, subst, arith, inl, inr, IsTrue, Contains}
use Rattle.std.specs.Prelude.{slice_index}
use Rattle.std.specs.List.{AllPairs, flat_map, list_all, range_with_len}
use Rattle.std.specs.List.Sorted.{IsStrictlySortedBy}
use Rattle.std.proofs.lemmas.Bool.{and_parts, and_from, false≢true}
use Rattle.std.proofs.lemmas.Grind.{same_number_lists}
use Rattle.std.proofs.lemmas.List.{length-map, get_or-map as list_map}
use Rattle.std.proofs.lemmas.List.Elements.{Contains-get_or}
use Rattle.pl_rows.specs.Rows.{row_cmp}
use Rattle.pl_rows.proofs.Canonical.{Contains-cons_cases, Contains-cons_first, Contains-cons_rest}
use Rattle.pl_rows.proofs.Canonical.{Contains-nil, same_ascending}
use Rattle.pl_task.specs.declared.data.Atom.{Atom}
use Rattle.pl_task.specs.declared.data.Literal.{Literal}
use Rattle.pl_task.specs.declared.data.Literal.TheVariants as literal
use Rattle.pl_task.specs.declared.data.Schema.{Schema}
use Rattle.pl_task.specs.declared.data.Term.{Term}
use Rattle.pl_task.specs.declared.task.Task.{Task}
use Rattle.pl_task.specs.Instance.{Instance}
use Rattle.pl_task.specs.States.{State, value_of, is_applicable}
use Rattle.pl_task.proofs.TypeLemmas.{is_applicable-decides}
use Rattle.pl_join.specs.declared.slot.Slot.{Slot}
use Rattle.pl_join.specs.declared.slot.Slot.TheVariants.{Fixed, Class}
use Rattle.pl_join.specs.Relation.{Assignment, Agree, slot_value}
use Rattle.pl_join.proofs.Assignments.{agree_map}
use Rattle.pl_join.proofs.Members.{Contains-map, Contains-from_map, Contains-filter, Contains-from_filter}
use Rattle.pl_join.proofs.Members.{Contains-from_flat_map}
use Rattle.pl_normal.specs.declared.form.Edge.{Edge}
use Rattle.pl_normal.specs.declared.form.Sieve.{Sieve}
use Rattle.pl_normal.specs.declared.form.Sieve.TheVariants as sieve
use Rattle.pl_normal.specs.declared.form.Source.TheVariants as source
use Rattle.pl_normal.specs.Slots.{parameter_slots, slot_at, slot_of, slots_of, is_fixed, are_fixed, class_set}
use Rattle.pl_normal.specs.Edges.{type_edge, edges_of}
use Rattle.pl_normal.specs.Filters.{literal_sieve, sieves_of, home, late_at, late_among, late_of}
use Rattle.pl_normal.specs.Guards.{guards_of}
use Rattle.pl_normal.specs.Measures.{assigned}
use Rattle.pl_normal.specs.ParameterOrder.{classes_in_order, order_of}
use Rattle.pl_normal.specs.Query.{KeepsStatic, values_of, meets_guard, meets_sieve, is_local_answer}
use Rattle.pl_normal.specs.Query.{is_answer, args_under, step_under}
use Rattle.pl_normal.specs.StepOrder.{step_cmp}
use Rattle.pl_normal.specs.Steps.{tuples, place_of, step_of, steps_of, all_steps, applicable_steps}
use Rattle.pl_normal.proofs.Lists.{passes_all, all_pass}
use Rattle.pl_normal.proofs.SlotLemmas.{term_value, terms_values}
use Rattle.pl_normal.proofs.Answering.{answer_meets, meets_answer, type_edge_among, answer_applicable}
use Rattle.pl_normal.proofs.Answering.{applicable_answer, applicable_under}
use Rattle.pl_normal.proofs.Ordered.{IsUnfixed, term_unfixed, in_order_unfixed, classes_once}
use Rattle.pl_normal.proofs.Listing.{sorted_none, sorted_first, sorted_map, sorted_filter, place_is}
use Rattle.pl_normal.proofs.Listing.{one_place, block_ascends, applicable_listed, step_order_total}
use Rattle.pl_normal.proofs.Listing.{steps_are_assignments, steps_compare}
use Rattle.pl_gen.specs.SchemaSteps.{AreRowsOf, applicable_of, step_at, passes_late}
use Rattle.pl_normal.proofs.Unchanging.{all_agree}
use Rattle.pl_gen.proofs.Blocks.{no_members, filter-flat_map}

-- ---- schema by schema

pub steps_come_by_schemas : (task : Task) (s : State) →
    applicable_steps task s ≡ flat_map (applicable_of task s) (range_with_len 0 (length task.schemas))
unfolding applicable_steps all_steps applicable_of
steps_come_by_schemas task s =
    filter-flat_map (is_applicable task s) (steps_of task) (range_with_len 0 (length task.schemas))

-- all tuples of objects for the parameters of a schema
abbrev tuples_of : Task → ℕ → List (List ℕ)
tuples_of task number = tuples (length task.objects) (length (order_of task number))

-- the steps of a schema's block have its number
pub block_number : (task : Task) (s : State) (number : ℕ) (step : Instance) →
    Contains (applicable_of task s number) step → step.schema ≡ number
unfolding applicable_of
block_number task s number step h =
    let listed = (Contains-from_filter (is_applicable task s) (steps_of task number) step h).0 in
    of_tuple (Contains-from_map (step_of number (order_of task number)) (tuples_of task number) step listed)
  where
    of_tuple : (tuple : List ℕ) × Contains (tuples_of task number) tuple ×
        (step_of number (order_of task number) tuple ≡ step) → step.schema ≡ number
    of_tuple (tuple, m, e) = sym (ap (λ (x : Instance). x.schema) e)

block_passes : (task : Task) (s : State) (number : ℕ) (step : Instance) →
    Contains (applicable_of task s number) step → is_applicable task s step ≡ true
unfolding applicable_of
block_passes task s number step h =
    (Contains-from_filter (is_applicable task s) (steps_of task number) step h).1

-- an applicable step stands in the block of its schema
block_has : (task : Task) (s : State) (step : Instance) → is_applicable task s step ≡ true →
    Contains (applicable_of task s step.schema) step
block_has task s step h =
    let listed = (applicable_listed task s step).1 ((is_applicable-decides task s step).0 h) in
    of_block (Contains-from_flat_map (applicable_of task s) (range_with_len 0 (length task.schemas)) step
    (subst (λ xs. Contains xs step) (steps_come_by_schemas task s) listed))
  where
    of_block : (j : ℕ) × Contains (range_with_len 0 (length task.schemas)) j ×
        Contains (applicable_of task s j) step → Contains (applicable_of task s step.schema) step
    of_block (j, low, m) =
        subst (λ k. Contains (applicable_of task s k) step) (sym (block_number task s j step m)) m

block_rises : (task : Task) (s : State) (number : ℕ) (schema : Schema) →
    slice_get task.schemas number ≡ Some schema →
    IsStrictlySortedBy (step_cmp task) (applicable_of task s number)
unfolding applicable_of
block_rises task s number schema found =
    sorted_filter (step_cmp task) (is_applicable task s) (steps_of task number)
    (block_ascends task number schema found)

-- ---- the assignment of a row

-- the assignment of a row gives the row back
pub assigned_row : (classes row : List ℕ) → AllPairs (λ a b. a ≢ b) classes → length row ≡ length classes →
    map (assigned classes row) classes ≡ row
assigned_row classes row once long =
    same_number_lists (map (assigned classes row) classes) row
    (length-map classes (assigned classes row) ∙ sym long)
    (λ i h. at i (omega (arith, h, length-map classes (assigned classes row))))
  where
    at : (i : ℕ) → i < length classes → get_or (map (assigned classes row) classes) i 0 ≡ get_or row i 0
    at i h =
        let place : ℕ = place_of (get_or classes i 0) classes in
        let (low, back) = place_is (get_or classes i 0) classes (Contains-get_or classes i 0 h) in
        list_map (assigned classes row) classes i 0 0 h
        ∙ ap (slice_index row) (one_place classes place i once low h back)

-- the assignment of another's row agrees with it
pub assigned_agrees : (classes : List ℕ) (f : Assignment) → AllPairs (λ a b. a ≢ b) classes →
    Agree classes (assigned classes (map f classes)) f
assigned_agrees classes f once =
    agree_map classes (assigned classes (map f classes)) f
    (assigned_row classes (map f classes) once (length-map classes f))

-- the objects of the unfixed classes under an assignment, and the assignment of such a row
abbrev row_under : Schema → Assignment → List ℕ
row_under schema f = map f (classes_in_order schema)

abbrev of_row : Schema → List ℕ → Assignment
of_row schema row = assigned (classes_in_order schema) row

pub step_at-is : (task : Task) (number : ℕ) (schema : Schema) (f : Assignment) →
    slice_get task.schemas number ≡ Some schema →
    step_at number schema (row_under schema f) ≡ step_under number schema f
step_at-is task number schema f found =
    (steps_are_assignments task number schema (of_row schema (row_under schema f)) f found).1
    (assigned_agrees (classes_in_order schema) f (classes_once schema))

-- the row of an assignment that passes
abbrev IsRowUnder : Schema → (Assignment → Bool) → List ℕ → Type 0
IsRowUnder schema passes row = (f : Assignment) × IsTrue (passes f) × (row ≡ row_under schema f)

pub row_long : (schema : Schema) (passes : Assignment → Bool) (rows : List (List ℕ)) (row : List ℕ) →
    AreRowsOf schema passes rows → Contains rows row → length row ≡ length (classes_in_order schema)
row_long schema passes rows row are m = of_one ((are.members row).0 m)
  where
    of_one : IsRowUnder schema passes row → length row ≡ length (classes_in_order schema)
    of_one (f, p, is) = ap length is ∙ length-map (classes_in_order schema) f

-- ---- the steps under the answers

rows_rise : (task : Task) (number : ℕ) (schema : Schema) (passes : Assignment → Bool) (rows : List (List ℕ)) →
    slice_get task.schemas number ≡ Some schema → AreRowsOf schema passes rows →
    IsStrictlySortedBy (step_cmp task) (map (step_at number schema) rows)
rows_rise task number schema passes rows found are =
    sorted_map row_cmp (step_cmp task) (step_at number schema) rows
    (λ x y a b. steps_compare task number schema (of_row schema x) (of_row schema y) found
    ∙ (λ i. row_cmp (back x a i) (back y b i)))
    are.ascending
  where
    back : (x : List ℕ) → Contains rows x → row_under schema (of_row schema x) ≡ x
    back x a =
        assigned_row (classes_in_order schema) x (classes_once schema) (row_long schema passes rows x are a)

-- a step of the block is that of an answer, which gives each class the object of the parameter that names it
record IsOfAnswer (task : Task) (number : ℕ) (schema : Schema) (s : State) (step : Instance) : Type 0 where
  whole : step ≡ step_under number schema (slice_index step.args)
  answer : is_answer task schema s (slice_index step.args) ≡ true

of_answer : (task : Task) (number : ℕ) (schema : Schema) (s : State) (step : Instance) →
    slice_get task.schemas number ≡ Some schema → KeepsStatic task s →
    Contains (applicable_of task s number) step → IsOfAnswer task number schema s step
of_answer task number schema s step found keeps h =
    let same : step.schema ≡ number = block_number task s number step h in
    let at : slice_get task.schemas step.schema ≡ Some schema = ap (slice_get task.schemas) same ∙ found in
    let passes : is_applicable task s step ≡ true = block_passes task s number step h in
    let is : step ≡ step_under number schema (slice_index step.args) =
    applicable_under task schema s step at passes
    ∙ ap (λ k. step_under k schema (slice_index step.args)) same in
    record {
      whole = is;
      answer = applicable_answer task number schema s (slice_index step.args) found keeps
          (subst (λ x. is_applicable task s x ≡ true) is passes);
    }

step_has_row : (task : Task) (number : ℕ) (schema : Schema) (s : State) (rows : List (List ℕ))
    (step : Instance) →
    slice_get task.schemas number ≡ Some schema → KeepsStatic task s →
    AreRowsOf schema (is_answer task schema s) rows →
    Contains (applicable_of task s number) step → Contains (map (step_at number schema) rows) step
step_has_row task number schema s rows step found keeps are h =
    let is = of_answer task number schema s step found keeps h in
    let among : Contains rows (row_under schema (slice_index step.args)) =
    (are.members (row_under schema (slice_index step.args))).1 (slice_index step.args, is.answer, refl) in
    subst (Contains (map (step_at number schema) rows))
    (step_at-is task number schema (slice_index step.args) found ∙ sym is.whole)
    (Contains-map (step_at number schema) rows (row_under schema (slice_index step.args)) among)

row_has_step : (task : Task) (number : ℕ) (schema : Schema) (s : State) (rows : List (List ℕ))
    (step : Instance) →
    slice_get task.schemas number ≡ Some schema → KeepsStatic task s →
    AreRowsOf schema (is_answer task schema s) rows →
    Contains (map (step_at number schema) rows) step → Contains (applicable_of task s number) step
row_has_step task number schema s rows step found keeps are h =
    of_member (Contains-from_map (step_at number schema) rows step h)
  where
    of_passing : (row : List ℕ) → step_at number schema row ≡ step →
        IsRowUnder schema (is_answer task schema s) row → Contains (applicable_of task s number) step
    of_passing row e (f, p, is) =
        let same : step_at number schema row ≡ step_under number schema f =
        ap (step_at number schema) is ∙ step_at-is task number schema f found in
        let ok : is_applicable task s (step_under number schema f) ≡ true =
        answer_applicable task number schema s f found keeps p in
        subst (Contains (applicable_of task s number)) (sym same ∙ e)
        (block_has task s (step_under number schema f) ok)

    of_member : (row : List ℕ) × Contains rows row × (step_at number schema row ≡ step) →
        Contains (applicable_of task s number) step
    of_member (row, m, e) = of_passing row e ((are.members row).0 m)

pub rows_are_steps : (task : Task) (number : ℕ) (schema : Schema) (s : State) (rows : List (List ℕ)) →
    slice_get task.schemas number ≡ Some schema → KeepsStatic task s →
    AreRowsOf schema (is_answer task schema s) rows →
    applicable_of task s number ≡ map (step_at number schema) rows
rows_are_steps task number schema s rows found keeps are =
    same_ascending (step_cmp task) (step_order_total task)
    (applicable_of task s number) (map (step_at number schema) rows)
    (block_rises task s number schema found)
    (rows_rise task number schema (is_answer task schema s) rows found are)
    (λ step. (
      step_has_row task number schema s rows step found keeps are,
      row_has_step task number schema s rows step found keeps are,
    ))

-- ---- late filters

-- the filters of a schema, local and late
abbrev pub filters_of : Schema → List Sieve
filters_of schema = sieves_of (parameter_slots schema) schema.condition

abbrev term_slot : Schema → Term → Slot
term_slot schema t = slot_of (parameter_slots schema) t

abbrev term_slots : Schema → List Term → List Slot
term_slots schema terms = slots_of (parameter_slots schema) terms

is_late : (place : Option ℕ) (y x : Sieve) → Contains (late_at place y) x → y ≡ x
is_late (Some n) y x c = absurd (Contains-nil x c)
is_late None y x c = elim (Contains-cons_cases y [] x c) [
  | inl e ↦ e
  | inr r ↦ absurd (Contains-nil x r)
]

pub late_filter : (schema : Schema) (x : Sieve) → Contains (late_of schema) x → Contains (filters_of schema) x
unfolding late_of late_among
late_filter schema x h =
    of_one (Contains-from_flat_map (λ z. late_at (home (edges_of schema) z) z) (filters_of schema) x h)
  where
    of_one : (y : Sieve) × Contains (filters_of schema) y ×
        Contains (late_at (home (edges_of schema) y) y) x → Contains (filters_of schema) x
    of_one (y, m, c) = subst (Contains (filters_of schema)) (is_late (home (edges_of schema) y) y x c) m

abbrev row_atom : ℕ → List ℕ → Atom
row_atom predicate row = record { predicate = predicate; objects = row }

absent_agrees : (s : State) (f g : Assignment) (predicate : ℕ) (slots : List Slot) (x : Sieve) (b : Bool) →
    values_of f slots ≡ values_of g slots →
    Contains (if b then [] else sieve.Absent predicate slots ∷ []) x → meets_sieve s f x ≡ meets_sieve s g x
absent_agrees s f g predicate slots x true same c = absurd (Contains-nil x c)
absent_agrees s f g predicate slots x false same c =
    let is : meets_sieve s f (sieve.Absent predicate slots) ≡ meets_sieve s g (sieve.Absent predicate slots) =
    ap (λ row. not (s (row_atom predicate row))) same in
    elim (Contains-cons_cases (sieve.Absent predicate slots) [] x c) [
      | inl e ↦ subst (λ y. meets_sieve s f y ≡ meets_sieve s g y) e is
      | inr r ↦ absurd (Contains-nil x r)
    ]

unequal_agrees : (s : State) (f g : Assignment) (a b : Slot) (x : Sieve) (fixed : Bool) →
    slot_value f a ≡ slot_value g a → slot_value f b ≡ slot_value g b →
    Contains (if fixed then [] else sieve.NotEqual a b ∷ []) x → meets_sieve s f x ≡ meets_sieve s g x
unequal_agrees s f g a b x true first second c = absurd (Contains-nil x c)
unequal_agrees s f g a b x false first second c = elim (Contains-cons_cases (sieve.NotEqual a b) [] x c) [
  | inl e ↦ subst (λ y. meets_sieve s f y ≡ meets_sieve s g y) e (λ i. not (first i == second i))
  | inr r ↦ absurd (Contains-nil x r)
]

-- a term has one value under assignments that give the parameters the same objects
term_agrees : (schema : Schema) (f g : Assignment) (t : Term) → args_under schema f ≡ args_under schema g →
    slot_value f (term_slot schema t) ≡ slot_value g (term_slot schema t)
term_agrees schema f g t same =
    sym (term_value schema f t) ∙ (ap (λ args. value_of args t) same ∙ term_value schema g t)

pub terms_agree : (schema : Schema) (f g : Assignment) (terms : List Term) →
    args_under schema f ≡ args_under schema g →
    values_of f (term_slots schema terms) ≡ values_of g (term_slots schema terms)
terms_agree schema f g terms same =
    sym (terms_values schema f terms)
    ∙ (ap (λ args. map (value_of args) terms) same ∙ terms_values schema g terms)

literal_agrees : (schema : Schema) (s : State) (f g : Assignment) (l : Literal) (x : Sieve) →
    args_under schema f ≡ args_under schema g → Contains (literal_sieve (parameter_slots schema) l) x →
    meets_sieve s f x ≡ meets_sieve s g x
literal_agrees schema s f g (literal.Atom a) x same c = absurd (Contains-nil x c)
literal_agrees schema s f g (literal.Equal a b) x same c = absurd (Contains-nil x c)
literal_agrees schema s f g (literal.NotAtom a) x same c =
    absent_agrees s f g a.predicate (term_slots schema a.terms) x (are_fixed (term_slots schema a.terms))
    (terms_agree schema f g a.terms same) c
literal_agrees schema s f g (literal.NotEqual a b) x same c =
    unequal_agrees s f g (term_slot schema a) (term_slot schema b) x
    (is_fixed (term_slot schema a) && is_fixed (term_slot schema b))
    (term_agrees schema f g a same) (term_agrees schema f g b same) c

pub filter_agrees : (schema : Schema) (s : State) (f g : Assignment) (x : Sieve) →
    args_under schema f ≡ args_under schema g → Contains (filters_of schema) x →
    meets_sieve s f x ≡ meets_sieve s g x
unfolding sieves_of
filter_agrees schema s f g x same h =
    of_literal (Contains-from_flat_map (literal_sieve (parameter_slots schema)) schema.condition x h)
  where
    of_literal : (l : Literal) × Contains schema.condition l ×
        Contains (literal_sieve (parameter_slots schema) l) x → meets_sieve s f x ≡ meets_sieve s g x
    of_literal (l, m, c) = literal_agrees schema s f g l x same c

-- whether an assignment meets the late filters
abbrev late_met : State → Schema → Assignment → Bool
late_met s schema f = list_all (meets_sieve s f) (late_of schema)

-- the late filters say of an assignment's row what they say of the assignment
late_row : (task : Task) (number : ℕ) (schema : Schema) (s : State) (f : Assignment) →
    slice_get task.schemas number ≡ Some schema →
    passes_late schema s (row_under schema f) ≡ late_met s schema f
late_row task number schema s f found =
    all_agree (meets_sieve s (of_row schema (row_under schema f))) (meets_sieve s f) (late_of schema)
    (λ x c. filter_agrees schema s (of_row schema (row_under schema f)) f x
    (ap (λ (step : Instance). step.args) (step_at-is task number schema f found)) (late_filter schema x c))

pub late_filters_are_last : (task : Task) (number : ℕ) (schema : Schema) (s : State) (rows : List (List ℕ)) →
    slice_get task.schemas number ≡ Some schema → AreRowsOf schema (is_local_answer task schema s) rows →
    AreRowsOf schema (is_answer task schema s) (filter (passes_late schema s) rows)
unfolding is_answer
late_filters_are_last task number schema s rows found are = record {
  ascending = sorted_filter row_cmp (passes_late schema s) rows are.ascending;
  members = λ row. (from_kept row, to_kept row);
}
  where
    of_local : (row : List ℕ) → passes_late schema s row ≡ true →
        IsRowUnder schema (is_local_answer task schema s) row →
        IsRowUnder schema (is_answer task schema s) row
    of_local row late (f, p, is) =
        let met = sym (ap (passes_late schema s) is ∙ late_row task number schema s f found) ∙ late in
        (f, and_from (is_local_answer task schema s f) (late_met s schema f) p met, is)

    from_kept : (row : List ℕ) → Contains (filter (passes_late schema s) rows) row →
        IsRowUnder schema (is_answer task schema s) row
    from_kept row h =
        let both = Contains-from_filter (passes_late schema s) rows row h in
        of_local row both.1 ((are.members row).0 both.0)

    to_kept : (row : List ℕ) → IsRowUnder schema (is_answer task schema s) row →
        Contains (filter (passes_late schema s) rows) row
    to_kept row (f, p, is) =
        let both = and_parts (is_local_answer task schema s f) (late_met s schema f) p in
        Contains-filter (passes_late schema s) rows row ((are.members row).1 (f, both.0, is))
        (ap (passes_late schema s) is ∙ (late_row task number schema s f found ∙ both.1))

-- ---- guards

pub false_guards_stop : (task : Task) (number : ℕ) (schema : Schema) (s : State) →
    slice_get task.schemas number ≡ Some schema → KeepsStatic task s →
    list_all (meets_guard s) (guards_of task schema) ≡ false → applicable_of task s number ≡ []
false_guards_stop task number schema s found keeps failed = no_members (applicable_of task s number) none
  where
    none : (step : Instance) → Contains (applicable_of task s number) step → ⊥
    none step h =
        let is = of_answer task number schema s step found keeps h in
        let met = (answer_meets task schema s (slice_index step.args) is.answer).guards in
        false≢true (sym failed ∙ all_pass (meets_guard s) (guards_of task schema) met)

-- ---- schemas without edges

abbrev NoneUnfixed : Schema → Type 0
NoneUnfixed schema = (c : ℕ) → IsUnfixed schema c → ⊥

abbrev kind_edge : ℕ → ℕ → Edge
kind_edge p c = record { source = source.Kind p; slots = Class c ∷ []; classes = class_set (Class c ∷ []) }

-- a schema without edges has no unfixed class
none_unfixed : (schema : Schema) → edges_of schema ≡ [] → NoneUnfixed schema
none_unfixed schema bare c (p, below, at) =
    let own : Contains (type_edge p (slot_at (parameter_slots schema) p)) (kind_edge p c) =
    subst (λ s. Contains (type_edge p s) (kind_edge p c)) (sym at) (Contains-cons_first (kind_edge p c) []) in
    Contains-nil (kind_edge p c)
    (subst (λ es. Contains es (kind_edge p c)) bare (type_edge_among schema p (kind_edge p c) below own))

some_class : (slots : List Slot) → are_fixed slots ≡ false → (c : ℕ) × Contains slots (Class c)
some_class [] h = absurd (false≢true (sym h))
some_class (Class c ∷ slots) h = (c, Contains-cons_first (Class c) slots)
some_class (Fixed o ∷ slots) h =
    let (c, m) = some_class slots h in (c, Contains-cons_rest (Fixed o) slots (Class c) m)

no_absence : (schema : Schema) (predicate : ℕ) (terms : List Term) (x : Sieve) (fixed : Bool) →
    NoneUnfixed schema → are_fixed (term_slots schema terms) ≡ fixed →
    Contains (if fixed then [] else sieve.Absent predicate (term_slots schema terms) ∷ []) x → ⊥
no_absence schema predicate terms x true none e h = Contains-nil x h
no_absence schema predicate terms x false none e h = of_class (some_class (term_slots schema terms) e)
  where
    of_term : (c : ℕ) → (t : Term) × Contains terms t × (term_slot schema t ≡ Class c) → ⊥
    of_term c (t, m, at) = none c (term_unfixed schema t c at)

    of_class : (c : ℕ) × Contains (term_slots schema terms) (Class c) → ⊥
    of_class (c, m) = of_term c (Contains-from_map (slot_of (parameter_slots schema)) terms (Class c) m)

both_fixed : (a b : Slot) → ((c : ℕ) → a ≡ Class c → ⊥) → ((c : ℕ) → b ≡ Class c → ⊥) →
    (is_fixed a && is_fixed b) ≡ true
both_fixed (Fixed x) (Fixed y) first second = refl
both_fixed (Fixed x) (Class d) first second = absurd (second d refl)
both_fixed (Class c) b first second = absurd (first c refl)

no_inequality : (schema : Schema) (a b : Term) (x : Sieve) (fixed : Bool) → NoneUnfixed schema →
    (is_fixed (term_slot schema a) && is_fixed (term_slot schema b)) ≡ fixed →
    Contains (if fixed then [] else sieve.NotEqual (term_slot schema a) (term_slot schema b) ∷ []) x → ⊥
no_inequality schema a b x true none e h = Contains-nil x h
no_inequality schema a b x false none e h =
    false≢true (sym e ∙ both_fixed (term_slot schema a) (term_slot schema b)
    (λ c at. none c (term_unfixed schema a c at)) (λ c at. none c (term_unfixed schema b c at)))

literal_filters : (schema : Schema) (l : Literal) (x : Sieve) → NoneUnfixed schema →
    Contains (literal_sieve (parameter_slots schema) l) x → ⊥
literal_filters schema (literal.Atom a) x none h = Contains-nil x h
literal_filters schema (literal.Equal a b) x none h = Contains-nil x h
literal_filters schema (literal.NotAtom a) x none h =
    no_absence schema a.predicate a.terms x (are_fixed (term_slots schema a.terms)) none refl h
literal_filters schema (literal.NotEqual a b) x none h =
    no_inequality schema a b x (is_fixed (term_slot schema a) && is_fixed (term_slot schema b)) none refl h

-- so it has no filter and no class
no_filter : (schema : Schema) (x : Sieve) → edges_of schema ≡ [] → Contains (filters_of schema) x → ⊥
unfolding sieves_of
no_filter schema x bare h =
    of_literal (Contains-from_flat_map (literal_sieve (parameter_slots schema)) schema.condition x h)
  where
    of_literal : (l : Literal) × Contains schema.condition l ×
        Contains (literal_sieve (parameter_slots schema) l) x → ⊥
    of_literal (l, m, c) = literal_filters schema l x (none_unfixed schema bare) c

pub no_class : (schema : Schema) → edges_of schema ≡ [] → classes_in_order schema ≡ []
no_class schema bare =
    no_members (classes_in_order schema) (λ c h. none_unfixed schema bare c (in_order_unfixed schema c h))

bare_answer : (task : Task) (schema : Schema) (s : State) (f : Assignment) →
    list_all (meets_guard s) (guards_of task schema) ≡ true → edges_of schema ≡ [] →
    is_answer task schema s f ≡ true
bare_answer task schema s f met bare = meets_answer task schema s f (record {
  edges = λ e c. absurd (Contains-nil e (subst (λ es. Contains es e) bare c));
  guards = λ g c. passes_all (meets_guard s) (guards_of task schema) g met c;
  sieves = λ x c. absurd (no_filter schema x bare c);
})

-- the empty row is its one answer
bare_row : (task : Task) (schema : Schema) (s : State) →
    list_all (meets_guard s) (guards_of task schema) ≡ true → edges_of schema ≡ [] →
    AreRowsOf schema (is_answer task schema s) ([] ∷ [])
bare_row task schema s met bare = record {
  ascending = sorted_first row_cmp [] [] (λ y c. absurd (Contains-nil y c)) (sorted_none row_cmp);
  members = λ row. (from_row row, to_row row);
}
  where
    zeros : Assignment
    zeros c = 0

    answer : is_answer task schema s zeros ≡ true
    answer = bare_answer task schema s zeros met bare

    from_row : (row : List ℕ) → Contains ([] ∷ []) row → IsRowUnder schema (is_answer task schema s) row
    from_row row h = elim (Contains-cons_cases [] [] row h) [
      | inl e ↦ (zeros, answer, sym e ∙ ap (map zeros) (sym (no_class schema bare)))
      | inr r ↦ absurd (Contains-nil row r)
    ]

    to_row : (row : List ℕ) → IsRowUnder schema (is_answer task schema s) row → Contains ([] ∷ []) row
    to_row row (f, p, is) =
        subst (Contains ([] ∷ [])) (sym (is ∙ ap (map f) (no_class schema bare))) (Contains-cons_first [] [])

pub no_edge_is_one_step : (task : Task) (number : ℕ) (schema : Schema) (s : State) →
    slice_get task.schemas number ≡ Some schema → KeepsStatic task s →
    list_all (meets_guard s) (guards_of task schema) ≡ true → edges_of schema ≡ [] →
    applicable_of task s number ≡ step_at number schema [] ∷ []
no_edge_is_one_step task number schema s found keeps met bare =
    rows_are_steps task number schema s ([] ∷ []) found keeps (bare_row task schema s met bare)
