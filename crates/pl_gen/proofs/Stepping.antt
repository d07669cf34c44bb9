-- The steps of a walk one by one: values of classes, objects of parameters, rows, turns and places.
use Rattle.std.proofs.Common.{◌≡◌, ◌≢◌, ℕ, ◌+◌, ◌-◌, ◌<◌, ◌≤◌, ◌↔◌, ◌⊎◌, inl, inr, zero, suc, Bool, true}
use Rattle.std.proofs.Common.{false, not, cond, IsTrue, List, [], ◌∷◌, ◌++◌, length, map, filter, take, drop}
use Rattle.std.proofs.Common.{get_or, set, Bor, Option, Some, None, slice_get, refl, sym, ◌∙◌, ap, subst}
use Rattle.std.proofs.Common.{arith, All, Contains}
use Rattle.std.specs.Prelude.{slice_index, slice_index_or}
use Rattle.std.specs.List.{AllPairs, flat_map, list_all, range_with_len}
use Rattle.std.proofs.lemmas.Grind.{same_number_lists}
use Rattle.std.proofs.lemmas.List.{length-map, length-take, get_or-take, get_or_default, get_or-set_same}
use Rattle.std.proofs.lemmas.List.{get_or-set_other, length-append, get_or-map as list_map}
use Rattle.std.proofs.lemmas.List.Elements.{Contains-get_or}
use Rattle.pl_task.specs.declared.data.Schema.{Schema}
use Rattle.pl_task.specs.declared.task.Task.{Task}
use Rattle.pl_task.specs.Instance.{Instance}
use Rattle.pl_task.specs.States.{State, IsStep}
use Rattle.pl_rows.proofs.Canonical.{Contains-nil}
use Rattle.pl_join.specs.declared.slot.Slot.{Slot}
use Rattle.pl_join.specs.declared.slot.Slot.TheVariants.{Fixed, Class}
use Rattle.pl_join.specs.Relation.{Assignment, Agree, slot_value}
use Rattle.std.specs.Option.{option_map}
use Rattle.std.proofs.lemmas.Option.{get_or_from_slice_get, slice_get-get_or, slice_get_within}
use Rattle.pl_rows.specs.Rows.{Rows}
use Rattle.pl_reduce.specs.Nodes.{ReducedJoin}
use Rattle.pl_cursor.specs.Cursor.{CursorView, Gives, AreAnswersPast, is_past, IsStep as IsCursorStep}
use Rattle.pl_task.specs.declared.data.PredicateDef.{PredicateDef}
use Rattle.pl_normal.specs.declared.form.Sieve.{Sieve}
use Rattle.pl_normal.specs.declared.form.Sieve.TheVariants as sieve
use Rattle.pl_normal.specs.Classes.{equalities, class_of, parameter_classes, object_of, fixings}
use Rattle.pl_normal.specs.Filters.{late_of}
use Rattle.pl_normal.specs.Measures.{assigned}
use Rattle.pl_normal.specs.ParameterOrder.{classes_in_order, parameter_order}
use Rattle.pl_normal.specs.Query.{args_under, step_under, meets_sieve, values_of}
use Rattle.pl_state.specs.Layout.{atom_of}
use Rattle.pl_state.specs.StateOf.{state_in}
use Rattle.pl_state.proofs.StatesOfWords.{same_test}
use Rattle.pl_normal.specs.Slots.{class_slot, fixed_objects, parameter_slots, slot_at}
use Rattle.pl_normal.specs.Steps.{place_of}
use Rattle.pl_normal.proofs.Listing.{place_is, one_place, steps_are_assignments}
use Rattle.pl_normal.proofs.SlotLemmas.{class_at, parameter_value, parameter_slots-length, args_under-length}
use Rattle.pl_normal.proofs.SlotLemmas.{parameter_classes-length}
use Rattle.pl_normal.proofs.Joined.{class_of-within}
use Rattle.pl_normal.proofs.Forming.{slots_within}
use Rattle.pl_normal.proofs.Ordered.{classes_once, in_order_unfixed, unfixed_itself}
use Rattle.pl_gen.specs.declared.turn.Turn.{Turn}
use Rattle.pl_gen.specs.declared.turn.Turn.TheVariants as turn
use Rattle.pl_gen.specs.declared.entry.Entry.{Entry}
use Rattle.pl_gen.specs.declared.entry.Entry.TheVariants as entry
use Rattle.pl_gen.specs.Entries.{IsEntry, AreEntriesUpTo, AreTablesFor}
use Rattle.pl_gen.specs.Kept.{turn_steps, turn_steps_of, later_steps, left_of, AreRowsFor, IsTurnOf}
use Rattle.pl_gen.specs.Kept.{IsPrepared}
use Rattle.pl_gen.specs.Walks.{PreparedState, state_of_prepared, step_with, is_above}
use Rattle.pl_gen.specs.SchemaSteps.{applicable_of, passes_late, step_at, class_key}
use Rattle.pl_gen.specs.declared.query.Query.{Query}
use Rattle.pl_gen.specs.Queries.{IsQuery}
use Rattle.pl_gen.specs.Turns.{object_at, object_or, passing, prepared_of, steps_of_turn, HasNextRow}
use Rattle.pl_gen.specs.Turns.{HasNextStep, left_at, step_of_place, TakesStep, IsPlace}
use Rattle.pl_gen.specs.declared.place.Place.{Place}
use Rattle.pl_normal.proofs.Unchanging.{all_agree}
use Rattle.std.specs.declared.cmp.Ordering.{Ordering}
use Rattle.std.specs.Ordering.{is_lt}
use Rattle.pl_normal.specs.StepOrder.{step_cmp}
use Rattle.pl_join.proofs.Assignments.{few_classes}
use Rattle.pl_normal.proofs.Forms.{SchemaOf, schema_of}
use Rattle.pl_normal.proofs.Asking.{definition}
use Rattle.pl_gen.proofs.Turning.{later_more, past_last, over_steps, none_behind, never_turn, once_turn}
use Rattle.pl_gen.proofs.Turning.{rows_turn, rows_for, rows_turn_of, once_turn_of, past_turn, once_past}
use Rattle.pl_gen.proofs.SchemaRows.{filter_agrees, late_filter}
use Rattle.std.proofs.lemmas.Option.{same_Some}

-- ---- the values of the classes

pub values_written : (classes row values : List ℕ) (i : ℕ) → AllPairs (λ a b. a ≢ b) classes
    → length classes ≤ i →
    ((k : ℕ) → k < i → slice_index values (get_or classes k 0) ≡ slice_index row k)
    → Agree classes (slice_index values) (assigned classes row)
values_written classes row values i once end are c (k, low, at) =
    let (place, back) = place_is c classes (k, low, at) in
    let here : get_or classes k 0 ≡ c = get_or_default classes k 0 c low ∙ at in
    let same : place_of c classes ≡ k = one_place classes (place_of c classes) k once place low
    (back ∙ sym here) in
    ap (slice_index values) (sym here) ∙ (are k (omega arith) ∙ ap (slice_index row) (sym same))

pub value_more : (classes row values new : List ℕ) (i class value : ℕ) → AllPairs (λ a b. a ≢ b) classes
    → i < length classes → class ≡ get_or classes i class → value ≡ slice_index row i
    → class < length values →
    new ≡ set values class value
    → ((k : ℕ) → k < i → slice_index values (get_or classes k 0) ≡ slice_index row k) → (k : ℕ)
    → k < i + 1 → slice_index new (get_or classes k 0) ≡ slice_index row k
value_more classes row values new i class value once low at is room made are k h = elim (split k i h) [
  | inl before ↦ ap (λ xs. slice_index xs (get_or classes k 0)) made
      ∙ (get_or-set_other values class (get_or classes k 0) value 0 (apart before) ∙ are k before)
  | inr same ↦ ap (λ xs. slice_index xs (get_or classes k 0)) made
      ∙ (ap (slice_index (set values class value))
      (ap (λ j. get_or classes j 0) same ∙ (get_or_default classes i 0 class low ∙ sym at))
      ∙ (get_or-set_same values class value 0 room ∙ (is ∙ ap (slice_index row) (sym same))))
]
  where
    split : (a b : ℕ) → a < b + 1 → (a < b) ⊎ (a ≡ b)
    split a b h = grind arith

    apart : k < i → get_or classes k 0 ≢ class
    apart before e = once k i 0 before low (e ∙ (at ∙ sym (get_or_default classes i 0 class low)))

-- ---- the objects of the parameters

slot_object : (f : Assignment) (found : Option ℕ) (class : ℕ)
    → slot_value f (class_slot found class) ≡ object_or found (f class)
slot_object f None class = refl
slot_object f (Some o) class = refl

param_object : (schema : Schema) (f : Assignment) (p : ℕ) → p < length (parameter_classes schema) →
    slot_value f (slot_at (parameter_slots schema) p) ≡ object_or
    (slice_index_or (fixed_objects schema) p None) (f (slice_index (parameter_classes schema) p))
unfolding parameter_slots fixed_objects
param_object schema f p low =
    ap (slot_value f)
    (list_map (λ class. class_slot (object_of (parameter_classes schema) (fixings schema.condition) class)
    class) (parameter_classes schema) p 0 (Fixed 0) low)
    ∙ (slot_object f (object_of (parameter_classes schema) (fixings schema.condition)
    (slice_index (parameter_classes schema) p)) (slice_index (parameter_classes schema) p)
    ∙ ap (λ found. object_or found (f (slice_index (parameter_classes schema) p)))
    (sym (list_map (object_of (parameter_classes schema) (fixings schema.condition))
    (parameter_classes schema) p 0 None low)))

pub args_written : (schema : Schema) (fixed : List (Option ℕ)) (classes values args : List ℕ) (i : ℕ)
    → classes ≡ parameter_classes schema → fixed ≡ fixed_objects schema → length args ≡ 64
    → length classes ≤ 64 → length classes ≤ i →
    ((k : ℕ) → k < i → slice_index args k ≡ object_at fixed classes values k)
    → take (length classes) args ≡ args_under schema (slice_index values)
args_written schema fixed classes values args i named given long few end are =
    same_number_lists (take (length classes) args) (args_under schema (slice_index values)) many
    (λ k h. at k (omega (arith, h, count)))
  where
    count : length (take (length classes) args) ≡ length classes
    count = grind (arith, length-take)

    many : length (take (length classes) args) ≡ length (args_under schema (slice_index values))
    many = count ∙ (ap length named
        ∙ (parameter_classes-length schema ∙ sym (args_under-length schema (slice_index values))))

    at : (k : ℕ) → k < length classes → get_or (take (length classes) args) k 0 ≡ get_or
        (args_under schema (slice_index values)) k 0
    at k low =
        get_or-take (length classes) args k 0 low
        ∙ (are k (omega arith)
        ∙ ((λ j. object_or (slice_index_or (given j) k None) (slice_index values (slice_index (named j) k)))
        ∙ (sym (param_object schema (slice_index values) k (subst (λ xs. k < length xs) named low))
        ∙ sym (parameter_value schema (slice_index values) k))))

-- ---- rows that the late filters let pass

-- assignments that agree on the unfixed classes have one step
pub one_step : (task : Task) (number : ℕ) (schema : Schema) (f g : Assignment)
    → slice_get task.schemas number ≡ Some schema → Agree (classes_in_order schema) f g
    → step_under number schema f ≡ step_under number schema g
one_step task number schema f g found agree = (steps_are_assignments task number schema f g found).1 agree

pub late_is : (task : Task) (number : ℕ) (schema : Schema) (s : State) (values row : List ℕ)
    → slice_get task.schemas number ≡ Some schema → Agree (classes_in_order schema) (slice_index values)
    (assigned (classes_in_order schema) row) →
    list_all (meets_sieve s (slice_index values)) (late_of schema) ≡ passes_late schema s row
late_is task number schema s values row found agree =
    all_agree (meets_sieve s (slice_index values)) (meets_sieve s (assigned (classes_in_order schema) row))
    (late_of schema)
    (λ x held. filter_agrees schema s (slice_index values) (assigned (classes_in_order schema) row) x
    (ap (λ (step : Instance). step.args)
    (one_step task number schema (slice_index values) (assigned (classes_in_order schema) row) found
    agree)) (late_filter schema x held))

kept_first : (p : List ℕ → Bool) (row : List ℕ) (rest : List (List ℕ)) (b : Bool) → p row ≡ b → b ≡ true
    → filter p (row ∷ rest) ≡ row ∷ filter p rest
kept_first p row rest b at is = ap (λ x. cond x (row ∷ filter p rest) (filter p rest)) (at ∙ is)

left_out : (p : List ℕ → Bool) (row : List ℕ) (rest : List (List ℕ)) (b : Bool) → p row ≡ b → b ≡ false
    → filter p (row ∷ rest) ≡ filter p rest
left_out p row rest b at is = ap (λ x. cond x (row ∷ filter p rest) (filter p rest)) (at ∙ is)

-- the row that the cursor gave passes
pub row_passes : (p : List ℕ → Bool) (initial old new : List (List ℕ)) (row : List ℕ) (b : Bool)
    → filter p initial ≡ filter p old → old ≡ row ∷ new → b ≡ p row → b ≡ true
    → filter p initial ≡ row ∷ filter p new
row_passes p initial old new row b same gives at is = same
    ∙ (ap (filter p) gives ∙ kept_first p row new b (sym at) is)

-- or it doesn't
pub row_fails : (p : List ℕ → Bool) (initial old new : List (List ℕ)) (row : List ℕ) (b : Bool)
    → filter p initial ≡ filter p old → old ≡ row ∷ new → b ≡ p row → b ≡ false
    → filter p initial ≡ filter p new
row_fails p initial old new row b same gives at is = same
    ∙ (ap (filter p) gives ∙ left_out p row new b (sym at) is)

-- ---- a step of a turn

-- the step under the values is that of the place
pub taken : (p : PreparedState) (number len : ℕ) (schema : Schema) (values args : List ℕ) (t u : Turn)
    → slice_get p.task.schemas number ≡ Some schema → take len args ≡ args_under schema (slice_index values) →
    turn_steps_of p number (Some schema) t ≡ step_under number schema
    (slice_index values) ∷ turn_steps_of p number (Some schema) u
    → turn_steps p number t ≡ step_with number (take len args) ∷ turn_steps p number u
taken p number len schema values args t u found written next =
    ap (λ x. turn_steps_of p number x t) found
    ∙ (next ∙ λ i. step_with number (sym written i) ∷ turn_steps_of p number (sym found i) u)

pub none_taken : (p : PreparedState) (number : ℕ) (schema : Schema) (t : Turn)
    → slice_get p.task.schemas number ≡ Some schema → turn_steps_of p number (Some schema) t ≡ []
    → turn_steps p number t ≡ []
none_taken p number schema t found none = ap (λ x. turn_steps_of p number x t) found ∙ none

-- the next row that passes gives the next step
pub row_step : (task : Task) (p : PreparedState) (number : ℕ) (schema : Schema) (old new : CursorView)
    (values row : List ℕ) → p.task ≡ task → slice_get task.schemas number ≡ Some schema →
    filter (passes_late schema (state_of_prepared p)) old.left ≡ row ∷ filter
    (passes_late schema (state_of_prepared p)) new.left
    → Agree (classes_in_order schema) (slice_index values) (assigned (classes_in_order schema) row) →
    turn_steps_of p number (Some schema) (turn.Rows old) ≡ step_under number schema
    (slice_index values) ∷ turn_steps_of p number (Some schema) (turn.Rows new)
row_step task p number schema old new values row same found next agree =
    ap (map (step_at number schema)) next
    ∙ ap (λ x. x ∷ map (step_at number schema)
    (filter (passes_late schema (state_of_prepared p)) new.left))
    (sym (one_step task number schema (slice_index values) (assigned (classes_in_order schema) row) found
    agree))

-- the one step of a schema without edges
pub once_step : (task : Task) (p : PreparedState) (number : ℕ) (schema : Schema) (values : List ℕ)
    → slice_get task.schemas number ≡ Some schema → classes_in_order schema ≡ [] →
    turn_steps_of p number (Some schema) turn.Once ≡ step_under number schema
    (slice_index values) ∷ turn_steps_of p number (Some schema) turn.Over
once_step task p number schema values found none =
    ap (λ x. x ∷ []) (one_step task number schema (assigned (classes_in_order schema) [])
    (slice_index values) found (λ c h. absurd (Contains-nil c (subst (λ xs. Contains xs c) none h))))

-- what is left of a walk whose turn is over
pub turn_over : (p : PreparedState) (number : ℕ) (t u : Turn) → number < length p.task.schemas
    → turn_steps p number t ≡ [] → turn_steps p (number + 1) u ≡ applicable_of p.task (state_of_prepared p)
    (number + 1) → left_of p (number + 1) u ≡ left_of p number t
turn_over p number t u low none next =
    ap (λ xs. xs ++ later_steps p (number + 1)) next
    ∙ (sym (later_more p number low) ∙ ap (λ xs. xs ++ later_steps p number) (sym none))

pub left_taken : (p : PreparedState) (number : ℕ) (t u : Turn) (step : Instance)
    → turn_steps p number t ≡ step ∷ turn_steps p number u → left_of p number t ≡ step ∷ left_of p number u
left_taken p number t u step is = ap (λ xs. xs ++ later_steps p number) is

pub none_left : (p : PreparedState) (number : ℕ) (t : Turn) → length p.task.schemas ≤ number
    → left_of p number t ≡ []
none_left p number t high = by
  where
    none : slice_get p.task.schemas number ≡ None
    none = past_last p.task.schemas number high

    rest : length p.task.schemas - (number + 1) ≡ 0
    rest = omega arith

    by : left_of p number t ≡ []
    by = (λ i. turn_steps_of p number (none i) t ++ flat_map (applicable_of p.task (state_of_prepared p))
        (range_with_len (number + 1) (rest i)))

-- ---- what the walk asks of a normal form

pub front_of_order : (schema : Schema) (order row : List ℕ) → order ≡ parameter_order schema
    → length row ≡ length (classes_in_order schema) → take (length row) order ≡ classes_in_order schema
unfolding parameter_order
front_of_order schema order row is long = (λ i. take (long i) (is i)) ∙ front (classes_in_order schema) _
  where
    front : (xs ys : List ℕ) → take (length xs) (xs ++ ys) ≡ xs
    front [] ys = refl
    front (x ∷ xs) ys = ap (λ zs. x ∷ zs) (front xs ys)

pub classes_below : (task : Task) (schema : Schema) (c : ℕ) → SchemaOf task schema
    → Contains (classes_in_order schema) c → c < 64
classes_below task schema c is h =
    let low = (unfixed_itself schema c (in_order_unfixed schema c h)).0 in
    let few = is.few_parameters in omega (arith, low, few)

pub all_classes_below : (task : Task) (schema : Schema) (classes : List ℕ) (n : ℕ) → SchemaOf task schema
    → classes ≡ classes_in_order schema → n ≡ 64 → All (λ c. c < n) classes
all_classes_below task schema classes n is same at k d low =
    let below = classes_below task schema (get_or classes k d) is
    (subst (λ xs. Contains xs (get_or classes k d)) same (Contains-get_or classes k d low)) in
    omega (arith, below, at)

pub classes_distinct : (schema : Schema) (classes : List ℕ) → classes ≡ classes_in_order schema
    → AllPairs (λ a b. a ≢ b) classes
classes_distinct schema classes same = subst (λ xs. AllPairs (λ a b. a ≢ b) xs) (sym same)
    (classes_once schema)

pub order_long : (schema : Schema) (order row : List ℕ) → order ≡ parameter_order schema
    → length row ≡ length (classes_in_order schema) → length row ≤ length order
unfolding parameter_order
order_long schema order row is long =
    let whole = ap length is ∙ length-append (classes_in_order schema) _ in omega (arith, whole, long)

-- the names of the classes are parameters
pub named_below : (task : Task) (schema : Schema) (classes : List ℕ) (n : ℕ) → SchemaOf task schema
    → classes ≡ parameter_classes schema → length schema.parameters ≤ n → All (λ c. c < n) classes
named_below task schema classes n is same many k d low =
    let long = parameter_classes-length schema in
    let low' : k < length schema.parameters = subst (λ m. k < m) (ap length same ∙ long) low in
    let at : get_or classes k d ≡ class_of (equalities schema.condition) k = ap (λ xs. get_or xs k d) same
    ∙ class_at schema k d low' in
    let small = class_of-within (equalities schema.condition) k in omega (arith, low', at, small, many)

pub named_many : (schema : Schema) (classes : List ℕ) → classes ≡ parameter_classes schema
    → length classes ≡ length schema.parameters
named_many schema classes same = ap length same ∙ parameter_classes-length schema

pub fixed_many : (schema : Schema) (fixed : List (Option ℕ)) (classes : List ℕ) → fixed ≡ fixed_objects schema
    → classes ≡ parameter_classes schema → length fixed ≡ length classes
unfolding fixed_objects
fixed_many schema fixed classes given same = ap length given
    ∙ (length-map (parameter_classes schema) (object_of (parameter_classes schema) (fixings schema.condition))
    ∙ ap length (sym same))

-- the objects of a step under the objects of another are of the task
pub args_within : (task : Task) (number : ℕ) (schema : Schema) (args : List ℕ)
    → slice_get task.schemas number ≡ Some schema → SchemaOf task schema
    → length args ≡ length schema.parameters → All (λ o. o < length task.objects) args →
    IsStep task (step_under number schema (slice_index args))
args_within task number schema args found is many within = record {
  schema = schema;
  found = found;
  many = args_under-length schema (slice_index args);
  within = low;
}
  where
    slot_low : (p : ℕ) (slot : Slot) → slot_at (parameter_slots schema) p ≡ slot
        → p < length schema.parameters → slot_value (slice_index args) slot < length task.objects
    slot_low p (Fixed o) at h = slots_within task.predicates (length task.objects) schema
        (parameter_slots schema) is.literals refl p (Fixed 0)
        (let long = parameter_slots-length schema in omega (arith, long, h)) o at
    slot_low p (Class c) at h =
        let own = unfixed_itself schema c (p, h, at) in
        within c 0 (omega (arith, own.0, many))

    low : All (λ o. o < length task.objects) (args_under schema (slice_index args))
    low k d h =
        let long = args_under-length schema (slice_index args) in
        let k_low : k < length schema.parameters = omega (arith, long, h) in
        subst (λ o. o < length task.objects)
        (sym (parameter_value schema (slice_index args) k)
        ∙ get_or_default (args_under schema (slice_index args)) k 0 d h)
        (slot_low k (slot_at (parameter_slots schema) k) refl k_low)

-- ---- what is written to a buffer

key_front : {X : Type 0} (f : X → ℕ) (xs : List X) (init : List ℕ) (i : ℕ) (d : X) → i < length xs
    → length xs ≤ length init → set (map f (take i xs) ++ drop i init) i (f (get_or xs i d)) ≡ map f
    (take (suc i) xs) ++ drop (suc i) init
key_front f [] init i d low room = absurd (omega arith)
key_front f (x ∷ xs) [] i d low room = absurd (omega arith)
key_front f (x ∷ xs) (y ∷ ys) zero d low room = refl
key_front f (x ∷ xs) (y ∷ ys) (suc i) d low room = ap (λ zs. f x ∷ zs)
    (key_front f xs ys i d (omega arith) (omega arith))

pub key_more : {X : Type 0} (f : X → ℕ) (xs : List X) (init key : List ℕ) (i value : ℕ) (d : X)
    → i < length xs → length xs ≤ length init → key ≡ map f (take i xs) ++ drop i init
    → value ≡ f (get_or xs i d) → set key i value ≡ map f (take (i + 1) xs) ++ drop (i + 1) init
key_more f xs init key i value d low room before is =
    let on : i + 1 ≡ suc i = omega arith in
    (λ k. set (before k) i (is k))
    ∙ (key_front f xs init i d low room ∙ sym (ap (λ n. map f (take n xs) ++ drop n init) on))

pub front_is : {X : Type 0} (f : X → ℕ) (xs : List X) (key rest : List ℕ) (n : ℕ) → key ≡ map f xs ++ rest
    → n ≡ length xs → take n key ≡ map f xs
front_is {X = X} f xs key rest n is many = (λ k. take (many k) (is k)) ∙ front xs
  where
    front : (xs : List X) → take (length xs) (map f xs ++ rest) ≡ map f xs
    front [] = refl
    front (x ∷ xs) = ap (λ zs. f x ∷ zs) (front xs)

-- ---- the rows of a cursor

pub given : (old new : CursorView) (result : Option (Bor (List ℕ))) (row : Bor (List ℕ)) → result ≡ Some row
    → IsCursorStep old (option_map (λ (r : Bor (List ℕ)). r.now) result) new → Gives old new row.now
given old new result row is step =
    subst (λ r. IsCursorStep old (option_map (λ (x : Bor (List ℕ)). x.now) r) new) is step

pub row_wide : (task : Task) (number : ℕ) (schema : Schema) (old new : CursorView) (row : List ℕ)
    → slice_get task.schemas number ≡ Some schema → AreRowsFor task number old → Gives old new row
    → length row ≡ length (classes_in_order schema)
row_wide task number schema old new row found rows gives =
    subst (λ xs. All (λ (r : List ℕ). length r ≡ length old.join.classes) xs) gives.left rows.wide 0 row
    (omega arith) ∙ ap length (rows.classes schema found)

pub rows_after : (task : Task) (number : ℕ) (old new : CursorView) (row : List ℕ) → AreRowsFor task number old
    → Gives old new row → AreRowsFor task number new
rows_after task number old new row rows gives = record {
  classes = λ schema found. ap (λ (j : ReducedJoin). j.classes) gives.join ∙ rows.classes schema found;
  wide = λ k d low.
      subst (λ xs. All (λ (r : List ℕ). length r ≡ length old.join.classes) xs) gives.left rows.wide (suc k) d
      (omega arith)
      ∙ ap (λ (j : ReducedJoin). length j.classes) (sym gives.join);
}

pub agree_along : (schema : Schema) (classes row values : List ℕ) → classes ≡ classes_in_order schema
    → Agree classes (slice_index values) (assigned classes row)
    → Agree (classes_in_order schema) (slice_index values) (assigned (classes_in_order schema) row)
agree_along schema classes row values same agree =
    subst (λ cs. Agree cs (slice_index values) (assigned cs row)) same agree

pub few_slots : (task : Task) (p : ℕ) (slots : List Slot) → p < length task.predicates
    → ((d : PredicateDef) → slice_get task.predicates p ≡ Some d → length slots ≡ d.arity) → length slots ≤ 64
few_slots task p slots low wide = of_one (definition task.predicates p low)
  where
    of_one : (d : PredicateDef) × (slice_get task.predicates p ≡ Some d) → length slots ≤ 64
    of_one (d, found) =
        let few = task.predicates_ok.narrow p d low in
        let same = get_or_from_slice_get task.predicates p d d found in
        let at = wide d found in
        let narrow : d.arity ≤ 64 = subst (λ (x : PredicateDef). x.arity ≤ 64) same few in
        omega (arith, at, narrow)

pub slots_wide : (task : Task) (p n : ℕ) (slots : List Slot) → p < length task.predicates
    → ((d : PredicateDef) → slice_get task.predicates p ≡ Some d → length slots ≡ d.arity)
    → ((d : PredicateDef) → slice_get task.predicates p ≡ Some d → n ≡ d.arity) → length slots ≡ n
slots_wide task p n slots low wide arity = of_one (definition task.predicates p low)
  where
    of_one : (d : PredicateDef) × (slice_get task.predicates p ≡ Some d) → length slots ≡ n
    of_one (d, found) = wide d found ∙ sym (arity d found)

pub absent_met : (s : State) (f : Assignment) (x : Sieve) (p : ℕ) (slots : List Slot) (rows : List (List ℕ))
    (key : List ℕ) (has : Bool) → x ≡ sieve.Absent p slots → key ≡ values_of f slots → IsTrue has
    ↔ Contains rows key →
    ((row : List ℕ) → Contains rows row ↔ IsTrue (s (atom_of p row))) → not has ≡ meets_sieve s f x
absent_met s f x p slots rows key has is at found are =
    ap not (same_test has (s (atom_of p (values_of f slots))) (
      λ h. (are (values_of f slots)).0 (subst (Contains rows) at (found.0 h)),
      λ h. found.1 (subst (Contains rows) (sym at) ((are (values_of f slots)).1 h)),
    )) ∙ sym (ap (meets_sieve s f) is)

-- ---- what is prepared

pub entry_at : (p : PreparedState) (task : Task) (words : List ℕ) (tables : List (Option Rows))
    (entries : List Entry) (number : ℕ) (schema : Schema) (e : Entry)
    → record { task = task; words = words } ≡ p → IsPrepared task words tables entries →
    number < length p.task.schemas → e ≡ get_or entries number e
    → slice_get p.task.schemas number ≡ Some schema → IsEntry p.task schema (state_of_prepared p) e
entry_at p task words tables entries number schema e is prepared low at found =
    subst (λ (q : PreparedState). number < length q.task.schemas
    → slice_get q.task.schemas number ≡ Some schema → IsEntry q.task schema (state_of_prepared q) e) is
    here low found
  where
    here : number < length task.schemas → slice_get task.schemas number ≡ Some schema
        → IsEntry task schema (state_in task words) e
    here low found =
        let many = prepared.entries_are.many in
        prepared.entries_are.each number schema e found
        (slice_get-get_or entries number e (omega (arith, many, low)) ∙ ap Some (sym at))

-- ---- what a query has

pub found_along : (query : Query) (p : PreparedState) (number : ℕ) → IsQuery query → query.normal.now ≡ p.task
    → query.number ≡ number → slice_get p.task.schemas number ≡ Some query.schema.now
found_along query p number is task at =
    subst (λ (t : Task). slice_get t.schemas number ≡ Some query.schema.now) task
    (subst (λ n. slice_get query.normal.now.schemas n ≡ Some query.schema.now) at is.found)

pub rows_next : (query : Query) (t : Turn) (old new : CursorView) (values : List ℕ) (b : Bool)
    → t ≡ turn.Rows old → slice_get query.normal.now.schemas query.number ≡ Some query.schema.now
    → HasNextRow query old.left new.left values b → HasNextStep query t (turn.Rows new) values b
rows_next query t old new values true is found (row, next, agree) =
    ap (steps_of_turn query) is ∙ row_step query.normal.now (prepared_of query) query.number query.schema.now
    old new values row refl found next agree
rows_next query t old new values false is found (none, over) = (
  ap (steps_of_turn query) is ∙ ap (map (step_at query.number query.schema.now)) none,
  ap (λ rows. map (step_at query.number query.schema.now) (passing query rows)) over,
)

same_prepared : (query : Query) (p : PreparedState) → query.normal.now ≡ p.task → query.words.now ≡ p.words
    → prepared_of query ≡ p
same_prepared query p task words = λ i. record { task = task i; words = words i }

pub step_taken : (p : PreparedState) (query : Query) (number len : ℕ) (values args : List ℕ) (t u : Turn)
    → slice_get p.task.schemas number ≡ Some query.schema.now → query.normal.now ≡ p.task
    → query.words.now ≡ p.words → query.number ≡ number →
    take len args ≡ args_under query.schema.now (slice_index values)
    → steps_of_turn query t ≡ step_under query.number query.schema.now
    (slice_index values) ∷ steps_of_turn query u →
    turn_steps p number t ≡ step_with number (take len args) ∷ turn_steps p number u
step_taken p query number len values args t u found task words at written next =
    taken p number len query.schema.now values args t u found written
    (subst (λ n. turn_steps_of p n (Some query.schema.now) t ≡ step_under n query.schema.now
    (slice_index values) ∷ turn_steps_of p n (Some query.schema.now) u) at
    (subst (λ q. turn_steps_of q query.number (Some query.schema.now) t ≡ step_under query.number
    query.schema.now (slice_index values) ∷ turn_steps_of q query.number (Some query.schema.now) u)
    (same_prepared query p task words) next))

pub step_not_taken : (p : PreparedState) (query : Query) (number : ℕ) (t : Turn)
    → slice_get p.task.schemas number ≡ Some query.schema.now → query.normal.now ≡ p.task
    → query.words.now ≡ p.words → query.number ≡ number →
    steps_of_turn query t ≡ [] → turn_steps p number t ≡ []
step_not_taken p query number t found task words at none =
    none_taken p number query.schema.now t found
    (subst (λ n. turn_steps_of p n (Some query.schema.now) t ≡ []) at
    (subst (λ q. turn_steps_of q query.number (Some query.schema.now) t ≡ [])
    (same_prepared query p task words) none))

-- ---- the turn of an entry

pub schema_here : (xs : List Schema) (n : ℕ) → n < length xs → (s : Schema) × (slice_get xs n ≡ Some s)
schema_here [] n h = absurd (omega arith)
schema_here (x ∷ xs) zero h = (x, refl)
schema_here (x ∷ xs) (suc n) h = schema_here xs n (omega arith)

pub none_here : (p : PreparedState) (number : ℕ) → length p.task.schemas ≤ number →
    turn_steps p number turn.Over ≡ applicable_of p.task (state_of_prepared p) number
none_here p number high =
    over_steps p number
    ∙ sym (none_behind p.task (state_of_prepared p) number (past_last p.task.schemas number high))

-- what holds of the entry of a schema holds where the number is in range
pub with_entry : (P : Type 0) (p : PreparedState) (task : Task) (words : List ℕ) (tables : List (Option Rows))
    (entries : List Entry) (number : ℕ) (e : Entry) → record { task = task; words = words } ≡ p
    → IsPrepared task words tables entries → number < length p.task.schemas →
    e ≡ get_or entries number e
    → ((s : Schema) → slice_get p.task.schemas number ≡ Some s → number < length p.task.schemas
    → IsEntry p.task s (state_of_prepared p) e → P) → P
with_entry P p task words tables entries number e is prepared low at use_it =
    of_one (schema_here p.task.schemas number low)
  where
    of_one : (s : Schema) × (slice_get p.task.schemas number ≡ Some s) → P
    of_one (s, found) = use_it s found low
        (entry_at p task words tables entries number s e is prepared low at found)

pub never_here : (p : PreparedState) (task : Task) (words : List ℕ) (tables : List (Option Rows))
    (entries : List Entry) (number : ℕ) (e : Entry) → record { task = task; words = words } ≡ p
    → IsPrepared task words tables entries → number < length p.task.schemas →
    e ≡ get_or entries number e → e ≡ entry.Never → turn_steps p number turn.Over ≡ applicable_of p.task
    (state_of_prepared p) number
never_here p task words tables entries number e is prepared low at never =
    with_entry _ p task words tables entries number e is prepared low at
    (λ s found here of. never_turn p number s found (of.never never))

pub once_here : (p : PreparedState) (task : Task) (words : List ℕ) (tables : List (Option Rows))
    (entries : List Entry) (number : ℕ) (e : Entry) → record { task = task; words = words } ≡ p
    → IsPrepared task words tables entries → number < length p.task.schemas →
    e ≡ get_or entries number e → e ≡ entry.Always → turn_steps p number turn.Once ≡ applicable_of p.task
    (state_of_prepared p) number
once_here p task words tables entries number e is prepared low at always =
    with_entry _ p task words tables entries number e is prepared low at
    (λ s found here of. once_turn p number s found (of.always_guards always) (of.always_edges always))

pub once_here_of : (p : PreparedState) (task : Task) (words : List ℕ) (tables : List (Option Rows))
    (entries : List Entry) (number : ℕ) (e : Entry) → record { task = task; words = words } ≡ p
    → IsPrepared task words tables entries → number < length p.task.schemas →
    e ≡ get_or entries number e → e ≡ entry.Always → IsTurnOf p.task number turn.Once
once_here_of p task words tables entries number e is prepared low at always =
    with_entry _ p task words tables entries number e is prepared low at
    (λ s found here of. once_turn_of p.task number s found here (of.always_edges always))

pub rows_here : (p : PreparedState) (task : Task) (words : List ℕ) (tables : List (Option Rows))
    (entries : List Entry) (number : ℕ) (e : Entry) (reduced : ReducedJoin) (cursor : CursorView)
    → record { task = task; words = words } ≡ p → IsPrepared task words tables entries
    → number < length p.task.schemas →
    e ≡ get_or entries number e → e ≡ entry.Tables reduced → cursor.join ≡ reduced
    → AreAnswersPast reduced (λ _. true) cursor.left
    → turn_steps p number (turn.Rows cursor) ≡ applicable_of p.task (state_of_prepared p) number
rows_here p task words tables entries number e reduced cursor is prepared low at tabled join answers =
    with_entry _ p task words tables entries number e is prepared low at
    (λ s found here of. rows_turn p number s cursor found (of.tables_guards reduced tabled)
    (subst (AreTablesFor p.task s (state_of_prepared p)) (sym join) (of.tables_are reduced tabled))
    (subst (λ j. AreAnswersPast j (λ _. true) cursor.left) (sym join) answers))

pub rows_here_of : (p : PreparedState) (task : Task) (words : List ℕ) (tables : List (Option Rows))
    (entries : List Entry) (number : ℕ) (e : Entry) (reduced : ReducedJoin) (cursor : CursorView)
    (passes : List ℕ → Bool) → record { task = task; words = words } ≡ p
    → IsPrepared task words tables entries → number < length p.task.schemas →
    e ≡ get_or entries number e → e ≡ entry.Tables reduced → cursor.join ≡ reduced
    → AreAnswersPast reduced passes cursor.left → IsTurnOf p.task number (turn.Rows cursor)
rows_here_of p task words tables entries number e reduced cursor passes is prepared low at tabled join answers
    =
    with_entry _ p task words tables entries number e is prepared low at
    (λ s found here of. rows_turn_of p.task number cursor here
    (rows_for p.task number s (state_of_prepared p) passes cursor found
    (subst (AreTablesFor p.task s (state_of_prepared p)) (sym join) (of.tables_are reduced tabled))
    (subst (λ j. AreAnswersPast j passes cursor.left) (sym join) answers)))

-- of the schema of a step, past that step
pub past_here : (p : PreparedState) (task : Task) (words : List ℕ) (tables : List (Option Rows))
    (entries : List Entry) (past : Instance) (e : Entry) (reduced : ReducedJoin) (cursor : CursorView)
    (inclusive : Bool) (key : List ℕ) → record { task = task; words = words } ≡ p
    → IsPrepared task words tables entries →
    IsStep p.task past → e ≡ get_or entries past.schema e → e ≡ entry.Tables reduced → cursor.join ≡ reduced
    → (all : List (List ℕ)) × AreAnswersPast reduced (λ _. true) all
    → AreAnswersPast reduced (is_past inclusive key) cursor.left →
    ((join : ReducedJoin) (passes : List ℕ → Bool) (all left : List (List ℕ))
    → AreAnswersPast join (λ _. true) all → AreAnswersPast join passes left → left ≡ filter passes all) →
    ((s : Schema) → slice_get p.task.schemas past.schema ≡ Some s → key ≡ class_key s past.args)
    → ((s : Schema) → slice_get p.task.schemas past.schema ≡ Some s
    → inclusive ≡ is_above p.task past (step_under past.schema s (slice_index past.args))) →
    turn_steps p past.schema (turn.Rows cursor) ≡ filter (is_above p.task past)
    (applicable_of p.task (state_of_prepared p) past.schema)
past_here p task words tables entries past e reduced cursor inclusive key is prepared step at tabled join
    (all, answers) left law key_is inclusive_is =
    past_turn p past step.schema cursor inclusive key all step.found step (of.tables_guards reduced tabled)
    (subst (AreTablesFor p.task step.schema (state_of_prepared p)) (sym join)
    (of.tables_are reduced tabled))
    (subst (λ j. AreAnswersPast j (λ _. true) all) (sym join) answers)
    (law reduced (is_past inclusive key) all cursor.left answers left) (key_is step.schema step.found)
    (inclusive_is step.schema step.found)
  where
    low : past.schema < length p.task.schemas
    low = slice_get_within p.task.schemas past.schema step.schema step.found

    of : IsEntry p.task step.schema (state_of_prepared p) e
    of = entry_at p task words tables entries past.schema step.schema e is prepared low at step.found

pub once_past_here : (p : PreparedState) (task : Task) (words : List ℕ) (tables : List (Option Rows))
    (entries : List Entry) (past : Instance) (e : Entry) (above : Bool)
    → record { task = task; words = words } ≡ p → IsPrepared task words tables entries →
    IsStep p.task past → e ≡ get_or entries past.schema e → e ≡ entry.Always
    → ((s : Schema) → slice_get p.task.schemas past.schema ≡ Some s
    → above ≡ is_above p.task past (step_under past.schema s (slice_index past.args))) →
    cond above (turn_steps p past.schema turn.Once) [] ≡ filter (is_above p.task past)
    (applicable_of p.task (state_of_prepared p) past.schema)
once_past_here p task words tables entries past e above is prepared step at always above_is =
    once_past p past step.schema above step.found (of.always_guards always) (of.always_edges always)
    (above_is step.schema step.found)
  where
    of : IsEntry p.task step.schema (state_of_prepared p) e
    of = entry_at p task words tables entries past.schema step.schema e is prepared
        (slice_get_within p.task.schemas past.schema step.schema step.found) at step.found

pub never_past_here : (p : PreparedState) (task : Task) (words : List ℕ) (tables : List (Option Rows))
    (entries : List Entry) (past : Instance) (e : Entry) → record { task = task; words = words } ≡ p
    → IsPrepared task words tables entries →
    IsStep p.task past → e ≡ get_or entries past.schema e → e ≡ entry.Never
    → turn_steps p past.schema turn.Over ≡ filter (is_above p.task past)
    (applicable_of p.task (state_of_prepared p) past.schema)
never_past_here p task words tables entries past e is prepared step at never =
    over_steps p past.schema ∙ ap (filter (is_above p.task past))
    (sym (over_steps p past.schema) ∙ never_turn p past.schema step.schema step.found (of.never never))
  where
    of : IsEntry p.task step.schema (state_of_prepared p) e
    of = entry_at p task words tables entries past.schema step.schema e is prepared
        (slice_get_within p.task.schemas past.schema step.schema step.found) at step.found

-- ---- the loop over schemas

pub walked : (p : PreparedState) (number : ℕ) (t u : Turn) (initial : List Instance)
    → number < length p.task.schemas → left_of p number t ≡ initial → turn_steps p number t ≡ []
    → turn_steps p (number + 1) u ≡ applicable_of p.task (state_of_prepared p) (number + 1)
    → left_of p (number + 1) u ≡ initial
walked p number t u initial low same none next = turn_over p number t u low none next ∙ same

pub turn_along : (query : Query) (p : PreparedState) (number : ℕ) (t : Turn) → query.normal.now ≡ p.task
    → query.number ≡ number → IsTurnOf query.normal.now query.number t → IsTurnOf p.task number t
turn_along query p number t task at is = subst (λ (x : Task). IsTurnOf x number t) task
    (subst (λ n. IsTurnOf query.normal.now n t) at is)

-- ---- the step under the objects of another

pub key_written : (task : Task) (schema : Schema) (args classes written : List ℕ) → SchemaOf task schema
    → classes ≡ parameter_classes schema → length args ≡ length schema.parameters
    → take (length classes) written ≡ args_under schema (slice_index args)
    → take (length args) written ≡ args_under schema (slice_index args)
key_written task schema args classes written is named many at =
    ap (λ n. take n written) (many ∙ sym (named_many schema classes named)) ∙ at

pub args_long : (schema : Schema) (args : List ℕ) → length args ≡ length schema.parameters
    → length (args_under schema (slice_index args)) ≡ length args
args_long schema args many = args_under-length schema (slice_index args) ∙ sym many

-- the place behind a turn that is over
abbrev pub place_at : ℕ → Turn → Place → Place
place_at number t place =
    record {
      number = number;
      turn = t;
      values = place.values;
      schema = place.schema;
      len = place.len;
      args =
          place.args;
    }

pub next_place : (p : PreparedState) (place taken initial : Place) (t : Turn) (first before after : ℕ)
    → place.number < length p.task.schemas → TakesStep p place taken false → IsPlace p.task taken →
    turn_steps p (taken.number + 1) t ≡ applicable_of p.task (state_of_prepared p) (taken.number + 1)
    → IsTurnOf p.task (taken.number + 1) t →
    (left_at p place ≡ left_at p initial) × (step_of_place place ≡ step_of_place initial)
    × IsPlace p.task place × (first ≤ before) → before ≤ after →
    (left_at p (place_at (taken.number + 1) t taken) ≡ left_at p initial)
    × (step_of_place (place_at (taken.number + 1) t taken) ≡ step_of_place initial)
    × IsPlace p.task (place_at (taken.number + 1) t taken) × (first ≤ after)
next_place p place taken initial t first before after low (none, (number, step)) is next turned
    (left, same, was, from) rise = (
      ap (λ n. left_of p (n + 1) t) number ∙ walked p place.number place.turn t
          (left_at p initial) low left none
          (subst (λ n. turn_steps p (n + 1) t ≡ applicable_of p.task (state_of_prepared p) (n + 1)) number
          next),
      step ∙ same,
      record {
        turn = turned;
        number = omega (arith, low, number);
        values = is.values;
        args = is.args;
        len =
            is.len;
      },
      omega (arith, from, rise),
    )

pub key_compared : (task normal : Task) (number : ℕ) (schema s : Schema) (args written : List ℕ) (b : Bool)
    (o : Ordering) → slice_get task.schemas number ≡ Some schema → slice_get task.schemas number ≡ Some s
    → normal ≡ task → written ≡ args_under schema (slice_index args) → b ≡ is_lt o →
    o ≡ step_cmp normal (step_with number args) (step_with number written)
    → b ≡ is_above task (step_with number args) (step_under number s (slice_index args))
key_compared task normal number schema s args written b o found at same written_is is compared =
    let own : written ≡ args_under s (slice_index args) = written_is
    ∙ ap (λ x. args_under x (slice_index args)) (same_Some schema s (sym found ∙ at)) in
    is ∙ (ap is_lt compared
    ∙ λ i. is_lt (step_cmp (same i) (step_with number args) (step_with number (own i))))

-- the key of a step
pub key_classes : (task : Task) (number : ℕ) (schema : Schema) (classes args : List ℕ)
    → slice_get task.schemas number ≡ Some schema → length args ≡ length schema.parameters
    → classes ≡ classes_in_order schema → All (λ c. c < length args) classes
key_classes task number schema classes args found many same k d low =
    let own = unfixed_itself schema (get_or classes k d)
    (in_order_unfixed schema (get_or classes k d)
    (subst (λ xs. Contains xs (get_or classes k d)) same (Contains-get_or classes k d low))) in
    let below = own.0 in omega (arith, below, many)

pub key_few : (task : Task) (number : ℕ) (schema : Schema) (classes : List ℕ)
    → slice_get task.schemas number ≡ Some schema → classes ≡ classes_in_order schema → length classes ≤ 64
key_few task number schema classes found same =
    few_classes classes 64 (classes_distinct schema classes same)
    (all_classes_below task schema classes 64 (schema_of task number schema found) same refl)

pub entry_of_step : (p : PreparedState) (task : Task) (words : List ℕ) (tables : List (Option Rows))
    (entries : List Entry) (past : Instance) (e : Entry) (s : Schema)
    → record { task = task; words = words } ≡ p → IsPrepared task words tables entries →
    e ≡ get_or entries past.schema e → slice_get p.task.schemas past.schema ≡ Some s
    → IsEntry p.task s (state_of_prepared p) e
entry_of_step p task words tables entries past e s is prepared at found =
    entry_at p task words tables entries past.schema s e is prepared
    (slice_get_within p.task.schemas past.schema s found) at found

-- the classes of the reduced join of a schema
pub join_classes : (p : PreparedState) (task : Task) (words : List ℕ) (tables : List (Option Rows))
    (entries : List Entry) (past : Instance) (e : Entry) (s : Schema) (reduced : ReducedJoin)
    (classes : List ℕ) → record { task = task; words = words } ≡ p → IsPrepared task words tables entries →
    e ≡ get_or entries past.schema e → e ≡ entry.Tables reduced → classes ≡ reduced.classes
    → slice_get p.task.schemas past.schema ≡ Some s → classes ≡ classes_in_order s
join_classes p task words tables entries past e s reduced classes is prepared at tabled same found =
    same ∙ ((entry_of_step p task words tables entries past e s is prepared at found).tables_are reduced
    tabled).classes

pub then_once : (above : Bool) (xs ys : List Instance) → above ≡ true → cond above xs [] ≡ ys → xs ≡ ys
then_once above xs ys is same = sym (ap (λ b. cond b xs []) is) ∙ same

pub else_once : (above : Bool) (xs ys : List Instance) → above ≡ false → cond above xs [] ≡ ys → [] ≡ ys
else_once above xs ys is same = sym (ap (λ b. cond b xs []) is) ∙ same

-- ---- the entries as they are made

pub no_entries : (task : Task) (s : State) (entries : List Entry) → entries ≡ []
    → AreEntriesUpTo task s 0 entries
no_entries task s entries none =
    record {
      many = ap length none;
      each = λ i schema e found at. absurd
          (nothing i e (ap (λ xs. slice_get xs i) (sym none) ∙ at));
    }
  where
    nothing : (i : ℕ) (e : Entry) → slice_get [] i ≡ Some e → ⊥
    nothing zero e h = cc
    nothing (suc i) e h = cc

pub entry_more : (task : Task) (s : State) (schemas : List Schema) (i : ℕ) (entries after : List Entry)
    (e : Entry) (schema : Schema) → schemas ≡ task.schemas → i < length schemas
    → schema ≡ get_or schemas i schema → AreEntriesUpTo task s i entries → after ≡ entries ++ e ∷ []
    → IsEntry task schema s e → AreEntriesUpTo task s (i + 1) after
entry_more task s schemas i entries after e schema same low at are made is = record {
  many = (let long = ap length made ∙ length-append entries (e ∷ []) in let many = are.many in
      omega (arith, long, many));
  each = λ k x f found here. each k x f found (ap (λ xs. slice_get xs k) (sym made) ∙ here);
}
  where
    own : slice_get task.schemas i ≡ Some schema
    own = ap (λ xs. slice_get xs i) (sym same) ∙ (slice_get-get_or schemas i schema low ∙ ap Some (sym at))

    three : (k n : ℕ) → (k < n) ⊎ ((k ≡ n) ⊎ (n < k))
    three k n = grind arith

    in_front : (xs : List Entry) (x : Entry) (k : ℕ) → k < length xs
        → slice_get (xs ++ x ∷ []) k ≡ slice_get xs k
    in_front [] x k h = absurd (omega arith)
    in_front (y ∷ xs) x zero h = refl
    in_front (y ∷ xs) x (suc k) h = in_front xs x k (omega arith)

    at_end : (xs : List Entry) (x : Entry) → slice_get (xs ++ x ∷ []) (length xs) ≡ Some x
    at_end [] x = refl
    at_end (y ∷ xs) x = at_end xs x

    same_entry : (x y : Entry) → Some x ≡ Some y → x ≡ y
    same_entry x y h = cc

    each : (k : ℕ) (x : Schema) (f : Entry) → slice_get task.schemas k ≡ Some x
        → slice_get (entries ++ e ∷ []) k ≡ Some f → IsEntry task x s f
    each k x f found here = elim (three k (length entries)) [
      | inl before ↦ are.each k x f found (sym (in_front entries e k before) ∙ here)
      | inr (inl end) ↦ (
          let many = are.many in
          let place : k ≡ i = end ∙ many in
          let schema_is : schema ≡ x = same_Some schema x
          (sym own ∙ (ap (slice_get task.schemas) (sym place) ∙ found)) in
          let entry_is : e ≡ f = same_entry e f
          (sym (at_end entries e) ∙ (ap (slice_get (entries ++ e ∷ [])) (sym end) ∙ here)) in
          subst (λ y. IsEntry task x s y) entry_is (subst (λ y. IsEntry task y s e) schema_is is)
          )
      | inr (inr past) ↦ absurd
          (beyond (entries ++ e ∷ []) k f
          (let long = length-append entries (e ∷ []) in omega (arith, long, past)) here)
    ]
      where
        beyond : (xs : List Entry) (n : ℕ) (y : Entry) → length xs ≤ n → slice_get xs n ≡ Some y → ⊥
        beyond [] zero y h at = cc
        beyond [] (suc n) y h at = cc
        beyond (z ∷ xs) zero y h at = omega arith
        beyond (z ∷ xs) (suc n) y h at = beyond xs n y (omega arith) at
