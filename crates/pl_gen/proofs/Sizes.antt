-- The parts of a schema's query are no more than its literals and parameters, and so the bounds of a state
-- hold.
use Rattle.std.proofs.Common.{◌≡◌, ℕ, ◌+◌, ◌*◌, ◌<◌, ◌≤◌, Bool, true, false, ◌==◌, ◌&&◌, if◌then◌else◌, List}
use Rattle.std.proofs.Common.{[], ◌∷◌, ◌++◌, length, map, take, get_or, Option, Some, None, sym, ◌∙◌, ap}
use Rattle.std.proofs.Common.{subst, arith, Contains}
use Rattle.std.specs.List.{flat_map, sum_by, range_with_len}
use Rattle.std.proofs.lemmas.List.{length-append, take_more}
use Rattle.std.proofs.lemmas.List.Elements.{Contains-get_or}
use Rattle.std.proofs.lemmas.List.FromFn.{length-range_with_len}
use Rattle.std.proofs.lemmas.List.Sums.{sum_by-cons, sum_by_push}
use Rattle.pl_task.specs.declared.data.Atom.{Atom}
use Rattle.pl_task.specs.declared.data.Literal.{Literal}
use Rattle.pl_task.specs.declared.data.Literal.TheVariants as literal
use Rattle.pl_task.specs.declared.data.Schema.{Schema}
use Rattle.pl_task.specs.declared.task.Task.{Task}
use Rattle.pl_task.specs.States.{State, initial}
use Rattle.pl_task.specs.WellFormed.{is_fluent}
use Rattle.pl_hyper.specs.JoinTree.{IsAcyclic}
use Rattle.pl_join.specs.declared.slot.Slot.{Slot}
use Rattle.pl_join.specs.declared.slot.Slot.TheVariants.{Fixed, Class}
use Rattle.pl_normal.specs.declared.form.Sieve.{Sieve}
use Rattle.pl_normal.specs.Slots.{parameter_slots, slot_at, slot_of, slots_of, is_fixed, are_fixed}
use Rattle.pl_normal.specs.Slots.{fixed_value}
use Rattle.pl_normal.specs.Edges.{type_edge, type_edges, literal_edge, atom_edges, edges_of, sets_of}
use Rattle.pl_normal.specs.Filters.{literal_sieve, sieves_of, home, local_at, late_at, local_among}
use Rattle.pl_normal.specs.Filters.{late_among, local_of, late_of}
use Rattle.pl_normal.specs.Guards.{known, has_some_type, types_at, type_guard, type_guards, wanted_guard}
use Rattle.pl_normal.specs.Guards.{is_as_wanted, atom_guard, guard_over, equality_guard, literal_guard}
use Rattle.pl_normal.specs.Guards.{literal_guards, guards_of}
use Rattle.pl_normal.specs.Measures.{schema_size, relation_rows, local_answers, probe_bound}
use Rattle.pl_normal.specs.ParameterOrder.{classes_in_order}
use Rattle.pl_normal.proofs.SlotLemmas.{parameter_slots-length}
use Rattle.pl_state.specs.StateOf.{state_in}
use Rattle.pl_gen.specs.Measures.{entry_probes, close_entry_probes}
use Rattle.pl_gen.specs.Walks.{AreAcyclic, schema_reads, reads_in}
use Rattle.pl_gen.proofs.Giving.{classes_few}
use Rattle.pl_normal.proofs.Forming.{flat_short, if_short, type_short}
use Rattle.std.proofs.Math.Nat.{mul-le-mul_right}
use Rattle.std.proofs.Math.Nat.{mul-le-mul_left}

-- ---- lists that are put together of no more than one element each

both_few : {X Y Z : Type 0} (f : X → List Y) (g : X → List Z) (xs : List X)
    → ((x : X) → length (f x) + length (g x) ≤ 1) → length (flat_map f xs) + length
    (flat_map g xs) ≤ length xs
both_few f g [] one = omega arith
both_few f g (x ∷ xs) one =
    let own = one x in
    let rest = both_few f g xs one in
    let first = length-append (f x) (flat_map f xs) in
    let second = length-append (g x) (flat_map g xs) in omega (arith, own, rest, first, second)

-- ---- the edges and filters

plus_none : (n : ℕ) → n ≤ 1 → n + 0 ≤ 1
plus_none n h = omega (arith, h)

none_plus : (n : ℕ) → n ≤ 1 → 0 + n ≤ 1
none_plus n h = omega (arith, h)

literal_one : (slots : List Slot) (l : Literal) → length (literal_edge slots l) + length
    (literal_sieve slots l) ≤ 1
literal_one slots (literal.Atom a) = plus_none (length (literal_edge slots (literal.Atom a)))
    (if_short (are_fixed (slots_of slots a.terms)) _)
literal_one slots (literal.NotAtom a) = none_plus (length (literal_sieve slots (literal.NotAtom a)))
    (if_short (are_fixed (slots_of slots a.terms)) _)
literal_one slots (literal.Equal a b) = omega arith
literal_one slots (literal.NotEqual a b) = none_plus (length (literal_sieve slots (literal.NotEqual a b)))
    (if_short (is_fixed (slot_of slots a) && is_fixed (slot_of slots b)) _)

local_one : (place : Option ℕ) (x : Sieve) → length (local_at place x) ≤ 1
local_one None x = omega arith
local_one (Some e) x = omega arith

late_one : (place : Option ℕ) (x : Sieve) → length (late_at place x) ≤ 1
late_one None x = omega arith
late_one (Some e) x = omega arith

pub edges_few : (schema : Schema) → length (edges_of schema) + length (local_of schema) ≤ schema_size schema
unfolding edges_of type_edges atom_edges local_of local_among sieves_of
edges_few schema =
    let slots = parameter_slots-length schema in
    let many = length-range_with_len 0 (length (parameter_slots schema)) in
    let types = flat_short (λ p. type_edge p (slot_at (parameter_slots schema) p))
    (range_with_len 0 (length (parameter_slots schema)))
    (λ p. type_short p (slot_at (parameter_slots schema) p)) in
    let whole = length-append
    (flat_map (λ p. type_edge p (slot_at (parameter_slots schema) p))
    (range_with_len 0 (length (parameter_slots schema))))
    (flat_map (literal_edge (parameter_slots schema)) schema.condition) in
    let literals = both_few (literal_edge (parameter_slots schema))
    (literal_sieve (parameter_slots schema)) schema.condition (literal_one (parameter_slots schema)) in
    let local = flat_short (λ x. local_at (home (edges_of schema) x) x)
    (flat_map (literal_sieve (parameter_slots schema)) schema.condition)
    (λ x. local_one (home (edges_of schema) x) x) in
    omega (arith, slots, many, types, whole, literals, local)

late_few : (schema : Schema) → length (late_of schema) ≤ schema_size schema
unfolding late_of late_among sieves_of
late_few schema =
    let literals = both_few (literal_edge (parameter_slots schema))
    (literal_sieve (parameter_slots schema)) schema.condition (literal_one (parameter_slots schema)) in
    let late = flat_short (λ x. late_at (home (edges_of schema) x) x)
    (flat_map (literal_sieve (parameter_slots schema)) schema.condition)
    (λ x. late_one (home (edges_of schema) x) x) in
    omega (arith, literals, late)

-- ---- the guards

pub known_one : (b : Bool) → length (known b) ≤ 1
known_one true = omega arith
known_one false = omega arith

type_guard_one : (task : Task) (types : List ℕ) (slot : Slot) → length (type_guard task types slot) ≤ 1
type_guard_one task types (Fixed o) = known_one (has_some_type task types o)
type_guard_one task types (Class c) = omega arith

choice_one : {Y : Type 0} (b : Bool) (x y : List Y) → length x ≤ 1 → length y ≤ 1
    → length (if b then x else y) ≤ 1
choice_one true x y left right = left
choice_one false x y left right = right

atom_guard_one : (task : Task) (wanted : Bool) (atom : Atom) → length (atom_guard task wanted atom) ≤ 1
atom_guard_one task wanted atom = choice_one (is_fluent task.schemas atom.predicate)
    (wanted_guard wanted atom ∷ []) (known (is_as_wanted wanted (initial task atom))) (omega arith)
    (known_one (is_as_wanted wanted (initial task atom)))

guard_over_one : (task : Task) (wanted : Bool) (predicate : ℕ) (slots : List Slot)
    → length (guard_over task wanted predicate slots) ≤ 1
guard_over_one task wanted predicate slots = choice_one (are_fixed slots)
    (atom_guard task wanted (record { predicate = predicate; objects = map fixed_value slots })) []
    (atom_guard_one task wanted (record { predicate = predicate; objects = map fixed_value slots }))
    (omega arith)

equality_one : (wanted : Bool) (a b : Slot) → length (equality_guard wanted a b) ≤ 1
equality_one wanted (Fixed a) (Fixed b) = known_one (is_as_wanted wanted (a == b))
equality_one wanted (Fixed a) (Class b) = omega arith
equality_one wanted (Class a) (Fixed b) = omega arith
equality_one wanted (Class a) (Class b) = omega arith

pub literal_guard_one : (task : Task) (slots : List Slot) (l : Literal) →
    length (literal_guard task slots l) ≤ 1
literal_guard_one task slots (literal.Atom a) = guard_over_one task true a.predicate (slots_of slots a.terms)
literal_guard_one task slots (literal.NotAtom a) = guard_over_one task false a.predicate
    (slots_of slots a.terms)
literal_guard_one task slots (literal.Equal a b) = equality_one true (slot_of slots a) (slot_of slots b)
literal_guard_one task slots (literal.NotEqual a b) = equality_one false (slot_of slots a) (slot_of slots b)

guards_few : (task : Task) (schema : Schema) → length (guards_of task schema) ≤ schema_size schema
unfolding guards_of type_guards literal_guards
guards_few task schema =
    let slots = parameter_slots-length schema in
    let many = length-range_with_len 0 (length (parameter_slots schema)) in
    let types = flat_short
    (λ p. type_guard task (types_at schema.parameters p) (slot_at (parameter_slots schema) p))
    (range_with_len 0 (length (parameter_slots schema)))
    (λ p. type_guard_one task (types_at schema.parameters p) (slot_at (parameter_slots schema) p)) in
    let whole = length-append
    (flat_map (λ p. type_guard task (types_at schema.parameters p) (slot_at (parameter_slots schema) p))
    (range_with_len 0 (length (parameter_slots schema))))
    (flat_map (literal_guard task (parameter_slots schema)) schema.condition) in
    let literals = flat_short (literal_guard task (parameter_slots schema)) schema.condition
    (literal_guard_one task (parameter_slots schema)) in
    omega (arith, slots, many, types, whole, literals)

-- ---- the bound of a schema

bound_parts : (c rows answers : ℕ) → 4 * c * (rows + answers + 1) ≡ 4 * c * rows + answers * (4 * c) + 4 * c
bound_parts c rows answers = grind arith

within_bound : (g n k t c rows answers : ℕ) → n ≤ c → g ≤ c → k ≤ c → t ≤ c
    → (g + 4 * n * rows) + (3 * k + answers * (2 * k + t)) ≤ 4 * c * (rows + answers + 1)
within_bound g n k t c rows answers edges guards classes late =
    let tables = mul-le-mul_right {m = 4 * n} {n = 4 * c} rows (omega (arith, edges)) in
    let reads = mul-le-mul_left {m = 2 * k + t} {n = 4 * c} answers (omega (arith, classes, late)) in
    let parts = bound_parts c rows answers in omega (arith, guards, classes, tables, reads, parts)

schema_within : (task : Task) (s : State) (schema : Schema)
    → entry_probes task s schema + schema_reads task s schema ≤ 4 * schema_size
    schema * (relation_rows task s schema + local_answers task s schema + 1)
unfolding schema_reads
schema_within task s schema =
    within_bound (length (guards_of task schema)) (length (edges_of schema) + length (local_of schema))
    (length (classes_in_order schema)) (length (late_of schema)) (schema_size schema)
    (relation_rows task s schema) (local_answers task s schema)
    (edges_few schema) (guards_few task schema) (let few = classes_few schema in omega (arith, few))
    (late_few schema)

-- ---- and of all schemas

sums_within : (f g h : Schema → ℕ) (schemas : List Schema)
    → ((schema : Schema) → f schema + g schema ≤ h schema)
    → sum_by f schemas + sum_by g schemas ≤ sum_by h schemas
sums_within f g h [] each = omega arith
sums_within f g h (x ∷ xs) each =
    let own = each x in
    let rest = sums_within f g h xs each in
    let first = sum_by-cons f x xs in
    let second = sum_by-cons g x xs in
    let third = sum_by-cons h x xs in omega (arith, own, rest, first, second, third)

pub state_within : (task : Task) (s : State) → sum_by (entry_probes task s) task.schemas + reads_in task s
    task.schemas ≤ probe_bound task s
unfolding probe_bound
state_within task s = sums_within (entry_probes task s) (schema_reads task s)
    (λ schema. 4 * schema_size schema * (relation_rows task s schema + local_answers task s schema + 1))
    task.schemas (schema_within task s)

-- the measure of a schema is that of the schemas before it and its own
pub schemas_more : (w : Schema → ℕ) (task : Task) (schemas : List Schema) (i start before after : ℕ)
    (schema : Schema) → schemas ≡ task.schemas → i < length schemas → schema ≡ get_or schemas i schema →
    (AreAcyclic task → before ≤ start + sum_by w (take i task.schemas)) →
    (IsAcyclic (sets_of (edges_of schema)) → after ≤ before + w schema) → AreAcyclic task →
    after ≤ start + sum_by w (take (i + 1) task.schemas)
schemas_more w task schemas i start before after schema same low at old cost acyclic =
    let here : schema ≡ get_or task.schemas i schema = at ∙ ap (λ xs. get_or xs i schema) same in
    let low' : i < length task.schemas = subst (λ xs. i < length xs) same low in
    let among : Contains task.schemas schema = subst (Contains task.schemas) (sym here)
    (Contains-get_or task.schemas i schema low') in
    let more : sum_by w (take (i + 1) task.schemas) ≡ sum_by w (take i task.schemas) + w schema =
    ap (sum_by w) (take_more task.schemas i schema low' ∙ ap (λ x. take i task.schemas ++ x ∷ []) (sym here))
    ∙ sum_by_push w (take i task.schemas) schema in
    let first = old acyclic in
    let own = cost (acyclic schema among) in omega (arith, more, first, own)

few_sums : (f g : Schema → ℕ) (schemas : List Schema) → ((schema : Schema) → f schema ≤ g schema) →
    sum_by f schemas ≤ sum_by g schemas
few_sums f g [] each = omega arith
few_sums f g (x ∷ xs) each =
    let own = each x in
    let rest = few_sums f g xs each in
    let first = sum_by-cons f x xs in
    let second = sum_by-cons g x xs in omega (arith, own, rest, first, second)

closer : (g n l rows : ℕ) → g + (3 * n + 2 * l) * rows ≤ g + 4 * (n + l) * rows
closer g n l rows = let few = mul-le-mul_right {m = 3 * n + 2 * l} {n = 4 * (n + l)} rows (omega arith) in
    omega (arith, few)

all_closer : (task : Task) (s : State) → sum_by (close_entry_probes task s) task.schemas ≤ sum_by
    (entry_probes task s) task.schemas
all_closer task s = few_sums (close_entry_probes task s) (entry_probes task s) task.schemas
    (λ schema. closer (length (guards_of task schema)) (length (edges_of schema)) (length (local_of schema))
    (relation_rows task s schema))

pub tables_within : (task : Task) (given named : List ℕ) (start after : ℕ) → given ≡ named →
    (AreAcyclic task → after ≤ start + sum_by (close_entry_probes task (state_in task given)) task.schemas) →
    AreAcyclic task →
    after ≤ start + sum_by (entry_probes task (state_in task named)) task.schemas
tables_within task given named start after same cost acyclic =
    let taken : after ≤ start + sum_by (close_entry_probes task (state_in task named)) task.schemas =
    subst (λ xs. after ≤ start + sum_by (close_entry_probes task (state_in task xs)) task.schemas) same
    (cost acyclic) in
    let few = all_closer task (state_in task named) in omega (arith, taken, few)

pub prepared_within : (task : Task) (words given named : List ℕ) (start after : ℕ) → given ≡ named →
    words ≡ named → (AreAcyclic task → after ≤ start + sum_by (close_entry_probes task (state_in task given))
    task.schemas) → AreAcyclic task →
    after + reads_in task (state_in task words) task.schemas ≤ start + probe_bound task (state_in task named)
prepared_within task words given named start after same read cost acyclic =
    let taken = tables_within task given named start after same cost acyclic in
    let whole = state_within task (state_in task named) in
    subst (λ xs. after + reads_in task (state_in task xs) task.schemas ≤ start + probe_bound task
    (state_in task named)) (sym read) (omega (arith, taken, whole))
