-- The preparation of a state, a walk that is resumed and one step with local filters keep within the base
-- bound.
use Rattle.std.proofs.Common.{◌≡◌, ℕ, ◌+◌, ◌*◌, ◌<◌, ◌≤◌, ◌==◌, zero, suc, Bool, true, false}
use Rattle.std.proofs.Common.{cond, List, [], ◌∷◌, length, refl, sym, ap, subst, arith, Contains, eqb-true}
use Rattle.std.specs.List.{flat_map, sum_by, range_with_len}
use Rattle.std.proofs.lemmas.List.{length-append}
use Rattle.std.proofs.lemmas.List.FromFn.{length-range_with_len}
use Rattle.std.proofs.lemmas.List.Sums.{sum_by-cons}
use Rattle.pl_rows.proofs.Canonical.{Contains-cons_first, Contains-cons_rest}
use Rattle.pl_task.specs.declared.data.Schema.{Schema}
use Rattle.pl_task.specs.declared.task.Task.{Task}
use Rattle.pl_task.specs.States.{State}
use Rattle.pl_hyper.proofs.Members.{range_contains}
use Rattle.pl_join.specs.declared.slot.Slot.{Slot}
use Rattle.pl_join.specs.declared.slot.Slot.TheVariants.{Fixed, Class}
use Rattle.pl_normal.specs.Edges.{edges_of}
use Rattle.pl_normal.specs.Filters.{local_of}
use Rattle.pl_normal.specs.Guards.{has_some_type, types_at, type_guard, type_guards, literal_guard}
use Rattle.pl_normal.specs.Guards.{literal_guards, guards_of}
use Rattle.pl_normal.specs.Measures.{schema_size, relation_rows, base_bound}
use Rattle.pl_normal.specs.ParameterOrder.{classes_in_order}
use Rattle.pl_normal.specs.Slots.{parameter_slots, slot_at}
use Rattle.pl_normal.proofs.Ordered.{classes_once, in_order_unfixed, unfixed_itself}
use Rattle.pl_normal.proofs.SlotLemmas.{parameter_slots-length}
use Rattle.pl_state.specs.StateOf.{state_in}
use Rattle.pl_gen.specs.Measures.{close_entry_probes}
use Rattle.pl_gen.specs.Walks.{AreAcyclic, sought_classes, resume_reads, step_reads}
use Rattle.pl_normal.proofs.Forming.{flat_short}
use Rattle.pl_gen.proofs.Sizes.{edges_few, known_one, literal_guard_one}
use Rattle.pl_normal.proofs.Leaving.{sum_into}
use Rattle.std.proofs.Math.Nat.{mul-le-mul_right}

-- ---- the guards and the unfixed classes are no more than the literals and the parameters

all_one : (w : ℕ → ℕ) (xs : List ℕ) → ((x : ℕ) → Contains xs x → w x ≡ 1) → sum_by w xs ≡ length xs
all_one w [] one = refl
all_one w (x ∷ xs) one =
    let own = one x (Contains-cons_first x xs) in
    let rest = all_one w xs (λ y c. one y (Contains-cons_rest x xs y c)) in
    let whole = sum_by-cons w x xs in omega (arith, own, rest, whole)

-- 1 for a slot that has a class
abbrev open_slot : Slot → ℕ
open_slot (Fixed o) = 0
open_slot (Class c) = 1

guard_or_class : (task : Task) (types : List ℕ) (slot : Slot) →
    length (type_guard task types slot) + open_slot slot ≤ 1
guard_or_class task types (Fixed o) = let one = known_one (has_some_type task types o) in omega (arith, one)
guard_or_class task types (Class c) = omega arith

flat_with : {X Y : Type 0} (f : X → List Y) (w : X → ℕ) (xs : List X) → ((x : X) → length (f x) + w x ≤ 1) →
    length (flat_map f xs) + sum_by w xs ≤ length xs
flat_with f w [] one = omega arith
flat_with f w (x ∷ xs) one =
    let own = one x in
    let rest = flat_with f w xs one in
    let whole = length-append (f x) (flat_map f xs) in
    let sum = sum_by-cons w x xs in omega (arith, own, rest, whole, sum)

abbrev open_at : Schema → ℕ → ℕ
open_at schema p = open_slot (slot_at (parameter_slots schema) p)

classes_open : (schema : Schema) → length (classes_in_order schema) ≤ sum_by (open_at schema)
    (range_with_len 0 (length (parameter_slots schema)))
classes_open schema =
    let few = sum_into (open_at schema) (classes_in_order schema)
    (range_with_len 0 (length (parameter_slots schema))) (classes_once schema)
    (λ c h. range_contains (length (parameter_slots schema)) c (low c h)) in
    let one = all_one (open_at schema) (classes_in_order schema)
    (λ c h. ap open_slot (unfixed_itself schema c (in_order_unfixed schema c h)).1) in
    omega (arith, few, one)
  where
    low : (c : ℕ) → Contains (classes_in_order schema) c → c < length (parameter_slots schema)
    low c h = let own = (unfixed_itself schema c (in_order_unfixed schema c h)).0 in
        let long = parameter_slots-length schema in omega (arith, own, long)

guards_and_classes : (task : Task) (schema : Schema) →
    length (guards_of task schema) + length (classes_in_order schema) ≤ schema_size schema
unfolding guards_of type_guards literal_guards
guards_and_classes task schema =
    let slots = parameter_slots-length schema in
    let many = length-range_with_len 0 (length (parameter_slots schema)) in
    let types = flat_with (λ p. type_guard task (types_at schema.parameters p)
    (slot_at (parameter_slots schema) p)) (open_at schema)
    (range_with_len 0 (length (parameter_slots schema)))
    (λ p. guard_or_class task (types_at schema.parameters p) (slot_at (parameter_slots schema) p)) in
    let whole = length-append (flat_map (λ p. type_guard task (types_at schema.parameters p)
    (slot_at (parameter_slots schema) p)) (range_with_len 0 (length (parameter_slots schema))))
    (flat_map (literal_guard task (parameter_slots schema)) schema.condition) in
    let literals = flat_short (literal_guard task (parameter_slots schema)) schema.condition
    (literal_guard_one task (parameter_slots schema)) in
    let classes = classes_open schema in
    omega (arith, slots, many, types, whole, literals, classes)

-- ---- the bound of a schema

more_rows : (c rows : ℕ) → 4 * c * (rows + 1) ≡ 3 * c * rows + c * rows + 4 * c
more_rows c rows = grind arith

some_times : (c rows : ℕ) → 0 < rows → c ≤ c * rows
some_times c rows some = grind (arith, some)

filled_base : (g n l k c rows : ℕ) → g + k ≤ c → n + l ≤ c → 0 < rows →
    (g + (3 * n + 2 * l) * rows) + (3 * k + 2 * k) ≤ 4 * c * (rows + 1)
filled_base g n l k c rows guards edges some =
    let tables = mul-le-mul_right {m = 3 * n + 2 * l} {n = 3 * c} rows (omega (arith, edges)) in
    let own = some_times c rows some in
    let parts = more_rows c rows in omega (arith, guards, tables, own, parts)

empty_base : (g n l k c rows : ℕ) → g + k ≤ c → rows ≡ 0 →
    (g + (3 * n + 2 * l) * rows) + (3 * 0 + 2 * k) ≤ 4 * c * (rows + 1)
empty_base g n l k c rows guards none =
    subst (λ r. (g + (3 * n + 2 * l) * r) + (3 * 0 + 2 * k) ≤ 4 * c * (r + 1)) (sym none)
    (let whole = more_rows c 0 in let tables = no_times (3 * n + 2 * l) in let own = no_times (3 * c) in
    let less = no_times c in omega (arith, guards, whole, tables, own, less))
  where
    no_times : (m : ℕ) → m * 0 ≡ 0
    no_times m = grind arith

positive : (n : ℕ) → (n == 0) ≡ false → 0 < n
positive zero h = absurd (cc)
positive (suc n) h = omega arith

schema_base : (task : Task) (s : State) (schema : Schema) →
    close_entry_probes task s schema + (3 * sought_classes task s schema + 2 * length
    (classes_in_order schema)) ≤ 4 * schema_size schema * (relation_rows task s schema + 1)
unfolding sought_classes
schema_base task s schema = by (relation_rows task s schema == 0) refl
  where
    by : (b : Bool) → (relation_rows task s schema == 0) ≡ b →
        close_entry_probes task s schema + (3 * cond {A = ℕ} b 0 (length (classes_in_order schema)) + 2 *
        length (classes_in_order schema)) ≤ 4 * schema_size schema * (relation_rows task s schema + 1)
    by true at =
        empty_base (length (guards_of task schema)) (length (edges_of schema)) (length (local_of schema))
        (length (classes_in_order schema)) (schema_size schema) (relation_rows task s schema)
        (guards_and_classes task schema) (eqb-true (relation_rows task s schema) 0 at)
    by false at =
        filled_base (length (guards_of task schema)) (length (edges_of schema)) (length (local_of schema))
        (length (classes_in_order schema)) (schema_size schema) (relation_rows task s schema)
        (guards_and_classes task schema) (edges_few schema) (positive (relation_rows task s schema) at)

-- ---- and of all schemas

three_sums : (f g h w : Schema → ℕ) (schemas : List Schema) →
    ((schema : Schema) → f schema + (g schema + h schema) ≤ w schema) →
    sum_by f schemas + (sum_by g schemas + sum_by h schemas) ≤ sum_by w schemas
three_sums f g h w [] each = omega arith
three_sums f g h w (x ∷ xs) each =
    let own = each x in
    let rest = three_sums f g h w xs each in
    let first = sum_by-cons f x xs in
    let second = sum_by-cons g x xs in
    let third = sum_by-cons h x xs in
    let whole = sum_by-cons w x xs in omega (arith, own, rest, first, second, third, whole)

pub base_within : (task : Task) (words given named : List ℕ) (start after : ℕ) → given ≡ named →
    words ≡ named → (AreAcyclic task → after ≤ start + sum_by (close_entry_probes task (state_in task given))
    task.schemas) → AreAcyclic task →
    after + (resume_reads (record { task = task; words = words }) + step_reads task) ≤ start + base_bound task
    (state_in task named)
unfolding base_bound
base_within task words given named start after same read cost acyclic =
    let taken : after ≤ start + sum_by (close_entry_probes task (state_in task named)) task.schemas =
    subst (λ xs. after ≤ start + sum_by (close_entry_probes task (state_in task xs)) task.schemas) same
    (cost acyclic) in
    let whole = three_sums (close_entry_probes task (state_in task named))
    (λ schema. 3 * sought_classes task (state_in task named) schema)
    (λ schema. 2 * length (classes_in_order schema))
    (λ schema. 4 * schema_size schema * (relation_rows task (state_in task named) schema + 1))
    task.schemas (schema_base task (state_in task named)) in
    subst (λ xs. after + (resume_reads (record { task = task; words = xs }) + step_reads task) ≤ start +
    base_bound task (state_in task named)) (sym read) (omega (arith, taken, whole))
