-- The query of a schema says what applicability says: literal by literal.
use Rattle.std.proofs.Common.{◌≡◌, ℕ, ◌<◌, zero, suc, ◌==◌, Bool, true, false, not, ◌&&◌, if◌then◌else◌, List}
use Rattle.std.proofs.Common.{[], ◌∷◌, ◌++◌, length, map, Option, Some, None, slice_get, refl, sym, ◌∙◌, ap}
use Rattle.std.proofs.Common.{subst, arith, inl, inr, All, Contains, eqb-true, eq-eqb}
use Rattle.std.specs.Prelude.{slice_index}
use Rattle.std.specs.List.{flat_map, list_all, range_with_len}
use Rattle.std.proofs.lemmas.Bool.{and_parts, and_from, false≢true}
use Rattle.std.proofs.lemmas.Grind.{same_number_lists}
use Rattle.std.proofs.lemmas.Option.{slice_get_within, get_or_from_slice_get}
use Rattle.std.proofs.lemmas.List.Elements.{All-contains, Contains-append_left, Contains-append_right}
use Rattle.std.proofs.lemmas.List.Elements.{Contains-append_cases}
use Rattle.pl_rows.proofs.Canonical.{Contains-cons_cases, Contains-cons_first, Contains-cons_rest}
use Rattle.pl_rows.proofs.Canonical.{Contains-nil}
use Rattle.pl_hyper.proofs.Members.{range_contains, within_range}
use Rattle.pl_task.specs.declared.data.Atom.{Atom}
use Rattle.pl_task.specs.declared.data.Literal.{Literal}
use Rattle.pl_task.specs.declared.data.Literal.TheVariants as literal
use Rattle.pl_task.specs.declared.data.Parameter.{Parameter}
use Rattle.pl_task.specs.declared.data.Schema.{Schema}
use Rattle.pl_task.specs.declared.data.Term.{Term}
use Rattle.pl_task.specs.declared.data.Term.TheVariants as term
use Rattle.pl_task.specs.declared.task.Task.{Task}
use Rattle.pl_task.specs.Instance.{Instance}
use Rattle.pl_task.specs.States.{State, initial, is_met, are_typed, is_applicable, is_applicable_by}
use Rattle.pl_task.specs.WellFormed.{is_fluent, IsTermOf, IsLiteralOf}
use Rattle.pl_join.specs.declared.slot.Slot.{Slot}
use Rattle.pl_join.specs.declared.slot.Slot.TheVariants.{Fixed, Class}
use Rattle.pl_join.specs.Relation.{Assignment, slot_value}
use Rattle.pl_join.proofs.Members.{Contains-flat_map, Contains-from_flat_map}
use Rattle.pl_normal.specs.declared.form.Edge.{Edge}
use Rattle.pl_normal.specs.declared.form.Guard.{Guard}
use Rattle.pl_normal.specs.declared.form.Placed.{Placed}
use Rattle.pl_normal.specs.declared.form.Sieve.{Sieve}
use Rattle.pl_normal.specs.declared.form.Sieve.TheVariants as sieve
use Rattle.pl_normal.specs.declared.form.Source.TheVariants as source
use Rattle.pl_normal.specs.Classes.{Equality, Fixing, AreEquated, IsChain, AreJoined, equalities}
use Rattle.pl_normal.specs.Classes.{literal_equality, fixings, literal_fixing, class_of, object_of}
use Rattle.pl_normal.specs.Classes.{parameter_classes}
use Rattle.pl_normal.specs.Slots.{class_slot, parameter_slots, slot_at, slot_of, slots_of, are_fixed}
use Rattle.pl_normal.specs.Slots.{fixed_value, class_set}
use Rattle.pl_normal.specs.Edges.{type_edge, type_edges, literal_edge, atom_edges, edges_of}
use Rattle.pl_normal.specs.Guards.{known, has_some_type, type_guard, types_at, type_guards, wanted_guard}
use Rattle.pl_normal.specs.Guards.{is_as_wanted, atom_guard, equality_guard, literal_guard, literal_guards}
use Rattle.pl_normal.specs.Guards.{guards_of}
use Rattle.pl_normal.specs.Filters.{unequal_over, literal_sieve, sieves_of, home, local_at, late_at}
use Rattle.pl_normal.specs.Filters.{local_among, late_among, local_of, late_of}
use Rattle.pl_normal.specs.Query.{KeepsStatic, values_of, meets_edge, meets_guard, meets_sieve}
use Rattle.pl_normal.specs.Query.{is_local_answer, is_answer, args_under, step_under}
use Rattle.pl_normal.proofs.Lists.{passes_all, all_pass}
use Rattle.pl_normal.proofs.SlotLemmas.{same_slot, fixed_slot, parameter_value, term_value, terms_values}
use Rattle.pl_normal.proofs.SlotLemmas.{fixed_values, args_under-length, parameter_slots-length, class_at}
use Rattle.pl_normal.proofs.SlotLemmas.{slot_is}
use Rattle.pl_normal.proofs.Joined.{class_of-least, class_joined}
use Rattle.std.proofs.lemmas.Option.{same_Some}
use Rattle.std.proofs.Math.Bool.{and-true}

-- ---- guards

pub known_met : (s : State) (b : Bool) → list_all (meets_guard s) (known b) ≡ b
known_met s true = refl
known_met s false = refl

wanted_met : (s : State) (wanted : Bool) (atom : Atom)
    → list_all (meets_guard s) (wanted_guard wanted atom ∷ []) ≡ is_as_wanted wanted (s atom)
wanted_met s true atom = and-true (s atom)
wanted_met s false atom = and-true (not (s atom))

guard_by : (task : Task) (s : State) (wanted : Bool) (atom : Atom) (b : Bool) → KeepsStatic task s
    → is_fluent task.schemas atom.predicate ≡ b →
    list_all (meets_guard s)
    (if b then wanted_guard wanted atom ∷ [] else known (is_as_wanted wanted (initial task atom)))
    ≡ is_as_wanted wanted (s atom)
guard_by task s wanted atom true keeps e = wanted_met s wanted atom
guard_by task s wanted atom false keeps e = known_met s (is_as_wanted wanted (initial task atom))
    ∙ ap (is_as_wanted wanted) (sym (keeps atom e))

-- the guard of an atom says whether the state has it as it is wanted
guard_met : (task : Task) (s : State) (wanted : Bool) (atom : Atom) → KeepsStatic task s
    → list_all (meets_guard s) (atom_guard task wanted atom) ≡ is_as_wanted wanted (s atom)
guard_met task s wanted atom keeps = guard_by task s wanted atom (is_fluent task.schemas atom.predicate) keeps
    refl

-- ---- literals

abbrev row_atom : ℕ → List ℕ → Atom
row_atom predicate row = record { predicate = predicate; objects = row }

-- the parts that a literal gives are met
abbrev parts_met : Task → Schema → State → Assignment → Literal → Bool
parts_met task schema s f l =
    list_all (meets_edge task schema s f) (literal_edge (parameter_slots schema) l)
    && (list_all (meets_guard s) (literal_guard task (parameter_slots schema) l)
    && list_all (meets_sieve s f) (literal_sieve (parameter_slots schema) l))

fixed_row : (task : Task) (s : State) (f : Assignment) (wanted : Bool) (predicate : ℕ) (slots : List Slot)
    → KeepsStatic task s → are_fixed slots ≡ true →
    list_all (meets_guard s) (atom_guard task wanted (row_atom predicate (map fixed_value slots)))
    ≡ is_as_wanted wanted (s (row_atom predicate (values_of f slots)))
fixed_row task s f wanted predicate slots keeps e =
    guard_met task s wanted (row_atom predicate (map fixed_value slots)) keeps
    ∙ ap (λ row. is_as_wanted wanted (s (row_atom predicate row))) (fixed_values f slots e)

positive_by : (task : Task) (schema : Schema) (s : State) (f : Assignment) (predicate : ℕ) (slots : List Slot)
    (b : Bool) → KeepsStatic task s → are_fixed slots ≡ b →
    s (row_atom predicate (values_of f slots))
    ≡ (list_all (meets_edge task schema s f)
    (if b then [] else
    record { source = source.Predicate predicate; slots = slots; classes = class_set slots } ∷ [])
    && (list_all (meets_guard s)
    (if b then atom_guard task true (row_atom predicate (map fixed_value slots)) else []) && true))
positive_by task schema s f predicate slots true keeps e =
    sym (and-true _ ∙ fixed_row task s f true predicate slots keeps e)
positive_by task schema s f predicate slots false keeps e = sym (and-true _ ∙ and-true _)

negative_by : (task : Task) (s : State) (f : Assignment) (predicate : ℕ) (slots : List Slot) (b : Bool)
    → KeepsStatic task s → are_fixed slots ≡ b →
    not (s (row_atom predicate (values_of f slots)))
    ≡ (list_all (meets_guard s)
    (if b then atom_guard task false (row_atom predicate (map fixed_value slots)) else [])
    && list_all (meets_sieve s f) (if b then [] else sieve.Absent predicate slots ∷ []))
negative_by task s f predicate slots true keeps e =
    sym (and-true _ ∙ fixed_row task s f false predicate slots keeps e)
negative_by task s f predicate slots false keeps e = sym (and-true _)

fixed_equality : (s : State) (x y : ℕ) → (x == y) ≡ (list_all (meets_guard s) (known (x == y)) && true)
fixed_equality s x y = sym (and-true _ ∙ known_met s (x == y))

-- an equality of two parameters
one_slot : (s : State) (f : Assignment) (slot : Slot)
    → (slot_value f slot == slot_value f slot)
    ≡ (list_all (meets_guard s) (equality_guard true slot slot) && true)
one_slot s f (Fixed x) = fixed_equality s x x
one_slot s f (Class c) = eq-eqb (f c) (f c) refl

two_slots : (s : State) (f : Assignment) (a b : Slot) → a ≡ b
    → (slot_value f a == slot_value f b) ≡ (list_all (meets_guard s) (equality_guard true a b) && true)
two_slots s f a b e =
    subst (λ c. (slot_value f a == slot_value f c)
    ≡ (list_all (meets_guard s) (equality_guard true a c) && true)) e (one_slot s f a)

-- an equality of a parameter and an object
left_fixed : (s : State) (f : Assignment) (a : Slot) (x y : ℕ) → a ≡ Fixed x
    → (slot_value f a == y) ≡ (list_all (meets_guard s) (equality_guard true a (Fixed y)) && true)
left_fixed s f a x y e =
    subst (λ c. (slot_value f c == y) ≡ (list_all (meets_guard s) (equality_guard true c (Fixed y)) && true))
    (sym e) (fixed_equality s x y)

right_fixed : (s : State) (f : Assignment) (b : Slot) (x y : ℕ) → b ≡ Fixed y
    → (x == slot_value f b) ≡ (list_all (meets_guard s) (equality_guard true (Fixed x) b) && true)
right_fixed s f b x y e =
    subst (λ c. (x == slot_value f c) ≡ (list_all (meets_guard s) (equality_guard true (Fixed x) c) && true))
    (sym e) (fixed_equality s x y)

unequal_met : (s : State) (f : Assignment) (a b : Slot)
    → not (slot_value f a == slot_value f b) ≡ (list_all (meets_guard s) (equality_guard false a b)
    && list_all (meets_sieve s f) (unequal_over a b))
unequal_met s f (Fixed x) (Fixed y) = sym (and-true _ ∙ known_met s (not (x == y)))
unequal_met s f (Fixed x) (Class d) = sym (and-true _)
unequal_met s f (Class c) (Fixed y) = sym (and-true _)
unequal_met s f (Class c) (Class d) = sym (and-true _)

-- the two terms of an equality of the condition
equal_met : (schema : Schema) (s : State) (f : Assignment) (objects : ℕ) (a b : Term)
    → Contains schema.condition (literal.Equal a b) → IsTermOf objects (length schema.parameters) a
    → IsTermOf objects (length schema.parameters) b →
    (slot_value f (slot_of (parameter_slots schema) a) == slot_value f (slot_of (parameter_slots schema) b))
    ≡ (list_all (meets_guard s)
    (equality_guard true (slot_of (parameter_slots schema) a) (slot_of (parameter_slots schema) b))
    && true)
equal_met schema s f objects (term.Parameter p) (term.Parameter q) held a b =
    two_slots s f (slot_at (parameter_slots schema) p) (slot_at (parameter_slots schema) q)
    (same_slot schema p q held (a.parameter p refl) (b.parameter q refl))
equal_met schema s f objects (term.Parameter p) (term.Object o) held a b =
    let among = Contains-flat_map literal_fixing schema.condition
    (literal.Equal (term.Parameter p) (term.Object o)) (record { parameter = p; object = o }) held
    (Contains-cons_first (record { parameter = p; object = o }) []) in
    let (x, is) = fixed_slot schema p o among (a.parameter p refl) in
    left_fixed s f (slot_at (parameter_slots schema) p) x o is
equal_met schema s f objects (term.Object o) (term.Parameter q) held a b =
    let among = Contains-flat_map literal_fixing schema.condition
    (literal.Equal (term.Object o) (term.Parameter q)) (record { parameter = q; object = o }) held
    (Contains-cons_first (record { parameter = q; object = o }) []) in
    let (y, is) = fixed_slot schema q o among (b.parameter q refl) in
    right_fixed s f (slot_at (parameter_slots schema) q) o y is
equal_met schema s f objects (term.Object x) (term.Object y) held a b = fixed_equality s x y

-- a literal of the condition holds just where its parts are met
pub literal_met : (task : Task) (schema : Schema) (s : State) (f : Assignment) (l : Literal)
    → KeepsStatic task s → Contains schema.condition l
    → IsLiteralOf task.predicates (length task.objects) (length schema.parameters) l →
    is_met s (args_under schema f) l ≡ parts_met task schema s f l
literal_met task schema s f (literal.Atom a) keeps held is =
    ap (λ row. s (row_atom a.predicate row)) (terms_values schema f a.terms)
    ∙ positive_by task schema s f a.predicate (slots_of (parameter_slots schema) a.terms)
    (are_fixed (slots_of (parameter_slots schema) a.terms)) keeps refl
literal_met task schema s f (literal.NotAtom a) keeps held is =
    ap (λ row. not (s (row_atom a.predicate row))) (terms_values schema f a.terms)
    ∙ negative_by task s f a.predicate (slots_of (parameter_slots schema) a.terms)
    (are_fixed (slots_of (parameter_slots schema) a.terms)) keeps refl
literal_met task schema s f (literal.Equal a b) keeps held is =
    equated (term_value schema f a) (term_value schema f b)
    ∙ equal_met schema s f (length task.objects) a b held (is.equal_left a b refl)
    (is.equal_right a b refl)
  where
    equated : {u v x y : ℕ} → u ≡ x → v ≡ y → (u == v) ≡ (x == y)
    equated e k = λ i. e i == k i
literal_met task schema s f (literal.NotEqual a b) keeps held is =
    equated (term_value schema f a) (term_value schema f b)
    ∙ unequal_met s f (slot_of (parameter_slots schema) a) (slot_of (parameter_slots schema) b)
  where
    equated : {u v x y : ℕ} → u ≡ x → v ≡ y → not (u == v) ≡ not (x == y)
    equated e k = λ i. not (e i == k i)

-- ---- types

-- the types of a parameter are met just where its edge or guard is
pub kind_met : (task : Task) (schema : Schema) (s : State) (f : Assignment) (p : ℕ) (slot : Slot) →
    has_some_type task (types_at schema.parameters p) (slot_value f slot)
    ≡ (list_all (meets_edge task schema s f) (type_edge p slot)
    && list_all (meets_guard s) (type_guard task (types_at schema.parameters p) slot))
kind_met task schema s f p (Fixed o) = sym (known_met s (has_some_type task (types_at schema.parameters p) o))
kind_met task schema s f p (Class c) = sym (and-true _ ∙ and-true _)

typed_rest : (task : Task) (p : Parameter) (ps : List Parameter) (o : ℕ) (os : List ℕ) →
    (length os ≡ length ps)
    × ((k : ℕ) → k < length ps → has_some_type task (types_at ps k) (slice_index os k) ≡ true)
    → has_some_type task p.types o ≡ true →
    (suc (length os) ≡ suc (length ps))
    × ((k : ℕ) → k < suc (length ps) → has_some_type task (types_at (p ∷ ps) k)
    (slice_index (o ∷ os) k) ≡ true)
typed_rest task p ps o os (many, rest) first = (ap suc many, at)
  where
    at : (k : ℕ) → k < suc (length ps) → has_some_type task (types_at (p ∷ ps) k)
        (slice_index (o ∷ os) k) ≡ true
    at zero h = first
    at (suc k) h = rest k (omega arith)

-- typed objects, place by place
pub typed_at : (task : Task) (ps : List Parameter) (os : List ℕ) → are_typed task ps os ≡ true
    → (length os ≡ length ps)
    × ((k : ℕ) → k < length ps → has_some_type task (types_at ps k) (slice_index os k) ≡ true)
typed_at task [] [] h = (refl, λ k below. absurd (omega arith))
typed_at task [] (o ∷ os) h = absurd (false≢true h)
typed_at task (p ∷ ps) [] h = absurd (false≢true h)
typed_at task (p ∷ ps) (o ∷ os) h =
    let both = and_parts (has_some_type task p.types o) (are_typed task ps os) h in
    typed_rest task p ps o os (typed_at task ps os both.1) both.0

pub at_typed : (task : Task) (ps : List Parameter) (os : List ℕ) → length os ≡ length ps
    → ((k : ℕ) → k < length ps → has_some_type task (types_at ps k) (slice_index os k) ≡ true)
    → are_typed task ps os ≡ true
at_typed task [] [] many h = refl
at_typed task [] (o ∷ os) many h = absurd (omega arith)
at_typed task (p ∷ ps) [] many h = absurd (omega arith)
at_typed task (p ∷ ps) (o ∷ os) many h =
    and_from (has_some_type task p.types o) (are_typed task ps os) (h 0 (omega arith))
    (at_typed task ps os (omega arith) (λ k below. h (suc k) (omega arith)))

-- ---- local and late filters are all filters

placed_or_late : (edges : List Edge) (p : Sieve → Bool) (x : Sieve) (place : Option ℕ) → home edges x ≡ place
    → list_all (λ (placed : Placed). p placed.sieve) (local_at place x) ≡ true
    → list_all p (late_at place x) ≡ true → p x ≡ true
placed_or_late edges p x None e h k = sym (and-true (p x)) ∙ k
placed_or_late edges p x (Some n) e h k = sym (and-true (p x)) ∙ h

all_sieves : (edges : List Edge) (p : Sieve → Bool) (xs : List Sieve)
    → list_all (λ (placed : Placed). p placed.sieve) (local_among edges xs) ≡ true
    → list_all p (late_among edges xs) ≡ true → (x : Sieve) → Contains xs x → p x ≡ true
unfolding local_among late_among
all_sieves edges p xs h k x held =
    placed_or_late edges p x (home edges x) refl
    (all_pass (λ (placed : Placed). p placed.sieve) (local_at (home edges x) x)
    (λ y c. passes_all (λ (placed : Placed). p placed.sieve) _ y h
    (Contains-flat_map (λ z. local_at (home edges z) z) xs x y held c)))
    (all_pass p (late_at (home edges x) x)
    (λ y c. passes_all p _ y k (Contains-flat_map (λ z. late_at (home edges z) z) xs x y held c)))

local_is : (p : Sieve → Bool) (x : Sieve) (place : Option ℕ) (y : Placed) → p x ≡ true
    → Contains (local_at place x) y → p y.sieve ≡ true
local_is p x None y h c = absurd (Contains-nil y c)
local_is p x (Some n) y h c = elim (Contains-cons_cases (record { edge = n; sieve = x }) [] y c) [
  | inl e ↦ subst (λ (z : Placed). p z.sieve ≡ true) e h
  | inr r ↦ absurd (Contains-nil y r)
]

late_is : (p : Sieve → Bool) (x : Sieve) (place : Option ℕ) (y : Sieve) → p x ≡ true
    → Contains (late_at place x) y → p y ≡ true
late_is p x (Some n) y h c = absurd (Contains-nil y c)
late_is p x None y h c = elim (Contains-cons_cases x [] y c) [
  | inl e ↦ subst (λ z. p z ≡ true) e h
  | inr r ↦ absurd (Contains-nil y r)
]

local_pass : (edges : List Edge) (p : Sieve → Bool) (xs : List Sieve)
    → ((x : Sieve) → Contains xs x → p x ≡ true) → list_all (λ (placed : Placed). p placed.sieve)
    (local_among edges xs) ≡ true
unfolding local_among
local_pass edges p xs h = all_pass (λ (placed : Placed). p placed.sieve) _
    (λ y c. from_one y (Contains-from_flat_map (λ z. local_at (home edges z) z) xs y c))
  where
    from_one : (y : Placed) → (x : Sieve) × Contains xs x × Contains (local_at (home edges x) x) y
        → p y.sieve ≡ true
    from_one y (x, held, c) = local_is p x (home edges x) y (h x held) c

late_pass : (edges : List Edge) (p : Sieve → Bool) (xs : List Sieve)
    → ((x : Sieve) → Contains xs x → p x ≡ true) → list_all p (late_among edges xs) ≡ true
unfolding late_among
late_pass edges p xs h = all_pass p _
    (λ y c. from_one y (Contains-from_flat_map (λ z. late_at (home edges z) z) xs y c))
  where
    from_one : (y : Sieve) → (x : Sieve) × Contains xs x × Contains (late_at (home edges x) x) y → p y ≡ true
    from_one y (x, held, c) = late_is p x (home edges x) y (h x held) c

-- ---- all parts of the query

pub record MeetsAll (task : Task) (schema : Schema) (s : State) (f : Assignment) : Type 0 where
  pub edges : (e : Edge) → Contains (edges_of schema) e → meets_edge task schema s f e ≡ true
  pub guards : (g : Guard) → Contains (guards_of task schema) g → meets_guard s g ≡ true
  pub sieves : (x : Sieve) → Contains (sieves_of (parameter_slots schema) schema.condition) x
      → meets_sieve s f x ≡ true

pub answer_meets : (task : Task) (schema : Schema) (s : State) (f : Assignment)
    → is_answer task schema s f ≡ true → MeetsAll task schema s f
unfolding is_answer is_local_answer local_of late_of
answer_meets task schema s f h =
    let late = and_parts (is_local_answer task schema s f) (list_all (meets_sieve s f) (late_of schema)) h in
    let local = and_parts (list_all (meets_edge task schema s f) (edges_of schema)
    && list_all (meets_guard s) (guards_of task schema))
    (list_all (λ (placed : Placed). meets_sieve s f placed.sieve) (local_of schema)) late.0 in
    let both = and_parts (list_all (meets_edge task schema s f) (edges_of schema))
    (list_all (meets_guard s) (guards_of task schema)) local.0 in record {
      edges = λ e c. passes_all (meets_edge task schema s f) (edges_of schema) e both.0 c;
      guards = λ g c. passes_all (meets_guard s) (guards_of task schema) g both.1 c;
      sieves = all_sieves (edges_of schema) (meets_sieve s f)
          (sieves_of (parameter_slots schema) schema.condition) local.1 late.1;
    }

pub meets_answer : (task : Task) (schema : Schema) (s : State) (f : Assignment) → MeetsAll task schema s f
    → is_answer task schema s f ≡ true
unfolding is_answer is_local_answer local_of late_of
meets_answer task schema s f all =
    let sieves = sieves_of (parameter_slots schema) schema.condition in
    and_from (is_local_answer task schema s f) (list_all (meets_sieve s f) (late_of schema))
    (and_from (list_all (meets_edge task schema s f) (edges_of schema)
    && list_all (meets_guard s) (guards_of task schema))
    (list_all (λ (placed : Placed). meets_sieve s f placed.sieve) (local_of schema))
    (and_from (list_all (meets_edge task schema s f) (edges_of schema))
    (list_all (meets_guard s) (guards_of task schema))
    (all_pass (meets_edge task schema s f) (edges_of schema) all.edges)
    (all_pass (meets_guard s) (guards_of task schema) all.guards))
    (local_pass (edges_of schema) (meets_sieve s f) sieves all.sieves))
    (late_pass (edges_of schema) (meets_sieve s f) sieves all.sieves)

-- where each part of the query comes from
pub type_edge_among : (schema : Schema) (p : ℕ) (e : Edge) → p < length schema.parameters
    → Contains (type_edge p (slot_at (parameter_slots schema) p)) e → Contains (edges_of schema) e
unfolding edges_of type_edges
type_edge_among schema p e h c =
    let long = parameter_slots-length schema in
    Contains-append_left _ _ e
    (Contains-flat_map (λ q. type_edge q (slot_at (parameter_slots schema) q))
    (range_with_len 0 (length (parameter_slots schema))) p e
    (range_contains (length (parameter_slots schema)) p (omega arith)) c)

pub atom_edge_among : (schema : Schema) (l : Literal) (e : Edge) → Contains schema.condition l
    → Contains (literal_edge (parameter_slots schema) l) e → Contains (edges_of schema) e
unfolding edges_of atom_edges
atom_edge_among schema l e held c =
    Contains-append_right (type_edges (parameter_slots schema)) _ e
    (Contains-flat_map (literal_edge (parameter_slots schema)) schema.condition l e held c)

type_guard_among : (task : Task) (schema : Schema) (p : ℕ) (g : Guard) → p < length schema.parameters
    → Contains (type_guard task (types_at schema.parameters p) (slot_at (parameter_slots schema) p)) g
    → Contains (guards_of task schema) g
unfolding guards_of type_guards
type_guard_among task schema p g h c =
    let long = parameter_slots-length schema in
    Contains-append_left _ _ g
    (Contains-flat_map
    (λ q. type_guard task (types_at schema.parameters q) (slot_at (parameter_slots schema) q))
    (range_with_len 0 (length (parameter_slots schema))) p g
    (range_contains (length (parameter_slots schema)) p (omega arith)) c)

literal_guard_among : (task : Task) (schema : Schema) (l : Literal) (g : Guard) → Contains schema.condition l
    → Contains (literal_guard task (parameter_slots schema) l) g → Contains (guards_of task schema) g
unfolding guards_of literal_guards
literal_guard_among task schema l g held c =
    Contains-append_right (type_guards task schema.parameters (parameter_slots schema)) _ g
    (Contains-flat_map (literal_guard task (parameter_slots schema)) schema.condition l g held c)

sieve_among : (schema : Schema) (l : Literal) (x : Sieve) → Contains schema.condition l
    → Contains (literal_sieve (parameter_slots schema) l) x
    → Contains (sieves_of (parameter_slots schema) schema.condition) x
unfolding sieves_of
sieve_among schema l x held c = Contains-flat_map (literal_sieve (parameter_slots schema)) schema.condition l
    x held c

-- where the parts are met, the literals hold and the objects have types
pub met_literal : (task : Task) (schema : Schema) (s : State) (f : Assignment) (l : Literal)
    → KeepsStatic task s → MeetsAll task schema s f → Contains schema.condition l
    → IsLiteralOf task.predicates (length task.objects) (length schema.parameters) l
    → is_met s (args_under schema f) l ≡ true
met_literal task schema s f l keeps all held is =
    literal_met task schema s f l keeps held is
    ∙ and_from (list_all (meets_edge task schema s f) (literal_edge (parameter_slots schema) l)) _
    (all_pass (meets_edge task schema s f) _ (λ e c. all.edges e (atom_edge_among schema l e held c)))
    (and_from (list_all (meets_guard s) (literal_guard task (parameter_slots schema) l)) _
    (all_pass (meets_guard s) _ (λ g c. all.guards g (literal_guard_among task schema l g held c)))
    (all_pass (meets_sieve s f) _ (λ x c. all.sieves x (sieve_among schema l x held c))))

pub met_type : (task : Task) (schema : Schema) (s : State) (f : Assignment) (p : ℕ) → MeetsAll task schema s f
    → p < length schema.parameters → has_some_type task (types_at schema.parameters p)
    (slice_index (args_under schema f) p) ≡ true
met_type task schema s f p all h =
    ap (has_some_type task (types_at schema.parameters p)) (parameter_value schema f p)
    ∙ (kind_met task schema s f p (slot_at (parameter_slots schema) p)
    ∙ and_from (list_all (meets_edge task schema s f) (type_edge p (slot_at (parameter_slots schema) p))) _
    (all_pass (meets_edge task schema s f) _ (λ e c. all.edges e (type_edge_among schema p e h c)))
    (all_pass (meets_guard s) _ (λ g c. all.guards g (type_guard_among task schema p g h c))))

abbrev HoldsAll : Task → Schema → State → Assignment → Type 0
HoldsAll task schema s f =
    ((l : Literal) → Contains schema.condition l → is_met s (args_under schema f) l ≡ true)
    × ((p : ℕ) → p < length schema.parameters → has_some_type task (types_at schema.parameters p)
    (slice_index (args_under schema f) p) ≡ true)

-- where the literals hold and the objects have types, the parts are met
typed_parts : (task : Task) (schema : Schema) (s : State) (f : Assignment) (p : ℕ) → HoldsAll task schema s f
    → p < length schema.parameters →
    (list_all (meets_edge task schema s f) (type_edge p (slot_at (parameter_slots schema) p))
    && list_all (meets_guard s)
    (type_guard task (types_at schema.parameters p) (slot_at (parameter_slots schema) p))) ≡ true
typed_parts task schema s f p (literals, types) h =
    sym (kind_met task schema s f p (slot_at (parameter_slots schema) p))
    ∙ (ap (has_some_type task (types_at schema.parameters p)) (sym (parameter_value schema f p))
    ∙ types p h)

abbrev AreLiteralsOf : Task → Schema → Type 0
AreLiteralsOf task schema = (l : Literal) → Contains schema.condition l
    → IsLiteralOf task.predicates (length task.objects) (length schema.parameters) l

literal_parts : (task : Task) (schema : Schema) (s : State) (f : Assignment) (l : Literal)
    → KeepsStatic task s → AreLiteralsOf task schema → HoldsAll task schema s f → Contains schema.condition l
    → parts_met task schema s f l ≡ true
literal_parts task schema s f l keeps are (literals, types) held =
    sym (literal_met task schema s f l keeps held (are l held)) ∙ literals l held

-- what parameters and literals give is of a parameter or of a literal
from_parts : {Y P : Type 0} (schema : Schema) (f : ℕ → List Y) (g : Literal → List Y) (y : Y)
    → Contains (flat_map f (range_with_len 0 (length (parameter_slots schema)))
    ++ flat_map g schema.condition) y → ((p : ℕ) → p < length schema.parameters → Contains (f p) y → P)
    → ((l : Literal) → Contains schema.condition l → Contains (g l) y → P) → P
from_parts {Y = Y} {P = P} schema f g y held first second =
    elim (Contains-append_cases (flat_map f (range_with_len 0 (length (parameter_slots schema))))
    (flat_map g schema.condition) y held) [
      | inl h ↦ of_parameter
          (Contains-from_flat_map f (range_with_len 0 (length (parameter_slots schema))) y h)
      | inr h ↦ of_literal (Contains-from_flat_map g schema.condition y h)
    ]
  where
    of_parameter : (p : ℕ) × Contains (range_with_len 0 (length (parameter_slots schema))) p
        × Contains (f p) y → P
    of_parameter (p, among, is) =
        let low = within_range (length (parameter_slots schema)) p among in
        let long = parameter_slots-length schema in first p (omega arith) is

    of_literal : (l : Literal) × Contains schema.condition l × Contains (g l) y → P
    of_literal (l, among, is) = second l among is

pub with_edge : {P : Type 0} (schema : Schema) (e : Edge) → Contains (edges_of schema) e
    → ((p : ℕ) → p < length schema.parameters
    → Contains (type_edge p (slot_at (parameter_slots schema) p)) e → P)
    → ((l : Literal) → Contains schema.condition l → Contains (literal_edge (parameter_slots schema) l) e → P)
    → P
unfolding edges_of type_edges atom_edges
with_edge schema e held = from_parts schema (λ p. type_edge p (slot_at (parameter_slots schema) p))
    (literal_edge (parameter_slots schema)) e held

pub with_guard : {P : Type 0} (task : Task) (schema : Schema) (g : Guard) → Contains (guards_of task schema) g
    → ((p : ℕ) → p < length schema.parameters
    → Contains (type_guard task (types_at schema.parameters p) (slot_at (parameter_slots schema) p)) g → P)
    → ((l : Literal) → Contains schema.condition l
    → Contains (literal_guard task (parameter_slots schema) l) g → P) → P
unfolding guards_of type_guards literal_guards
with_guard task schema g held = from_parts schema
    (λ p. type_guard task (types_at schema.parameters p) (slot_at (parameter_slots schema) p))
    (literal_guard task (parameter_slots schema)) g held

edge_holds : (task : Task) (schema : Schema) (s : State) (f : Assignment) (e : Edge) → KeepsStatic task s
    → AreLiteralsOf task schema → HoldsAll task schema s f → Contains (edges_of schema) e
    → meets_edge task schema s f e ≡ true
edge_holds task schema s f e keeps are all c = with_edge schema e c
    (λ p below held. passes_all (meets_edge task schema s f)
    (type_edge p (slot_at (parameter_slots schema) p)) e
    (and_parts (list_all (meets_edge task schema s f)
    (type_edge p (slot_at (parameter_slots schema) p))) _
    (typed_parts task schema s f p all below)).0 held)
    (λ l within held. passes_all (meets_edge task schema s f) (literal_edge (parameter_slots schema) l) e
    (and_parts (list_all (meets_edge task schema s f) (literal_edge (parameter_slots schema) l)) _
    (literal_parts task schema s f l keeps are all within)).0 held)

guard_holds : (task : Task) (schema : Schema) (s : State) (f : Assignment) (g : Guard) → KeepsStatic task s
    → AreLiteralsOf task schema → HoldsAll task schema s f → Contains (guards_of task schema) g
    → meets_guard s g ≡ true
guard_holds task schema s f g keeps are all c = with_guard task schema g c
    (λ p below held. passes_all (meets_guard s)
    (type_guard task (types_at schema.parameters p) (slot_at (parameter_slots schema) p)) g
    (and_parts (list_all (meets_edge task schema s f)
    (type_edge p (slot_at (parameter_slots schema) p))) _
    (typed_parts task schema s f p all below)).1 held)
    (λ l within held. passes_all (meets_guard s) (literal_guard task (parameter_slots schema) l) g
    (and_parts (list_all (meets_guard s) (literal_guard task (parameter_slots schema) l)) _
    (and_parts (list_all (meets_edge task schema s f) (literal_edge (parameter_slots schema) l)) _
    (literal_parts task schema s f l keeps are all within)).1).0 held)

sieve_holds : (task : Task) (schema : Schema) (s : State) (f : Assignment) (x : Sieve) → KeepsStatic task s
    → AreLiteralsOf task schema → HoldsAll task schema s f
    → Contains (sieves_of (parameter_slots schema) schema.condition) x → meets_sieve s f x ≡ true
unfolding sieves_of
sieve_holds task schema s f x keeps are all c = of_literal
    (Contains-from_flat_map (literal_sieve (parameter_slots schema)) schema.condition x c)
  where
    of_literal : (l : Literal) × Contains schema.condition l
        × Contains (literal_sieve (parameter_slots schema) l) x → meets_sieve s f x ≡ true
    of_literal (l, within, held) =
        let parts = and_parts
        (list_all (meets_edge task schema s f) (literal_edge (parameter_slots schema) l)) _
        (literal_parts task schema s f l keeps are all within) in
        passes_all (meets_sieve s f) (literal_sieve (parameter_slots schema) l) x
        (and_parts (list_all (meets_guard s) (literal_guard task (parameter_slots schema) l)) _ parts.1).1
        held

holds_meets : (task : Task) (schema : Schema) (s : State) (f : Assignment) → KeepsStatic task s
    → AreLiteralsOf task schema → HoldsAll task schema s f → MeetsAll task schema s f
holds_meets task schema s f keeps are all = record {
  edges = λ e c. edge_holds task schema s f e keeps are all c;
  guards = λ g c. guard_holds task schema s f g keeps are all c;
  sieves = λ x c. sieve_holds task schema s f x keeps are all c;
}

meets_holds : (task : Task) (schema : Schema) (s : State) (f : Assignment) → KeepsStatic task s
    → AreLiteralsOf task schema → MeetsAll task schema s f → HoldsAll task schema s f
meets_holds task schema s f keeps are all =
    (λ l c. met_literal task schema s f l keeps all c (are l c), λ p h. met_type task schema s f p all h)

-- ---- the answers are the assignments whose steps are applicable

-- the literals of a schema of a task are literals of the task
pub literals_of : (task : Task) (number : ℕ) (schema : Schema) → slice_get task.schemas number ≡ Some schema
    → AreLiteralsOf task schema
literals_of task number schema at l held =
    let within = slice_get_within task.schemas number schema at in
    let is = task.schemas_ok.each number schema within in
    let same = get_or_from_slice_get task.schemas number schema schema at in
    All-contains (IsLiteralOf task.predicates (length task.objects) (length schema.parameters))
    schema.condition l
    (subst (λ (x : Schema). All (IsLiteralOf task.predicates (length task.objects) (length x.parameters))
    x.condition) same is.literals) held

applicable_is : (task : Task) (number : ℕ) (schema : Schema) (s : State) (args : List ℕ)
    → slice_get task.schemas number ≡ Some schema →
    is_applicable task s (record { schema = number; args = args })
    ≡ (are_typed task schema.parameters args && list_all (is_met s args) schema.condition)
applicable_is task number schema s args at = ap (is_applicable_by task s args) at

pub answer_applicable : (task : Task) (number : ℕ) (schema : Schema) (s : State) (f : Assignment)
    → slice_get task.schemas number ≡ Some schema → KeepsStatic task s → is_answer task schema s f ≡ true
    → is_applicable task s (step_under number schema f) ≡ true
answer_applicable task number schema s f at keeps h =
    let all = meets_holds task schema s f keeps (literals_of task number schema at)
    (answer_meets task schema s f h) in
    applicable_is task number schema s (args_under schema f) at
    ∙ and_from (are_typed task schema.parameters (args_under schema f)) _
    (at_typed task schema.parameters (args_under schema f) (args_under-length schema f) all.1)
    (all_pass (is_met s (args_under schema f)) schema.condition all.0)

pub applicable_answer : (task : Task) (number : ℕ) (schema : Schema) (s : State) (f : Assignment)
    → slice_get task.schemas number ≡ Some schema → KeepsStatic task s
    → is_applicable task s (step_under number schema f) ≡ true → is_answer task schema s f ≡ true
applicable_answer task number schema s f at keeps h =
    let both = and_parts (are_typed task schema.parameters (args_under schema f)) _
    (sym (applicable_is task number schema s (args_under schema f) at) ∙ h) in
    meets_answer task schema s f (holds_meets task schema s f keeps (literals_of task number schema at) (
      λ l c. passes_all (is_met s (args_under schema f)) schema.condition l both.1 c,
      (typed_at task schema.parameters (args_under schema f) both.0).1,
    ))

-- ---- each applicable step is the step under an assignment

-- an equality of two parameters gives them one object
equality_met : (s : State) (args : List ℕ) (l : Literal) (e : Equality) → is_met s args l ≡ true
    → Contains (literal_equality l) e → slice_index args e.left ≡ slice_index args e.right
equality_met s args (literal.Atom a) e h c = absurd (Contains-nil e c)
equality_met s args (literal.NotAtom a) e h c = absurd (Contains-nil e c)
equality_met s args (literal.NotEqual a b) e h c = absurd (Contains-nil e c)
equality_met s args (literal.Equal (term.Object a) (term.Object b)) e h c = absurd (Contains-nil e c)
equality_met s args (literal.Equal (term.Object a) (term.Parameter b)) e h c = absurd (Contains-nil e c)
equality_met s args (literal.Equal (term.Parameter a) (term.Object b)) e h c = absurd (Contains-nil e c)
equality_met s args (literal.Equal (term.Parameter a) (term.Parameter b)) e h c =
    elim (Contains-cons_cases (record { left = a; right = b }) [] e c) [
      | inl is ↦ subst (λ (x : Equality). slice_index args x.left ≡ slice_index args x.right) is
          (eqb-true (slice_index args a) (slice_index args b) h)
      | inr r ↦ absurd (Contains-nil e r)
    ]

equated_same : (args : List ℕ) (es : List Equality) (a b : ℕ)
    → ((e : Equality) → Contains es e → slice_index args e.left ≡ slice_index args e.right)
    → AreEquated es a b → slice_index args a ≡ slice_index args b
equated_same args es a b all (inl h) = all (record { left = a; right = b }) h
equated_same args es a b all (inr h) = sym (all (record { left = b; right = a }) h)

chain_same : (args : List ℕ) (es : List Equality) (a : ℕ) (rest : List ℕ) (b : ℕ)
    → ((e : Equality) → Contains es e → slice_index args e.left ≡ slice_index args e.right)
    → IsChain es a rest b → slice_index args a ≡ slice_index args b
chain_same args es a [] b all p = ap (slice_index args) p
chain_same args es a (c ∷ rest) b all p = equated_same args es a c all p.0
    ∙ chain_same args es c rest b all p.1

-- so all parameters of a class have one object
pub joined_same : (s : State) (args : List ℕ) (condition : List Literal) (p q : ℕ)
    → ((l : Literal) → Contains condition l → is_met s args l ≡ true) → AreJoined (equalities condition) p q
    → slice_index args p ≡ slice_index args q
joined_same s args condition p q all (rest, chain) = chain_same args (equalities condition) p rest q
    (λ e c. of_literal e (Contains-from_flat_map literal_equality condition e c)) chain
  where
    of_literal : (e : Equality) → (l : Literal) × Contains condition l × Contains (literal_equality l) e
        → slice_index args e.left ≡ slice_index args e.right
    of_literal e (l, held, c) = equality_met s args l e (all l held) c

-- a fixing gives its parameter its object
fixing_met : (s : State) (args : List ℕ) (objects parameters : ℕ) (l : Literal) (g : Fixing)
    → is_met s args l ≡ true
    → ((a b : Term) → l ≡ literal.Equal a b → IsTermOf objects parameters a × IsTermOf objects parameters b)
    → Contains (literal_fixing l) g →
    (slice_index args g.parameter ≡ g.object) × (g.parameter < parameters)
fixing_met s args objects parameters (literal.Atom a) g h is c = absurd (Contains-nil g c)
fixing_met s args objects parameters (literal.NotAtom a) g h is c = absurd (Contains-nil g c)
fixing_met s args objects parameters (literal.NotEqual a b) g h is c = absurd (Contains-nil g c)
fixing_met s args objects parameters (literal.Equal (term.Object a) (term.Object b)) g h is c =
    absurd (Contains-nil g c)
fixing_met s args objects parameters (literal.Equal (term.Parameter a) (term.Parameter b)) g h is c =
    absurd (Contains-nil g c)
fixing_met s args objects parameters (literal.Equal (term.Parameter a) (term.Object b)) g h is c =
    elim (Contains-cons_cases (record { parameter = a; object = b }) [] g c) [
      | inl same ↦ subst (λ (x : Fixing). (slice_index args x.parameter ≡ x.object)
          × (x.parameter < parameters))
          same (
            eqb-true (slice_index args a) b h,
            (is (term.Parameter a) (term.Object b) refl).0.parameter a
                refl,
          )
      | inr r ↦ absurd (Contains-nil g r)
    ]
fixing_met s args objects parameters (literal.Equal (term.Object a) (term.Parameter b)) g h is c =
    elim (Contains-cons_cases (record { parameter = b; object = a }) [] g c) [
      | inl same ↦ subst (λ (x : Fixing). (slice_index args x.parameter ≡ x.object)
          × (x.parameter < parameters))
          same (
            sym (eqb-true a (slice_index args b) h),
            (is (term.Object a) (term.Parameter b) refl).1.parameter
                b refl,
          )
      | inr r ↦ absurd (Contains-nil g r)
    ]

object_by : (classes : List ℕ) (f : Fixing) (fs : List Fixing) (c o : ℕ) (b : Bool)
    → (slice_index classes f.parameter == c) ≡ b →
    (object_of classes fs c ≡ Some o → (g : Fixing) × Contains fs g × (slice_index classes g.parameter ≡ c)
    × (g.object ≡ o)) → (if b then Some f.object else object_of classes fs c) ≡ Some o →
    (g : Fixing) × Contains (f ∷ fs) g × (slice_index classes g.parameter ≡ c) × (g.object ≡ o)
object_by classes f fs c o true t next h =
    (f, Contains-cons_first f fs, eqb-true (slice_index classes f.parameter) c t, same_Some f.object o h)
object_by classes f fs c o false t next h = let (g, held, class, object) = next h in
    (g, Contains-cons_rest f fs g held, class, object)

-- the object of a class comes from a fixing
pub object_from : (classes : List ℕ) (fs : List Fixing) (c o : ℕ) → object_of classes fs c ≡ Some o
    → (g : Fixing) × Contains fs g × (slice_index classes g.parameter ≡ c) × (g.object ≡ o)
object_from classes [] c o h = absurd (none_some h)
  where
    none_some : None ≡ Some o → ⊥
    none_some q = cc
object_from classes (f ∷ fs) c o h = object_by classes f fs c o (slice_index classes f.parameter == c) refl
    (λ k. object_from classes fs c o k) h

-- a parameter has the object that its slot has, where each class has the object of the parameter that names
-- it
class_value : (task : Task) (schema : Schema) (s : State) (args : List ℕ) (p : ℕ) (found : Option ℕ)
    → AreLiteralsOf task schema → ((l : Literal) → Contains schema.condition l → is_met s args l ≡ true)
    → p < length schema.parameters →
    object_of (parameter_classes schema) (fixings schema.condition)
    (class_of (equalities schema.condition) p) ≡ found
    → slice_index args p ≡ slot_value (slice_index args)
    (class_slot found (class_of (equalities schema.condition) p))
class_value task schema s args p None are all h at = joined_same s args schema.condition p _ all
    (class_of-least (equalities schema.condition) p).joined
class_value task schema s args p (Some o) are all h at =
    from_fixing (object_from (parameter_classes schema) (fixings schema.condition)
    (class_of (equalities schema.condition) p) o at)
  where
    from_literal : (g : Fixing) → (l : Literal) × Contains schema.condition l × Contains (literal_fixing l) g
        → (slice_index args g.parameter ≡ g.object) × (g.parameter < length schema.parameters)
    from_literal g (l, held, c) =
        fixing_met s args (length task.objects) (length schema.parameters) l g (all l held)
        (λ a b is. let own = are l held in (own.equal_left a b is, own.equal_right a b is)) c

    from_fixing : (g : Fixing) × Contains (fixings schema.condition) g
        × (slice_index (parameter_classes schema) g.parameter ≡ class_of (equalities schema.condition) p)
        × (g.object ≡ o) → slice_index args p ≡ o
    from_fixing (g, held, class, object) =
        let given = from_literal g (Contains-from_flat_map literal_fixing schema.condition g held) in
        let same : class_of (equalities schema.condition) p ≡ class_of
        (equalities schema.condition) g.parameter = sym class ∙ class_at schema g.parameter 0 given.1 in
        joined_same s args schema.condition p g.parameter all
        (class_joined (equalities schema.condition) p g.parameter same) ∙ (given.0 ∙ object)

pub step_args : (task : Task) (schema : Schema) (s : State) (args : List ℕ) → AreLiteralsOf task schema
    → ((l : Literal) → Contains schema.condition l → is_met s args l ≡ true)
    → length args ≡ length schema.parameters → args ≡ args_under schema (slice_index args)
step_args task schema s args are all many =
    let long = args_under-length schema (slice_index args) in
    same_number_lists args (args_under schema (slice_index args)) (omega arith) (λ p h.
    class_value task schema s args p _ are all (omega arith) refl
    ∙ (ap (slot_value (slice_index args)) (sym (slot_is schema p (omega arith)))
    ∙ sym (parameter_value schema (slice_index args) p)))

same_step : (step : Instance) (args : List ℕ) → step.args ≡ args
    → step ≡ record { schema = step.schema; args = args }
same_step step args h = λ i. record { schema = step.schema; args = h i }

-- an applicable step is the step under the assignment that gives each class the object of the parameter that
-- names it
pub applicable_under : (task : Task) (schema : Schema) (s : State) (step : Instance)
    → slice_get task.schemas step.schema ≡ Some schema → is_applicable task s step ≡ true
    → step ≡ step_under step.schema schema (slice_index step.args)
applicable_under task schema s step at h =
    let both = and_parts (are_typed task schema.parameters step.args) _
    (sym (applicable_is task step.schema schema s step.args at) ∙ h) in
    same_step step (args_under schema (slice_index step.args))
    (step_args task schema s step.args (literals_of task step.schema schema at)
    (λ l c. passes_all (is_met s step.args) schema.condition l both.1 c)
    (typed_at task schema.parameters step.args both.0).0)
