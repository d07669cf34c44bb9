-- The rows of a schema's query are as many as its local answers.
use Rattle.std.proofs.Common.{◌≡◌, ℕ, ◌<◌, Bool, true, false, ◌&&◌, if◌then◌else◌, List, [], ◌∷◌, length, map}
use Rattle.std.proofs.Common.{filter, Option, Some, None, slice_get, refl, sym, ◌∙◌, ap, subst, IsTrue}
use Rattle.std.proofs.Common.{Contains, inl, inr}
use Rattle.std.specs.Prelude.{slice_index}
use Rattle.std.specs.List.{list_all}
use Rattle.std.proofs.lemmas.Bool.{and_parts}
use Rattle.std.proofs.lemmas.List.{length-map}
use Rattle.std.proofs.lemmas.List.Sums.{length-filter}
use Rattle.pl_task.specs.declared.data.Literal.{Literal}
use Rattle.pl_task.specs.declared.data.Literal.TheVariants as literal
use Rattle.pl_task.specs.declared.data.Schema.{Schema}
use Rattle.pl_task.specs.declared.task.Task.{Task}
use Rattle.pl_task.specs.Instance.{Instance}
use Rattle.pl_task.specs.States.{State}
use Rattle.pl_rows.proofs.Canonical.{Contains-nil, Contains-cons_cases, Contains-cons_first, same_rows}
use Rattle.pl_rows.specs.Rows.{row_cmp}
use Rattle.pl_join.specs.declared.slot.Slot.{Slot}
use Rattle.pl_join.specs.declared.slot.Slot.TheVariants.{Fixed, Class}
use Rattle.pl_join.specs.Relation.{Assignment, slot_value}
use Rattle.pl_join.proofs.Members.{Contains-filter, Contains-from_filter, Contains-from_flat_map}
use Rattle.pl_join.proofs.Members.{Contains-from_map}
use Rattle.pl_normal.specs.declared.form.Edge.{Edge}
use Rattle.pl_normal.specs.declared.form.Placed.{Placed}
use Rattle.pl_normal.specs.declared.form.Sieve.{Sieve}
use Rattle.pl_normal.specs.declared.form.Source.TheVariants as source
use Rattle.pl_normal.specs.Slots.{parameter_slots, slot_at, slots_of, are_fixed, class_set}
use Rattle.pl_normal.specs.Edges.{type_edge, literal_edge, edges_of}
use Rattle.pl_normal.specs.Filters.{local_at, local_among, local_of, home}
use Rattle.pl_normal.specs.Guards.{guards_of, types_at}
use Rattle.pl_normal.specs.Measures.{assigned, local_answers}
use Rattle.pl_normal.specs.ParameterOrder.{classes_in_order}
use Rattle.pl_normal.specs.Query.{args_under, values_of, is_in_source, meets_edge, meets_guard, meets_sieve}
use Rattle.pl_normal.specs.Query.{is_local_answer}
use Rattle.pl_normal.specs.Steps.{tuples}
use Rattle.pl_normal.proofs.Answering.{type_edge_among, with_edge}
use Rattle.pl_normal.proofs.KindLemmas.{typed_within}
use Rattle.pl_normal.proofs.Listing.{IsTuple, tuple_is, is_tuple, tuples_ascend, sorted_filter}
use Rattle.pl_normal.proofs.Listing.{steps_are_assignments}
use Rattle.pl_normal.proofs.Lists.{passes_all}
use Rattle.pl_normal.proofs.Ordered.{in_order_unfixed, unfixed_itself, classes_once}
use Rattle.pl_normal.proofs.SlotLemmas.{parameter_value}
use Rattle.pl_gen.specs.SchemaSteps.{AreRowsOf}
use Rattle.pl_normal.proofs.Unchanging.{all_agree}
use Rattle.pl_gen.proofs.SchemaRows.{filters_of, filter_agrees, terms_agree, assigned_row, assigned_agrees}

-- ---- assignments that give the parameters the same objects meet the same edges and local filters

slot_agrees : (schema : Schema) (f g : Assignment) (p : ℕ) (slot : Slot)
    → slot_at (parameter_slots schema) p ≡ slot → args_under schema f ≡ args_under schema g
    → slot_value f slot ≡ slot_value g slot
slot_agrees schema f g p slot at same =
    sym (ap (slot_value f) at)
    ∙ (sym (parameter_value schema f p)
    ∙ (ap (λ xs. slice_index xs p) same ∙ (parameter_value schema g p ∙ ap (slot_value g) at)))

type_agrees : (task : Task) (schema : Schema) (s : State) (f g : Assignment) (e : Edge) (p : ℕ) (slot : Slot)
    → slot_at (parameter_slots schema) p ≡ slot → args_under schema f ≡ args_under schema g
    → Contains (type_edge p slot) e → meets_edge task schema s f e ≡ meets_edge task schema s g e
type_agrees task schema s f g e p (Fixed o) at same held = absurd (Contains-nil e held)
type_agrees task schema s f g e p (Class c) at same held =
    elim (Contains-cons_cases
    (record { source = source.Kind p; slots = Class c ∷ []; classes = class_set (Class c ∷ []) }) [] e held) [
      | inl is ↦ subst (λ (x : Edge). meets_edge task schema s f x ≡ meets_edge task schema s g x) is
          (ap (λ v. is_in_source task schema s (source.Kind p) (v ∷ []))
          (slot_agrees schema f g p (Class c) at same))
      | inr rest ↦ absurd (Contains-nil e rest)
    ]

atom_agrees : (task : Task) (schema : Schema) (s : State) (f g : Assignment) (e : Edge) (predicate : ℕ)
    (slots : List Slot) (b : Bool) → values_of f slots ≡ values_of g slots →
    Contains (if b then [] else
    record { source = source.Predicate predicate; slots = slots; classes = class_set slots } ∷ []) e
    → meets_edge task schema s f e ≡ meets_edge task schema s g e
atom_agrees task schema s f g e predicate slots true same held = absurd (Contains-nil e held)
atom_agrees task schema s f g e predicate slots false same held =
    elim (Contains-cons_cases
    (record { source = source.Predicate predicate; slots = slots; classes = class_set slots }) [] e held) [
      | inl is ↦ subst (λ (x : Edge). meets_edge task schema s f x ≡ meets_edge task schema s g x) is
          (ap (is_in_source task schema s (source.Predicate predicate)) same)
      | inr rest ↦ absurd (Contains-nil e rest)
    ]

literal_edge_agrees : (task : Task) (schema : Schema) (s : State) (f g : Assignment) (e : Edge) (l : Literal)
    → args_under schema f ≡ args_under schema g → Contains (literal_edge (parameter_slots schema) l) e
    → meets_edge task schema s f e ≡ meets_edge task schema s g e
literal_edge_agrees task schema s f g e (literal.Atom a) same held =
    atom_agrees task schema s f g e a.predicate (slots_of (parameter_slots schema) a.terms)
    (are_fixed (slots_of (parameter_slots schema) a.terms)) (terms_agree schema f g a.terms same) held
literal_edge_agrees task schema s f g e (literal.NotAtom a) same held = absurd (Contains-nil e held)
literal_edge_agrees task schema s f g e (literal.Equal a b) same held = absurd (Contains-nil e held)
literal_edge_agrees task schema s f g e (literal.NotEqual a b) same held = absurd (Contains-nil e held)

edge_agrees : (task : Task) (schema : Schema) (s : State) (f g : Assignment) (e : Edge)
    → args_under schema f ≡ args_under schema g → Contains (edges_of schema) e
    → meets_edge task schema s f e ≡ meets_edge task schema s g e
edge_agrees task schema s f g e same held = with_edge schema e held
    (λ p within c. type_agrees task schema s f g e p (slot_at (parameter_slots schema) p) refl same c)
    (λ l within c. literal_edge_agrees task schema s f g e l same c)

is_local : (place : Option ℕ) (y : Sieve) (x : Placed) → Contains (local_at place y) x → y ≡ x.sieve
is_local None y x c = absurd (Contains-nil x c)
is_local (Some n) y x c = elim (Contains-cons_cases (record { edge = n; sieve = y }) [] x c) [
  | inl e ↦ ap (λ (p : Placed). p.sieve) e
  | inr r ↦ absurd (Contains-nil x r)
]

local_filter : (schema : Schema) (x : Placed) → Contains (local_of schema) x
    → Contains (filters_of schema) x.sieve
unfolding local_of local_among
local_filter schema x h =
    of_one (Contains-from_flat_map (λ z. local_at (home (edges_of schema) z) z) (filters_of schema) x h)
  where
    of_one : (y : Sieve) × Contains (filters_of schema) y × Contains (local_at (home (edges_of schema) y) y) x
        → Contains (filters_of schema) x.sieve
    of_one (y, m, c) = subst (Contains (filters_of schema)) (is_local (home (edges_of schema) y) y x c) m

local_agrees : (task : Task) (schema : Schema) (s : State) (f g : Assignment)
    → args_under schema f ≡ args_under schema g → is_local_answer task schema s f ≡ is_local_answer task
    schema s g
unfolding is_local_answer
local_agrees task schema s f g same = λ i. (edges i && list_all (meets_guard s) (guards_of task schema))
    && filters i
  where
    edges : list_all (meets_edge task schema s f) (edges_of schema) ≡ list_all (meets_edge task schema s g)
        (edges_of schema)
    edges = all_agree (meets_edge task schema s f) (meets_edge task schema s g) (edges_of schema)
        (λ e c. edge_agrees task schema s f g e same c)

    filters : list_all (λ (placed : Placed). meets_sieve s f placed.sieve) (local_of schema) ≡ list_all
        (λ (placed : Placed). meets_sieve s g placed.sieve) (local_of schema)
    filters = all_agree (λ (placed : Placed). meets_sieve s f placed.sieve)
        (λ (placed : Placed). meets_sieve s g placed.sieve) (local_of schema)
        (λ x c. filter_agrees schema s f g x.sieve same (local_filter schema x c))

-- ---- an assignment that meets all edges gives each class an object of the task

class_within : (task : Task) (schema : Schema) (s : State) (f : Assignment) (c : ℕ)
    → is_local_answer task schema s f ≡ true → Contains (classes_in_order schema) c
    → f c < length task.objects
unfolding is_local_answer
class_within task schema s f c h among =
    let first = and_parts (list_all (meets_edge task schema s f) (edges_of schema)
    && list_all (meets_guard s) (guards_of task schema))
    (list_all (λ (placed : Placed). meets_sieve s f placed.sieve) (local_of schema)) h in
    let edges = and_parts (list_all (meets_edge task schema s f) (edges_of schema))
    (list_all (meets_guard s) (guards_of task schema)) first.0 in
    let own = unfixed_itself schema c (in_order_unfixed schema c among) in
    typed_within task (types_at schema.parameters c) (f c)
    (passes_all (meets_edge task schema s f) (edges_of schema) the_edge edges.0
    (type_edge_among schema c the_edge own.0
    (subst (λ slot. Contains (type_edge c slot) the_edge) (sym own.1) (Contains-cons_first the_edge []))))
  where
    the_edge : Edge
    the_edge = record { source = source.Kind c; slots = Class c ∷ []; classes = class_set (Class c ∷ []) }

-- ---- the rows

-- whether a tuple is the row of a local answer
abbrev is_row : Task → State → Schema → List ℕ → Bool
is_row task s schema row = is_local_answer task schema s (assigned (classes_in_order schema) row)

-- all tuples of objects for the unfixed classes
abbrev rows_tried : Task → Schema → List (List ℕ)
rows_tried task schema = tuples (length task.objects) (length (classes_in_order schema))

row_within : (task : Task) (schema : Schema) (s : State) (f : Assignment)
    → is_local_answer task schema s f ≡ true → IsTuple (length task.objects)
    (length (classes_in_order schema)) (map f (classes_in_order schema))
row_within task schema s f h =
    record {
      many = length-map (classes_in_order schema) f;
      below = λ x c.
          of_one x (Contains-from_map f (classes_in_order schema) x c);
    }
  where
    of_one : (x : ℕ) → (c : ℕ) × Contains (classes_in_order schema) c × (f c ≡ x) → x < length task.objects
    of_one x (c, among, is) = subst (λ y. y < length task.objects) is (class_within task schema s f c h among)

pub rows_same : (task : Task) (number : ℕ) (schema : Schema) (s : State) (rows : List (List ℕ))
    → slice_get task.schemas number ≡ Some schema → AreRowsOf schema (is_local_answer task schema s) rows
    → rows ≡ filter (is_row task s schema) (rows_tried task schema)
rows_same task number schema s rows found are =
    same_rows rows (filter (is_row task s schema) (rows_tried task schema)) are.ascending
    (sorted_filter row_cmp (is_row task s schema) (rows_tried task schema)
    (tuples_ascend (length task.objects) (length (classes_in_order schema)))) (λ row. (down row, up row))
  where
    of_row : (row : List ℕ) → (f : Assignment) × IsTrue (is_local_answer task schema s f)
        × (row ≡ map f (classes_in_order schema))
        → Contains (filter (is_row task s schema) (rows_tried task schema)) row
    of_row row (f, passes, is) = subst (Contains (filter (is_row task s schema) (rows_tried task schema)))
        (sym is)
        (Contains-filter (is_row task s schema) (rows_tried task schema) (map f (classes_in_order schema))
        (is_tuple (length task.objects) (length (classes_in_order schema))
        (map f (classes_in_order schema)) (row_within task schema s f passes))
        (local_agrees task schema s (assigned (classes_in_order schema) (map f (classes_in_order schema))) f
        (ap (λ (step : Instance). step.args)
        ((steps_are_assignments task number schema
        (assigned (classes_in_order schema) (map f (classes_in_order schema))) f found).1
        (assigned_agrees (classes_in_order schema) f (classes_once schema)))) ∙ passes))

    down : (row : List ℕ) → Contains rows row
        → Contains (filter (is_row task s schema) (rows_tried task schema)) row
    down row h = of_row row ((are.members row).0 h)

    up : (row : List ℕ) → Contains (filter (is_row task s schema) (rows_tried task schema)) row
        → Contains rows row
    up row h =
        let both = Contains-from_filter (is_row task s schema) (rows_tried task schema) row h in
        let tuple = tuple_is (length task.objects) (length (classes_in_order schema)) row both.0 in
        (are.members row).1 (
          assigned (classes_in_order schema) row,
          both.1,
          sym (assigned_row (classes_in_order schema) row (classes_once schema) tuple.many),
        )

-- the rows are as many as the local answers
pub rows_counted : (task : Task) (number : ℕ) (schema : Schema) (s : State) (rows : List (List ℕ))
    → slice_get task.schemas number ≡ Some schema → AreRowsOf schema (is_local_answer task schema s) rows
    → length rows ≡ local_answers task s schema
unfolding local_answers
rows_counted task number schema s rows found are =
    ap length (rows_same task number schema s rows found are)
    ∙ length-filter (is_row task s schema) (rows_tried task schema)
