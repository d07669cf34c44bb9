-- The parts of a normal form as they are made.
use Rattle.std.proofs.Common.{◌≡◌, ℕ, ◌+◌, ◌<◌, ◌≤◌, ◌^◌, zero, suc, ◌↔◌, inl, inr, Bool, true, false, not}
use Rattle.std.proofs.Common.{◌||◌, cond, if◌then◌else◌, List, [], ◌∷◌, ◌++◌, length, map, filter, take, drop}
use Rattle.std.proofs.Common.{get_or, Option, Some, None, slice_get, refl, sym, ◌∙◌, ap, subst, arith, All}
use Rattle.std.proofs.Common.{Contains, IsTrue, append_assoc, length-append}
use Rattle.std.specs.List.{flat_map, range_with_len}
use Rattle.std.specs.declared.cmp.Ordering.{Ordering}
use Rattle.std.specs.declared.cmp.Ordering.TheVariants.{Less, Greater}
use Rattle.std.specs.Ordering.{nat_cmp, ordering_then}
use Rattle.std.proofs.Math.Seq.{drop-cons}
use Rattle.std.proofs.lemmas.Bool.{false≢true}
use Rattle.std.proofs.lemmas.List.{get_or_default, take_all, get_or-map as list_map}
use Rattle.std.proofs.lemmas.List.Elements.{All-contains, All-weaker, All-get_or, All-same, Contains-get_or}
use Rattle.std.proofs.lemmas.List.FromFn.{length-range_with_len}
use Rattle.pl_rows.specs.Rows.{Rows, row_cmp}
use Rattle.pl_rows.proofs.Canonical.{Contains-cons_cases, Contains-nil}
use Rattle.pl_hyper.specs.ClassOrder.{class_order}
use Rattle.pl_task.specs.declared.data.Literal.{Literal}
use Rattle.pl_task.specs.declared.data.Literal.TheVariants as literal
use Rattle.pl_task.specs.declared.data.Parameter.{Parameter}
use Rattle.pl_task.specs.declared.data.PredicateDef.{PredicateDef}
use Rattle.pl_task.specs.declared.data.Schema.{Schema}
use Rattle.pl_task.specs.declared.data.Term.{Term}
use Rattle.pl_task.specs.declared.data.Term.TheVariants as term
use Rattle.pl_task.specs.declared.task.Task.{Task}
use Rattle.pl_task.specs.Instance.{Instance}
use Rattle.pl_task.specs.States.{initial}
use Rattle.pl_task.specs.Types.{HasType, is_of_type}
use Rattle.pl_task.specs.WellFormed.{IsTermOf, IsLiteralOf, is_fluent}
use Rattle.pl_task.proofs.StateLemmas.{state_of-members}
use Rattle.pl_task.proofs.TypeLemmas.{is_of_type-decides}
use Rattle.pl_join.specs.declared.slot.Slot.{Slot}
use Rattle.pl_join.specs.declared.slot.Slot.TheVariants.{Fixed, Class}
use Rattle.pl_join.specs.Relation.{IsSlotBelow}
use Rattle.pl_join.proofs.Members.{Contains-from_flat_map}
use Rattle.pl_normal.specs.declared.form.Edge.{Edge}
use Rattle.pl_normal.specs.declared.form.Guard.{Guard}
use Rattle.pl_normal.specs.declared.form.NormalSchema.{NormalSchema}
use Rattle.pl_normal.specs.Classes.{Fixing, equalities, fixings, literal_fixing, class_of, parameter_classes}
use Rattle.pl_normal.specs.Classes.{object_of}
use Rattle.pl_normal.specs.Slots.{class_slot, slot_object, fixed_objects, parameter_slots, slot_at, are_fixed}
use Rattle.pl_normal.specs.Slots.{slots_of}
use Rattle.pl_normal.specs.Edges.{type_edge, type_edges, literal_edge, atom_edges, edges_of, sets_of}
use Rattle.pl_normal.specs.Guards.{known, has_some_type, types_at, type_guard, type_guards, is_as_wanted}
use Rattle.pl_normal.specs.Guards.{wanted_guard, atom_guard, literal_guard, literal_guards, guards_of}
use Rattle.pl_normal.specs.Filters.{sieves_of, local_among, late_among, local_of, late_of}
use Rattle.pl_normal.specs.EarRemoval.{ear_removal}
use Rattle.pl_normal.specs.ParameterOrder.{is_among, then_others, classes_in_order, parameter_order, order_of}
use Rattle.pl_normal.specs.NormalForm.{IsNormalForm}
use Rattle.pl_normal.specs.StepOrder.{read_in, step_key, step_cmp}
use Rattle.pl_normal.specs.Scope.{IsTermBelow, IsLiteralBelow, IsSlotOf, other_of}
use Rattle.pl_normal.specs.Tables.{row_atom, IsAtomTable, IsStatic, AreStatics}
use Rattle.pl_normal.proofs.Joined.{class_of-within}
use Rattle.pl_normal.proofs.Loops.{range_more}
use Rattle.pl_normal.proofs.SlotLemmas.{slot_of_class, slot_is, parameter_slots-length}
use Rattle.pl_normal.proofs.SlotLemmas.{parameter_classes-length}
use Rattle.pl_normal.proofs.Answering.{object_from}
use Rattle.pl_normal.proofs.Ordered.{parameter_order-is, same_class}
use Rattle.pl_normal.proofs.Listing.{row_less, row_rest, order_at}

-- ---- literals of a schema

terms_below : (objects n : ℕ) (terms : List Term) → All (IsTermOf objects n) terms → All (IsTermBelow n) terms
terms_below objects n terms all = All-weaker (IsTermOf objects n) (IsTermBelow n)
    (λ t is. is.parameter) terms all

pub literal_below : (predicates : List PredicateDef) (objects n : ℕ) (l : Literal)
    → IsLiteralOf predicates objects n l → IsLiteralBelow n l
literal_below predicates objects n l is = record {
  atom = λ a e. terms_below objects n a.terms (is.atom a e).terms;
  not_atom = λ a e. terms_below objects n a.terms (is.not_atom a e).terms;
  equal_left = λ a b e. (is.equal_left a b e).parameter;
  equal_right = λ a b e. (is.equal_right a b e).parameter;
  not_equal_left = λ a b e. (is.not_equal_left a b e).parameter;
  not_equal_right = λ a b e. (is.not_equal_right a b e).parameter;
}

pub literals_below : (predicates : List PredicateDef) (objects n : ℕ) (ls : List Literal)
    → All (IsLiteralOf predicates objects n) ls → All (IsLiteralBelow n) ls
literals_below predicates objects n ls all = All-weaker (IsLiteralOf predicates objects n) (IsLiteralBelow n)
    (literal_below predicates objects n) ls all

pub item_below : (predicates : List PredicateDef) (objects n : ℕ) (ls : List Literal) (i : ℕ) (l : Literal)
    → i < length ls → l ≡ get_or ls i l → All (IsLiteralOf predicates objects n) ls → IsLiteralBelow n l
item_below predicates objects n ls i l h at all =
    subst (IsLiteralBelow n) (sym at)
    (literal_below predicates objects n (get_or ls i l)
    (All-get_or (IsLiteralOf predicates objects n) ls i l h all))

-- ---- slots

fixing_within : (predicates : List PredicateDef) (objects n : ℕ) (l : Literal) (g : Fixing)
    → IsLiteralOf predicates objects n l → Contains (literal_fixing l) g → (g.object < objects)
    × (g.parameter < n)
fixing_within predicates objects n (literal.Atom a) g is c = absurd (Contains-nil g c)
fixing_within predicates objects n (literal.NotAtom a) g is c = absurd (Contains-nil g c)
fixing_within predicates objects n (literal.NotEqual a b) g is c = absurd (Contains-nil g c)
fixing_within predicates objects n (literal.Equal (term.Object a) (term.Object b)) g is c =
    absurd (Contains-nil g c)
fixing_within predicates objects n (literal.Equal (term.Parameter a) (term.Parameter b)) g is c =
    absurd (Contains-nil g c)
fixing_within predicates objects n (literal.Equal (term.Parameter a) (term.Object b)) g is c =
    elim (Contains-cons_cases (record { parameter = a; object = b }) [] g c) [
      | inl e ↦ subst (λ (x : Fixing). (x.object < objects) × (x.parameter < n)) e (
        (is.equal_right (term.Parameter a) (term.Object b) refl).object b refl,
        (is.equal_left (term.Parameter a) (term.Object b) refl).parameter a refl,
      )
      | inr r ↦ absurd (Contains-nil g r)
    ]
fixing_within predicates objects n (literal.Equal (term.Object a) (term.Parameter b)) g is c =
    elim (Contains-cons_cases (record { parameter = b; object = a }) [] g c) [
      | inl e ↦ subst (λ (x : Fixing). (x.object < objects) × (x.parameter < n)) e (
        (is.equal_left (term.Object a) (term.Parameter b) refl).object a refl,
        (is.equal_right (term.Object a) (term.Parameter b) refl).parameter b refl,
      )
      | inr r ↦ absurd (Contains-nil g r)
    ]

fixings_within : (predicates : List PredicateDef) (objects n : ℕ) (ls : List Literal) (g : Fixing)
    → All (IsLiteralOf predicates objects n) ls → Contains (fixings ls) g → (g.object < objects)
    × (g.parameter < n)
fixings_within predicates objects n ls g all c = of_one (Contains-from_flat_map literal_fixing ls g c)
  where
    of_one : (l : Literal) × Contains ls l × Contains (literal_fixing l) g → (g.object < objects)
        × (g.parameter < n)
    of_one (l, among, is) = fixing_within predicates objects n l g
        (All-contains (IsLiteralOf predicates objects n) ls l all among) is

-- what a schema keeps of its literals
abbrev AreOf : List PredicateDef → ℕ → Schema → Type 0
AreOf predicates objects schema = All (IsLiteralOf predicates objects (length schema.parameters))
    schema.condition

pub fixings_fit : (predicates : List PredicateDef) (objects : ℕ) (schema : Schema) (names : List ℕ)
    (given : List Fixing) → AreOf predicates objects schema → names ≡ parameter_classes schema
    → given ≡ fixings schema.condition → All (λ (f : Fixing). f.parameter < length names) given
fixings_fit predicates objects schema names given all e k i d h =
    let long : length names ≡ length schema.parameters = ap length e ∙ parameter_classes-length schema in
    let low = (fixings_within predicates objects (length schema.parameters) schema.condition
    (get_or given i d) all
    (subst (λ xs. Contains xs (get_or given i d)) k (Contains-get_or given i d h))).1 in
    omega arith

pub made_slots : (schema : Schema) (names : List ℕ) (given : List Fixing) → names ≡ parameter_classes schema
    → given ≡ fixings schema.condition → map (λ class. class_slot (object_of names given class) class)
    names ≡ parameter_slots schema
unfolding parameter_slots
made_slots schema names given e k = λ i. map (λ class. class_slot (object_of (e i) (k i) class) class) (e i)

pub slots_many : (schema : Schema) (slots : List Slot) → slots ≡ parameter_slots schema
    → length slots ≡ length schema.parameters
slots_many schema slots e = ap length e ∙ parameter_slots-length schema

pub slots_few : (schema : Schema) (slots : List Slot) → length schema.parameters ≤ 64
    → slots ≡ parameter_slots schema → length slots ≤ 64
slots_few schema slots few e = let long = slots_many schema slots e in omega arith

same_fixed : (c d : ℕ) → Fixed c ≡ Fixed d → c ≡ d
same_fixed c d h = cc

class_small : (found : Option ℕ) (c d : ℕ) → c < 64 → class_slot found c ≡ Class d → d < 64
class_small None c d h e = let same = same_class c d e in omega arith
class_small (Some o) c d h e = absurd (cc)

pub slots_below : (schema : Schema) (slots : List Slot) → length schema.parameters ≤ 64
    → slots ≡ parameter_slots schema → All (IsSlotBelow 64) slots
slots_below schema slots few e k d h c is =
    let long = slots_many schema slots e in
    let low : k < length schema.parameters = omega arith in
    let small = class_of-within (equalities schema.condition) k in
    let at : slot_of_class schema (class_of (equalities schema.condition) k) ≡ Class c =
    sym (slot_is schema k low)
    ∙ (ap (λ xs. get_or xs k (Fixed 0)) (sym e) ∙ (get_or_default slots k (Fixed 0) d h ∙ is)) in
    class_small (object_of (parameter_classes schema) (fixings schema.condition)
    (class_of (equalities schema.condition) k)) (class_of (equalities schema.condition) k) c
    (omega arith) at

object_small : (predicates : List PredicateDef) (objects : ℕ) (schema : Schema) (c o : ℕ) (found : Option ℕ)
    → AreOf predicates objects schema → object_of (parameter_classes schema)
    (fixings schema.condition) c ≡ found → class_slot found c ≡ Fixed o → o < objects
object_small predicates objects schema c o None all at e = absurd (cc)
object_small predicates objects schema c o (Some x) all at e =
    let (g, held, class, object) = object_from (parameter_classes schema) (fixings schema.condition) c x at in
    let low = (fixings_within predicates objects (length schema.parameters) schema.condition g all held).0 in
    let same = same_fixed x o e in omega arith

pub slots_within : (predicates : List PredicateDef) (objects : ℕ) (schema : Schema) (slots : List Slot)
    → AreOf predicates objects schema → slots ≡ parameter_slots schema → All (IsSlotOf objects) slots
slots_within predicates objects schema slots all e k d h o is =
    let long = slots_many schema slots e in
    let low : k < length schema.parameters = omega arith in
    object_small predicates objects schema (class_of (equalities schema.condition) k) o _ all refl
    (sym (slot_is schema k low)
    ∙ (ap (λ xs. get_or xs k (Fixed 0)) (sym e) ∙ (get_or_default slots k (Fixed 0) d h ∙ is)))

-- the literals, by the number of slots
pub literals_at : (predicates : List PredicateDef) (objects n m : ℕ) (ls own : List Literal) → m ≡ n
    → ls ≡ own → All (IsLiteralOf predicates objects n) own → All (IsLiteralOf predicates objects m) ls
literals_at predicates objects n m ls own e k all = subst (λ x. All (IsLiteralOf predicates objects x) ls)
    (sym e) (All-same (IsLiteralOf predicates objects n) ls own k all)

pub literals_below_at : (predicates : List PredicateDef) (objects n m : ℕ) (ls own : List Literal) → m ≡ n
    → ls ≡ own → All (IsLiteralOf predicates objects n) own → All (IsLiteralBelow m) ls
literals_below_at predicates objects n m ls own e k all = literals_below predicates objects m ls
    (literals_at predicates objects n m ls own e k all)

-- ---- few edges

pub flat_short : {X Y : Type 0} (f : X → List Y) (xs : List X) → ((x : X) → length (f x) ≤ 1)
    → length (flat_map f xs) ≤ length xs
flat_short f [] h = omega arith
flat_short f (x ∷ xs) h =
    let first = h x in
    let rest = flat_short f xs h in
    let long = length-append (f x) (flat_map f xs) in omega arith

pub if_short : {Y : Type 0} (b : Bool) (y : Y) → length (if b then [] else y ∷ []) ≤ 1
if_short true y = omega arith
if_short false y = omega arith

literal_short : (slots : List Slot) (l : Literal) → length (literal_edge slots l) ≤ 1
literal_short slots (literal.Atom a) = if_short (are_fixed (slots_of slots a.terms)) _
literal_short slots (literal.NotAtom a) = omega arith
literal_short slots (literal.Equal a b) = omega arith
literal_short slots (literal.NotEqual a b) = omega arith

pub type_short : (p : ℕ) (slot : Slot) → length (type_edge p slot) ≤ 1
type_short p (Fixed o) = omega arith
type_short p (Class c) = omega arith

pub edges_few : (slots : List Slot) (condition : List Literal) (edges : List Edge) → length slots ≤ 64
    → length condition ≤ 1024 → edges ≡ type_edges slots ++ atom_edges slots condition → length edges < 2 ^ 32
unfolding type_edges atom_edges
edges_few slots condition edges few short e =
    let first = flat_short (λ p. type_edge p (slot_at slots p)) (range_with_len 0 (length slots))
    (λ p. type_short p (slot_at slots p)) in
    let second = flat_short (literal_edge slots) condition (literal_short slots) in
    let range = length-range_with_len 0 (length slots) in
    let long = ap length e
    ∙ length-append (flat_map (λ p. type_edge p (slot_at slots p)) (range_with_len 0 (length slots)))
    (flat_map (literal_edge slots) condition) in
    omega arith

-- ---- the normal form

map_objects : (schema : Schema) (cs : List ℕ) → map slot_object (map (slot_of_class schema) cs) ≡ map
    (object_of (parameter_classes schema) (fixings schema.condition)) cs
map_objects schema [] = refl
map_objects schema (c ∷ cs) =
    let first = one (object_of (parameter_classes schema) (fixings schema.condition) c) c in
    let rest = map_objects schema cs in cc
  where
    one : (found : Option ℕ) (x : ℕ) → slot_object (class_slot found x) ≡ found
    one None x = refl
    one (Some o) x = refl

fixed_are : (schema : Schema) (slots : List Slot) → slots ≡ parameter_slots schema
    → map slot_object slots ≡ fixed_objects schema
unfolding parameter_slots fixed_objects
fixed_are schema slots e = ap (map slot_object) e ∙ map_objects schema (parameter_classes schema)

pub form_is : (task : Task) (schema : Schema) (form : NormalSchema) (slots : List Slot) (edges : List Edge)
    → slots ≡ parameter_slots schema → form.class_of ≡ parameter_classes schema
    → form.fixed ≡ map slot_object slots →
    form.edges ≡ edges → edges ≡ type_edges slots ++ atom_edges slots schema.condition
    → form.guards ≡ type_guards task schema.parameters slots
    ++ literal_guards task slots schema.condition →
    form.local ≡ local_among edges (sieves_of slots schema.condition)
    → form.late ≡ late_among edges (sieves_of slots schema.condition)
    → form.plan ≡ ear_removal (sets_of edges) →
    form.order ≡ then_others (length schema.parameters) (class_order form.plan)
    → IsNormalForm task schema form
unfolding edges_of guards_of local_of late_of parameter_order classes_in_order
form_is task schema form slots edges s class fixed e made guards local late plan order =
    let own : edges ≡ type_edges (parameter_slots schema)
    ++ atom_edges (parameter_slots schema) schema.condition =
    made ∙ ap (λ xs. type_edges xs ++ atom_edges xs schema.condition) s in record {
      class_of = class;
      fixed = fixed ∙ fixed_are schema slots s;
      edges = e ∙ own;
      guards = guards
          ∙ ap (λ xs. type_guards task schema.parameters xs ++ literal_guards task xs schema.condition) s;
      local = local ∙ (λ i. local_among (own i) (sieves_of (s i) schema.condition));
      late = late ∙ (λ i. late_among (own i) (sieves_of (s i) schema.condition));
      plan = plan ∙ ap (λ xs. ear_removal (sets_of xs)) own;
      order = order ∙ ap (λ p. then_others (length schema.parameters) (class_order p))
          (plan ∙ ap (λ xs. ear_removal (sets_of xs)) own);
    }

-- ---- types

pub some_type_here : (task : Task) (types : List ℕ) (object i : ℕ) (b : Bool) → i < length types
    → has_some_type task types object ≡ has_some_type task (drop i types) object → IsTrue b
    ↔ HasType task object (get_or types i 0) → b ≡ true → true ≡ has_some_type task types object
some_type_here task types object i b h rest says is =
    sym (rest ∙ (ap (λ xs. has_some_type task xs object) (drop-cons types i 0 h)
    ∙ ap (λ t. t || has_some_type task (drop (suc i) types) object)
    ((is_of_type-decides task object (get_or types i 0)).1 (says.0 is))))

not_true : (b : Bool) → (b ≡ true → ⊥) → b ≡ false
not_true true h = absurd (h refl)
not_true false h = refl

pub some_type_later : (task : Task) (types : List ℕ) (object i : ℕ) (b : Bool) → i < length types
    → has_some_type task types object ≡ has_some_type task (drop i types) object → IsTrue b
    ↔ HasType task object (get_or types i 0) → b ≡ false
    → has_some_type task types object ≡ has_some_type task (drop (i + 1) types) object
some_type_later task types object i b h rest says is =
    rest ∙ (ap (λ xs. has_some_type task xs object) (drop-cons types i 0 h)
    ∙ (ap (λ t. t || has_some_type task (drop (suc i) types) object)
    (not_true (is_of_type task object (get_or types i 0))
    (λ t. false≢true (sym is ∙ says.1 ((is_of_type-decides task object (get_or types i 0)).0 t))))
    ∙ ap (λ k. has_some_type task (drop k types) object) (one_more i)))
  where
    one_more : (k : ℕ) → suc k ≡ k + 1
    one_more k = omega arith

pub types_read : (ps : List Parameter) (p : ℕ) (d : Parameter) (types : List ℕ) → p < length ps
    → types ≡ (get_or ps p d).types → types ≡ types_at ps p
types_read ps p d types h e = e ∙ sym (list_map (λ (x : Parameter). x.types) ps p d [] h)

pub type_guards_end : (task : Task) (ps : List Parameter) (slots : List Slot) (p : ℕ) (made : List Guard)
    → p ≡ length slots → made ≡ flat_map (λ q. type_guard task (types_at ps q) (slot_at slots q))
    (range_with_len 0 p) → made ≡ type_guards task ps slots
unfolding type_guards
type_guards_end task ps slots p made e h = h
    ∙ ap (λ n. flat_map (λ q. type_guard task (types_at ps q) (slot_at slots q)) (range_with_len 0 n)) e

pub guards_end : (task : Task) (ps : List Parameter) (slots : List Slot) (condition : List Literal) (i : ℕ)
    (made : List Guard) → length condition ≤ i → made ≡ type_guards task ps slots
    ++ flat_map (literal_guard task slots) (take i condition) → made ≡ type_guards task ps slots
    ++ literal_guards task slots condition
unfolding literal_guards
guards_end task ps slots condition i made h b = b
    ∙ ap (λ xs. type_guards task ps slots ++ flat_map (literal_guard task slots) xs) (take_all i condition h)

-- ---- ground atoms over static predicates

pub static_is : (task : Task) (statics : List (Option Rows)) (p : ℕ) (found : Option Rows) (table : Rows)
    → AreStatics task statics → p < length task.predicates → found ≡ get_or statics p found
    → found ≡ Some table → (is_fluent task.schemas p ≡ false) × IsAtomTable task p table
static_is task statics p found table are h at is =
    let many = are.many in subst (IsStatic task p) (sym at ∙ is) (are.each p found (omega arith))

predicate_at : (ds : List PredicateDef) (p : ℕ) (found : Option PredicateDef) → slice_get ds p ≡ found
    → p < length ds → (d : PredicateDef) × (slice_get ds p ≡ Some d)
predicate_at ds p (Some d) at h = (d, at)
predicate_at ds p None at h = absurd (none_within ds p at h)
  where
    none_within : (xs : List PredicateDef) (k : ℕ) → slice_get xs k ≡ None → k < length xs → ⊥
    none_within [] k e l = omega arith
    none_within (x ∷ xs) zero e l = cc
    none_within (x ∷ xs) (suc k) e l = none_within xs k e (omega arith)

pub row_fits : (task : Task) (p : ℕ) (table : Rows) (row : List ℕ) → IsAtomTable task p table
    → p < length task.predicates
    → ((d : PredicateDef) → slice_get task.predicates p ≡ Some d → length row ≡ d.arity)
    → length row ≡ table.arity
row_fits task p table row is h wide = let (d, at) = predicate_at task.predicates p
    (slice_get task.predicates p) refl h in wide d at ∙ sym (is.arity d at)

same_tests : (a b : Bool) → (a ≡ true → b ≡ true) → (b ≡ true → a ≡ true) → a ≡ b
same_tests true b f g = sym (f refl)
same_tests false true f g = g refl
same_tests false false f g = refl

pub known_is : (task : Task) (wanted there : Bool) (p : ℕ) (row : List ℕ) (table : Rows)
    → is_fluent task.schemas p ≡ false → IsAtomTable task p table → IsTrue there ↔ Contains table.rows row
    → known (is_as_wanted wanted there) ≡ atom_guard task wanted (row_atom p row)
known_is task wanted there p row table fluent is says =
    let same : there ≡ initial task (row_atom p row) = same_tests there (initial task (row_atom p row))
    (λ h. (state_of-members task.init (row_atom p row)).1 ((is.atoms row).0 (says.0 h)))
    (λ h. says.1 ((is.atoms row).1 ((state_of-members task.init (row_atom p row)).0 h))) in
    ap (λ b. known (is_as_wanted wanted b)) same
    ∙ sym (ap (λ b. if b then wanted_guard wanted (row_atom p row) ∷ [] else known
    (is_as_wanted wanted (initial task (row_atom p row)))) fluent)

-- ---- the order

pub prefix_more : {Y : Type 0} (pre : List Y) (f : ℕ → List Y) (i j : ℕ) (before after : List Y) → j ≡ i + 1
    → before ≡ pre ++ flat_map f (range_with_len 0 i) → after ≡ before ++ f i → after ≡ pre
    ++ flat_map f (range_with_len 0 j)
prefix_more pre f i j before after e b a =
    a ∙ (ap (λ ys. ys ++ f i) b
    ∙ (append_assoc pre (flat_map f (range_with_len 0 i)) (f i)
    ∙ ap (λ ys. pre ++ ys) (range_more f i j (flat_map f (range_with_len 0 i)) _ e refl refl)))

others_flat : (classes ps : List ℕ) → flat_map (other_of classes) ps ≡ filter
    (λ p. not (is_among classes p)) ps
others_flat classes [] = refl
others_flat classes (p ∷ ps) = one (is_among classes p) (others_flat classes ps)
  where
    one : (b : Bool) → flat_map (other_of classes) ps ≡ filter (λ q. not (is_among classes q)) ps
        → (cond b [] (p ∷ []) ++ flat_map (other_of classes) ps) ≡ cond (not b)
        (p ∷ filter (λ q. not (is_among classes q)) ps) (filter (λ q. not (is_among classes q)) ps)
    one true h = h
    one false h = ap (λ xs. p ∷ xs) h

pub others_end : (classes : List ℕ) (count p : ℕ) (made : List ℕ) → p ≡ count → made ≡ classes
    ++ flat_map (other_of classes) (range_with_len 0 p) → made ≡ then_others count classes
others_end classes count p made e h = h
    ∙ (ap (λ xs. classes ++ xs) (others_flat classes (range_with_len 0 p))
    ∙ ap (λ n. then_others n classes) e)

-- ---- steps

nat_greater : (a b : ℕ) → b < a → nat_cmp a b ≡ Greater
nat_greater a b h = grind arith

pub cmp_less : (task : Task) (a b : Instance) → a.schema < b.schema → Less ≡ step_cmp task a b
unfolding step_key
cmp_less task a b h =
    sym (row_less a.schema b.schema (read_in (order_of task a.schema) a.args)
    (read_in (order_of task b.schema) b.args) h)

pub cmp_greater : (task : Task) (a b : Instance) → b.schema < a.schema → Greater ≡ step_cmp task a b
unfolding step_key
cmp_greater task a b h =
    sym (ap (λ o. ordering_then o
    (row_cmp (read_in (order_of task a.schema) a.args) (read_in (order_of task b.schema) b.args)))
    (nat_greater a.schema b.schema h))

pub cmp_same : (task : Task) (a b : Instance) (schema : Schema) (order : List ℕ) (result : Ordering)
    → a.schema ≡ b.schema → slice_get task.schemas a.schema ≡ Some schema → order ≡ parameter_order schema
    → result ≡ row_cmp (read_in order a.args) (read_in order b.args) → result ≡ step_cmp task a b
unfolding step_key
cmp_same task a b schema order result same at is h =
    h ∙ (ap (λ o. row_cmp (read_in o a.args) (read_in o b.args)) (is ∙ sym (order_at task a.schema schema at))
    ∙ (sym (row_rest a.schema (read_in (order_of task a.schema) a.args)
    (read_in (order_of task a.schema) b.args))
    ∙ ap (λ j. row_cmp (a.schema ∷ read_in (order_of task a.schema) a.args)
    (j ∷ read_in (order_of task j) b.args)) same))

pub order_within : (schema : Schema) (order args : List ℕ) → order ≡ parameter_order schema
    → length args ≡ length schema.parameters → All (λ p. p < length args) order
order_within schema order args e many k d h =
    let low = ((parameter_order-is schema).all (get_or order k d)).0
    (subst (λ xs. Contains xs (get_or order k d)) e (Contains-get_or order k d h)) in omega arith

pub order_within_other : (task : Task) (i j : ℕ) (schema other : Schema) (order args : List ℕ) → i ≡ j
    → slice_get task.schemas i ≡ Some schema → slice_get task.schemas j ≡ Some other
    → order ≡ parameter_order schema → length args ≡ length other.parameters
    → All (λ p. p < length args) order
order_within_other task i j schema other order args same a b e many =
    order_within schema order args e
    (many ∙ ap (λ (s : Schema). length s.parameters)
    (some_same other schema (sym b ∙ (ap (slice_get task.schemas) (sym same) ∙ a))))
  where
    some_same : (x y : Schema) → Some x ≡ Some y → x ≡ y
    some_same x y q = cc
