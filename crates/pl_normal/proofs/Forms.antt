-- The parts of a normal form are of the task: edges, guards and filters.
use Rattle.std.proofs.Common.{◌≡◌, ℕ, zero, suc, ◌+◌, ◌<◌, ◌==◌, ◌↔◌, ◌⊎◌, inl, inr, Bool, true, false}
use Rattle.std.proofs.Common.{◌&&◌, cond, if◌then◌else◌, List, [], ◌∷◌, length, map, get_or, Option, Some}
use Rattle.std.proofs.Common.{None, slice_get, refl, sym, ◌∙◌, ap, subst, arith, All, Contains, eqb-true}
use Rattle.std.proofs.Common.{bit_and}
use Rattle.std.specs.List.{position_from}
use Rattle.std.specs.Int.{bit_at}
use Rattle.std.proofs.lemmas.Bool.{false≢true, and_parts}
use Rattle.std.proofs.lemmas.Option.{slice_get_within, get_or_from_slice_get}
use Rattle.std.proofs.lemmas.List.{length-map}
use Rattle.std.proofs.lemmas.List.Elements.{All-contains, Contains-get_or}
use Rattle.pl_rows.proofs.Canonical.{Contains-cons_cases, Contains-cons_first, Contains-cons_rest}
use Rattle.pl_rows.proofs.Canonical.{Contains-nil}
use Rattle.pl_task.specs.declared.data.Atom.{Atom}
use Rattle.pl_task.specs.declared.data.Literal.{Literal}
use Rattle.pl_task.specs.declared.data.Literal.TheVariants as literal
use Rattle.pl_task.specs.declared.data.Lifted.{Lifted}
use Rattle.pl_task.specs.declared.data.PredicateDef.{PredicateDef}
use Rattle.pl_task.specs.declared.data.Schema.{Schema}
use Rattle.pl_task.specs.declared.data.Term.{Term}
use Rattle.pl_task.specs.declared.data.Term.TheVariants as term
use Rattle.pl_task.specs.declared.task.Task.{Task}
use Rattle.pl_task.specs.WellFormed.{IsTermOf, IsLiftedOf, IsLiteralOf, IsSchemaOf, IsAtomOf, is_fluent}
use Rattle.pl_join.specs.declared.slot.Slot.{Slot}
use Rattle.pl_join.specs.declared.slot.Slot.TheVariants.{Fixed, Class}
use Rattle.pl_task.specs.States.{initial}
use Rattle.pl_join.specs.Relation.{IsSlotBelow, IsSlotOver}
use Rattle.pl_join.proofs.Members.{Contains-from_flat_map}
use Rattle.pl_normal.specs.declared.form.Edge.{Edge}
use Rattle.pl_normal.specs.declared.form.Guard.{Guard}
use Rattle.pl_normal.specs.declared.form.Guard.TheVariants as guard
use Rattle.pl_normal.specs.declared.form.Placed.{Placed}
use Rattle.pl_normal.specs.declared.form.Sieve.{Sieve}
use Rattle.pl_normal.specs.declared.form.Sieve.TheVariants as sieve
use Rattle.pl_normal.specs.declared.form.Source.TheVariants as source
use Rattle.pl_normal.specs.Slots.{parameter_slots, slot_at, slot_of, slots_of, is_fixed, are_fixed}
use Rattle.pl_normal.specs.Slots.{fixed_value, class_set}
use Rattle.pl_normal.specs.Edges.{type_edge, literal_edge, edges_of}
use Rattle.pl_normal.specs.Filters.{literal_sieve, sieves_of, local_among, late_among, local_at, late_at}
use Rattle.pl_normal.specs.Filters.{home, local_of, late_of, has_all, sieve_classes}
use Rattle.pl_normal.specs.Guards.{known, type_guard, types_at, atom_guard, wanted_guard}
use Rattle.pl_normal.specs.Guards.{equality_guard, literal_guard, guards_of, is_as_wanted}
use Rattle.pl_normal.specs.Guards.{has_some_type}
use Rattle.pl_normal.specs.Scope.{IsSlotOf}
use Rattle.pl_normal.proofs.SlotLemmas.{parameter_slots-length}
use Rattle.pl_normal.proofs.Forming.{slots_below, slots_within}
use Rattle.pl_normal.proofs.Ordered.{set_bits}
use Rattle.pl_normal.proofs.Answering.{with_edge, with_guard}
use Rattle.pl_hyper.proofs.Bits.{and_within}
use Rattle.pl_normal.specs.Queries.{IsEdgeOf, IsSieveOf, IsSieveOver, IsGuardOf}
use Rattle.std.proofs.lemmas.Option.{same_Some}

abbrev pub SchemaOf : Task → Schema → Type 0
SchemaOf task schema = IsSchemaOf task.types task.objects task.predicates schema

-- ---- slots

fixed_below : (o : ℕ) → IsSlotBelow 64 (Fixed o)
fixed_below o c e = absurd (cc)

-- a parameter's slot, and the default of those that are read past the end
slot_cases : (slots : List Slot) (p : ℕ) → (p < length slots) ⊎ (slot_at slots p ≡ Fixed 0)
slot_cases [] p = inr refl
slot_cases (x ∷ slots) zero = inl (omega arith)
slot_cases (x ∷ slots) (suc p) = elim (slot_cases slots p) [
  | inl low ↦ inl (omega (arith, low))
  | inr past ↦ inr past
]

param_below : (task : Task) (schema : Schema) (p : ℕ) → SchemaOf task schema →
    IsSlotBelow 64 (slot_at (parameter_slots schema) p)
param_below task schema p is = elim (slot_cases (parameter_slots schema) p) [
  | inl low ↦ slots_below schema (parameter_slots schema) is.few_parameters refl p (Fixed 0) low
  | inr past ↦ subst (IsSlotBelow 64) (sym past) (fixed_below 0)
]

term_slot_below : (task : Task) (schema : Schema) (t : Term) → SchemaOf task schema →
    IsSlotBelow 64 (slot_of (parameter_slots schema) t)
term_slot_below task schema (term.Parameter p) is = param_below task schema p is
term_slot_below task schema (term.Object o) is = fixed_below o

pub term_slots_below : (task : Task) (schema : Schema) (terms : List Term) → SchemaOf task schema →
    All (IsSlotBelow 64) (slots_of (parameter_slots schema) terms)
term_slots_below task schema [] is k d h = absurd (omega arith)
term_slots_below task schema (t ∷ terms) is zero d h = term_slot_below task schema t is
term_slots_below task schema (t ∷ terms) is (suc k) d h =
    term_slots_below task schema terms is k d (omega arith)

-- ---- edges

type_edge_of : (task : Task) (schema : Schema) (p : ℕ) (slot : Slot) (e : Edge) →
    p < length schema.parameters → IsSlotBelow 64 slot → Contains (type_edge p slot) e →
    IsEdgeOf task schema e
type_edge_of task schema p (Fixed o) e low below held = absurd (Contains-nil e held)
type_edge_of task schema p (Class c) e low below held =
    elim (Contains-cons_cases (record {
      source = source.Kind p;
      slots = Class c ∷ [];
      classes =
          class_set (Class c ∷ []);
    }) [] e held) [
      | inl is ↦ subst (IsEdgeOf task schema) is (record {
        from = record { kind = λ q same. same_kind q same; predicate = λ q same. absurd (cc) };
        arity = record { kind = λ q same. refl; predicate = λ q d same found. absurd (cc) };
        below = one;
        set = set_bits (Class c ∷ []);
      })
      | inr r ↦ absurd (Contains-nil e r)
    ]
  where
    same_kind : (q : ℕ) → source.Kind p ≡ source.Kind q → q < length schema.parameters
    same_kind q same = let is : p ≡ q = cc in subst (λ x. x < length schema.parameters) is low

    one : All (IsSlotBelow 64) (Class c ∷ [])
    one zero d h = below
    one (suc k) d h = absurd (omega arith)

atom_edge_of : (task : Task) (schema : Schema) (a : Lifted) (b : Bool) (e : Edge) → SchemaOf task schema →
    IsLiftedOf task.predicates (length task.objects) (length schema.parameters) a →
    Contains (if b then [] else record {
      source = source.Predicate a.predicate;
      slots =
          slots_of (parameter_slots schema) a.terms;
      classes =
          class_set (slots_of (parameter_slots schema) a.terms);
    } ∷ []) e → IsEdgeOf task schema e
atom_edge_of task schema a true e is of held = absurd (Contains-nil e held)
atom_edge_of task schema a false e is of held = elim (Contains-cons_cases
    (record {
      source = source.Predicate a.predicate;
      slots =
          slots_of (parameter_slots schema) a.terms;
      classes =
          class_set (slots_of (parameter_slots schema) a.terms);
    }) [] e held) [
      | inl same ↦ subst (IsEdgeOf task schema) same (record {
        from = record { kind = λ q other. absurd (cc); predicate = λ q same'. in_range q same' };
        arity = record { kind = λ q other. absurd (cc); predicate = λ q d same' found. wide q d same' found };
        below = term_slots_below task schema a.terms is;
        set = set_bits (slots_of (parameter_slots schema) a.terms);
      })
      | inr r ↦ absurd (Contains-nil e r)
    ]
  where
    in_range : (q : ℕ) → source.Predicate a.predicate ≡ source.Predicate q → q < length task.predicates
    in_range q same' = let at : a.predicate ≡ q = cc in
        subst (λ x. x < length task.predicates) at of.predicate

    wide : (q : ℕ) (d : PredicateDef) → source.Predicate a.predicate ≡ source.Predicate q →
        slice_get task.predicates q ≡ Some d → length (slots_of (parameter_slots schema) a.terms) ≡ d.arity
    wide q d same' found =
        let at : a.predicate ≡ q = cc in
        length-map a.terms (slot_of (parameter_slots schema)) ∙ of.arity d
        (ap (slice_get task.predicates) at ∙ found)

literal_edge_of : (task : Task) (schema : Schema) (l : Literal) (e : Edge) → SchemaOf task schema →
    IsLiteralOf task.predicates (length task.objects) (length schema.parameters) l →
    Contains (literal_edge (parameter_slots schema) l) e → IsEdgeOf task schema e
literal_edge_of task schema (literal.Atom a) e is of held =
    atom_edge_of task schema a (are_fixed (slots_of (parameter_slots schema) a.terms)) e is (of.atom a refl)
    held
literal_edge_of task schema (literal.NotAtom a) e is of held = absurd (Contains-nil e held)
literal_edge_of task schema (literal.Equal a b) e is of held = absurd (Contains-nil e held)
literal_edge_of task schema (literal.NotEqual a b) e is of held = absurd (Contains-nil e held)

literal_here : (task : Task) (schema : Schema) (l : Literal) → SchemaOf task schema →
    Contains schema.condition l → IsLiteralOf task.predicates (length task.objects)
    (length schema.parameters) l
literal_here task schema l is held = All-contains (IsLiteralOf task.predicates (length task.objects)
    (length schema.parameters)) schema.condition l is.literals held

pub edge_of : (task : Task) (schema : Schema) (e : Edge) → SchemaOf task schema →
    Contains (edges_of schema) e → IsEdgeOf task schema e
edge_of task schema e is held = with_edge schema e held
    (λ p low at. type_edge_of task schema p (slot_at (parameter_slots schema) p) e low
    (param_below task schema p is) at)
    (λ l among at. literal_edge_of task schema l e is (literal_here task schema l is among) at)

-- ---- filters

absent_of : (task : Task) (schema : Schema) (a : Lifted) (b : Bool) (x : Sieve) → SchemaOf task schema →
    IsLiftedOf task.predicates (length task.objects) (length schema.parameters) a →
    Contains (if b then [] else sieve.Absent a.predicate (slots_of (parameter_slots schema) a.terms) ∷ []) x
    → IsSieveOf task x
absent_of task schema a true x is of held = absurd (Contains-nil x held)
absent_of task schema a false x is of held = elim (Contains-cons_cases
    (sieve.Absent a.predicate (slots_of (parameter_slots schema) a.terms)) [] x held) [
      | inl same ↦ subst (IsSieveOf task) same (record {
        predicate = λ q slots at. in_range q slots at;
        arity = λ q slots d at found. wide q slots d at found;
        below = λ q slots at. low q slots at;
        left = λ s t other. absurd (cc);
        right = λ s t other. absurd (cc);
      })
      | inr r ↦ absurd (Contains-nil x r)
    ]
  where
    own : List Slot
    own = slots_of (parameter_slots schema) a.terms

    in_range : (q : ℕ) (slots : List Slot) → sieve.Absent a.predicate own ≡ sieve.Absent q slots →
        q < length task.predicates
    in_range q slots at = let same : a.predicate ≡ q = cc in
        subst (λ n. n < length task.predicates) same of.predicate

    wide : (q : ℕ) (slots : List Slot) (d : PredicateDef) →
        sieve.Absent a.predicate own ≡ sieve.Absent q slots → slice_get task.predicates q ≡ Some d →
        length slots ≡ d.arity
    wide q slots d at found =
        let same : a.predicate ≡ q = cc in
        let list : own ≡ slots = cc in
        ap length (sym list) ∙ (length-map a.terms (slot_of (parameter_slots schema)) ∙ of.arity d
        (ap (slice_get task.predicates) same ∙ found))

    low : (q : ℕ) (slots : List Slot) → sieve.Absent a.predicate own ≡ sieve.Absent q slots →
        All (IsSlotBelow 64) slots
    low q slots at = let list : own ≡ slots = cc in subst (All (IsSlotBelow 64)) list
        (term_slots_below task schema a.terms is)

unequal_of : (task : Task) (schema : Schema) (s t : Term) (b : Bool) (x : Sieve) → SchemaOf task schema →
    Contains (if b then [] else sieve.NotEqual (slot_of (parameter_slots schema) s)
    (slot_of (parameter_slots schema) t) ∷ []) x → IsSieveOf task x
unequal_of task schema s t true x is held = absurd (Contains-nil x held)
unequal_of task schema s t false x is held = elim (Contains-cons_cases
    (sieve.NotEqual (slot_of (parameter_slots schema) s) (slot_of (parameter_slots schema) t)) [] x held) [
      | inl same ↦ subst (IsSieveOf task) same (record {
        predicate = λ q slots other. absurd (cc);
        arity = λ q slots d other found. absurd (cc);
        below = λ q slots other. absurd (cc);
        left = λ u v at. (let e : slot_of (parameter_slots schema) s ≡ u = cc in
            subst (IsSlotBelow 64) e (term_slot_below task schema s is));
        right = λ u v at. (let e : slot_of (parameter_slots schema) t ≡ v = cc in
            subst (IsSlotBelow 64) e (term_slot_below task schema t is));
      })
      | inr r ↦ absurd (Contains-nil x r)
    ]

literal_sieve_of : (task : Task) (schema : Schema) (l : Literal) (x : Sieve) → SchemaOf task schema →
    IsLiteralOf task.predicates (length task.objects) (length schema.parameters) l →
    Contains (literal_sieve (parameter_slots schema) l) x → IsSieveOf task x
literal_sieve_of task schema (literal.Atom a) x is of held = absurd (Contains-nil x held)
literal_sieve_of task schema (literal.NotAtom a) x is of held =
    absent_of task schema a (are_fixed (slots_of (parameter_slots schema) a.terms)) x is
    (of.not_atom a refl) held
literal_sieve_of task schema (literal.Equal a b) x is of held = absurd (Contains-nil x held)
literal_sieve_of task schema (literal.NotEqual a b) x is of held =
    unequal_of task schema a b (is_fixed (slot_of (parameter_slots schema) a) && is_fixed
    (slot_of (parameter_slots schema) b)) x is held

sieve_here : (task : Task) (schema : Schema) (x : Sieve) → SchemaOf task schema →
    Contains (sieves_of (parameter_slots schema) schema.condition) x → IsSieveOf task x
unfolding sieves_of
sieve_here task schema x is held = of_literal (Contains-from_flat_map
    (literal_sieve (parameter_slots schema)) schema.condition x held)
  where
    of_literal : (l : Literal) × Contains schema.condition l × Contains
        (literal_sieve (parameter_slots schema) l) x → IsSieveOf task x
    of_literal (l, among, at) = literal_sieve_of task schema l x is (literal_here task schema l is among) at

late_from : (place : Option ℕ) (x y : Sieve) → Contains (late_at place x) y → x ≡ y
late_from None x y held = elim (Contains-cons_cases x [] y held) [
  | inl e ↦ e
  | inr r ↦ absurd (Contains-nil y r)
]
late_from (Some e) x y held = absurd (Contains-nil y held)

pub late_sieve_of : (task : Task) (schema : Schema) (x : Sieve) → SchemaOf task schema →
    Contains (late_of schema) x → IsSieveOf task x
unfolding late_of late_among
late_sieve_of task schema x is held = of_one (Contains-from_flat_map
    (λ y. late_at (home (edges_of schema) y) y) (sieves_of (parameter_slots schema) schema.condition) x held)
  where
    of_one : (y : Sieve) × Contains (sieves_of (parameter_slots schema) schema.condition) y × Contains
        (late_at (home (edges_of schema) y) y) x → IsSieveOf task x
    of_one (y, among, at) = subst (IsSieveOf task) (late_from (home (edges_of schema) y) y x at)
        (sieve_here task schema y is among)

-- a local filter is one of the schema's, placed at its home
pub local_from : (schema : Schema) (placed : Placed) → Contains (local_of schema) placed →
    Contains (sieves_of (parameter_slots schema) schema.condition) placed.sieve ×
    (home (edges_of schema) placed.sieve ≡ Some placed.edge)
unfolding local_of local_among
local_from schema placed held = of_one (Contains-from_flat_map (λ y. local_at (home (edges_of schema) y) y)
    (sieves_of (parameter_slots schema) schema.condition) placed held)
  where
    at_place : (y : Sieve) (place : Option ℕ) → home (edges_of schema) y ≡ place →
        Contains (sieves_of (parameter_slots schema) schema.condition) y →
        Contains (local_at place y) placed →
        Contains (sieves_of (parameter_slots schema) schema.condition) placed.sieve ×
        (home (edges_of schema) placed.sieve ≡ Some placed.edge)
    at_place y None is among at = absurd (Contains-nil placed at)
    at_place y (Some e) is among at = elim (Contains-cons_cases (record { edge = e; sieve = y }) [] placed
        at) [
          | inl same ↦ subst (λ (z : Placed). Contains (sieves_of (parameter_slots schema) schema.condition)
              z.sieve × (home (edges_of schema) z.sieve ≡ Some z.edge)) same (among, is)
          | inr r ↦ absurd (Contains-nil placed r)
        ]

    of_one : (y : Sieve) × Contains (sieves_of (parameter_slots schema) schema.condition) y × Contains
        (local_at (home (edges_of schema) y) y) placed →
        Contains (sieves_of (parameter_slots schema) schema.condition) placed.sieve ×
        (home (edges_of schema) placed.sieve ≡ Some placed.edge)
    of_one (y, among, at) = at_place y (home (edges_of schema) y) refl among at

pub local_sieve_of : (task : Task) (schema : Schema) (placed : Placed) → SchemaOf task schema →
    Contains (local_of schema) placed → IsSieveOf task placed.sieve
local_sieve_of task schema placed is held = sieve_here task schema placed.sieve is
    (local_from schema placed held).0

-- ---- the home of a local filter

position_by : {X : Type 0} (t : X → Bool) (i : ℕ) (x : X) (xs : List X) (k : ℕ) (d : X) (b : Bool) →
    t x ≡ b → cond b (Some i) (position_from t (i + 1) xs) ≡ Some k →
    (position_from t (i + 1) xs ≡ Some k → (j : ℕ) × (k ≡ i + 1 + j) × (j < length xs) ×
    (t (get_or xs j d) ≡ true)) →
    (j : ℕ) × (k ≡ i + j) × (j < length (x ∷ xs)) × (t (get_or (x ∷ xs) j d) ≡ true)
position_by t i x xs k d true is e next = (0, (let same = same_Some i k e in omega arith), omega arith, is)
position_by t i x xs k d false is e next = let (j, at, low, passes) = next e in
    (suc j, omega arith, omega arith, passes)

pub position_at : {X : Type 0} (t : X → Bool) (i : ℕ) (xs : List X) (k : ℕ) (d : X) →
    position_from t i xs ≡ Some k → (j : ℕ) × (k ≡ i + j) × (j < length xs) × (t (get_or xs j d) ≡ true)
position_at t i [] k d h = absurd (cc)
position_at t i (x ∷ xs) k d h = position_by t i x xs k d (t x) refl h (position_at t (i + 1) xs k d)

abbrev pub no_edge : Edge
no_edge = record { source = source.Kind 0; slots = []; classes = 0 }

-- the home of a filter is an edge that has all its classes
pub home_is : (edges : List Edge) (x : Sieve) (e : ℕ) → home edges x ≡ Some e →
    (e < length edges) × (has_all (sieve_classes x) (get_or edges e no_edge) ≡ true)
unfolding home
home_is edges x e h =
    let (j, at, low, passes) = position_at (has_all (sieve_classes x)) 0 edges e no_edge h in
    let same : e ≡ j = omega arith in
    subst (λ k. (k < length edges) × (has_all (sieve_classes x) (get_or edges k no_edge) ≡ true)) (sym same)
    (low, passes)

-- the slots of a filter at home are over the classes of its edge
slot_over : (slots : List Slot) (edge : Edge) (classes : List ℕ) →
    (bit_and (class_set slots) edge.classes == class_set slots) ≡ true →
    ((c : ℕ) → Contains classes c ↔ (bit_at edge.classes c ≡ 1)) →
    (slot : Slot) → Contains slots slot → IsSlotOver classes slot
slot_over slots edge classes fits same slot held c is =
    (same c).1 ((and_within (class_set slots) edge.classes).0
    (eqb-true (bit_and (class_set slots) edge.classes) (class_set slots) fits) c
    ((set_bits slots c).1 (subst (Contains slots) is held)))

all_over : (slots : List Slot) (classes : List ℕ) → ((slot : Slot) → Contains slots slot →
    IsSlotOver classes slot) → All (IsSlotOver classes) slots
all_over slots classes h k d low = h (get_or slots k d) (Contains-get_or slots k d low)

pub sieve_over : (x : Sieve) (edge : Edge) (classes : List ℕ) → has_all (sieve_classes x) edge ≡ true →
    ((c : ℕ) → Contains classes c ↔ (bit_at edge.classes c ≡ 1)) → IsSieveOver classes x
sieve_over (sieve.NotEqual a b) edge classes fits same = record {
  slots = λ p slots other. absurd (cc);
  left = λ u v e. (let is : a ≡ u = cc in subst (IsSlotOver classes) is
      (slot_over (a ∷ b ∷ []) edge classes fits same a (Contains-cons_first a (b ∷ []))));
  right = λ u v e. (let is : b ≡ v = cc in subst (IsSlotOver classes) is
      (slot_over (a ∷ b ∷ []) edge classes fits same b (Contains-cons_rest a (b ∷ []) b
      (Contains-cons_first b []))));
}
sieve_over (sieve.Absent p slots) edge classes fits same = record {
  slots = λ q others e. (let is : slots ≡ others = cc in
      subst (All (IsSlotOver classes)) is (all_over slots classes (slot_over slots edge classes fits same)));
  left = λ u v other. absurd (cc);
  right = λ u v other. absurd (cc);
}

-- ---- guards

known_of : (task : Task) (b : Bool) (g : Guard) → Contains (known b) g → IsGuardOf task g
known_of task true g held = absurd (Contains-nil g held)
known_of task false g held = elim (Contains-cons_cases guard.Never [] g held) [
  | inl same ↦ subst (IsGuardOf task) same (record {
    holds = λ a e. absurd (cc);
    absent =
        λ a e. absurd (cc);
  })
  | inr r ↦ absurd (Contains-nil g r)
]

wanted_of : (task : Task) (wanted : Bool) (a : Atom) (g : Guard) → IsAtomOf task.objects task.predicates a →
    Contains (wanted_guard wanted a ∷ []) g → IsGuardOf task g
wanted_of task true a g of held = elim (Contains-cons_cases (guard.Holds a) [] g held) [
  | inl same ↦ subst (IsGuardOf task) same (record {
    holds =
        λ b e. (let is : a ≡ b = cc in subst (IsAtomOf task.objects task.predicates) is of);
    absent =
        λ b e. absurd (cc);
  })
  | inr r ↦ absurd (Contains-nil g r)
]
wanted_of task false a g of held = elim (Contains-cons_cases (guard.Absent a) [] g held) [
  | inl same ↦ subst (IsGuardOf task) same (record {
    holds = λ b e. absurd (cc);
    absent =
        λ b e. (let is : a ≡ b = cc in subst (IsAtomOf task.objects task.predicates) is of);
  })
  | inr r ↦ absurd (Contains-nil g r)
]

atom_guard_of : (task : Task) (wanted : Bool) (a : Atom) (b : Bool) (g : Guard) →
    IsAtomOf task.objects task.predicates a →
    Contains (if b then wanted_guard wanted a ∷ [] else known (is_as_wanted wanted (initial task a))) g →
    IsGuardOf task g
atom_guard_of task wanted a true g of held = wanted_of task wanted a g of held
atom_guard_of task wanted a false g of held = known_of task (is_as_wanted wanted (initial task a)) g held

param_within : (task : Task) (schema : Schema) (p : ℕ) → SchemaOf task schema →
    IsSlotOf (length task.objects) (slot_at (parameter_slots schema) p) ⊎
    (slot_at (parameter_slots schema) p ≡ Fixed 0)
param_within task schema p is = elim (slot_cases (parameter_slots schema) p) [
  | inl low ↦ inl (slots_within task.predicates (length task.objects) schema (parameter_slots schema)
      is.literals refl p (Fixed 0) low)
  | inr past ↦ inr past
]

term_within : (task : Task) (schema : Schema) (t : Term) → SchemaOf task schema →
    IsTermOf (length task.objects) (length schema.parameters) t →
    IsSlotOf (length task.objects) (slot_of (parameter_slots schema) t)
term_within task schema (term.Parameter p) is of =
    let long = parameter_slots-length schema in
    let low = of.parameter p refl in
    slots_within task.predicates (length task.objects) schema (parameter_slots schema) is.literals refl p
    (Fixed 0) (omega (arith, long, low))
term_within task schema (term.Object o) is of = λ x e. (let same : o ≡ x = cc in
    subst (λ n. n < length task.objects) same (of.object o refl))

fixed_within : (objects : ℕ) (slot : Slot) → is_fixed slot ≡ true → IsSlotOf objects slot →
    fixed_value slot < objects
fixed_within objects (Fixed o) fixed of = of o refl
fixed_within objects (Class c) fixed of = absurd (false≢true fixed)

values_within : (task : Task) (schema : Schema) (terms : List Term) → SchemaOf task schema →
    All (IsTermOf (length task.objects) (length schema.parameters)) terms →
    are_fixed (slots_of (parameter_slots schema) terms) ≡ true →
    All (λ o. o < length task.objects) (map fixed_value (slots_of (parameter_slots schema) terms))
values_within task schema [] is of fixed k d h = absurd (omega arith)
values_within task schema (t ∷ terms) is of fixed zero d h =
    fixed_within (length task.objects) (slot_of (parameter_slots schema) t)
    (and_parts (is_fixed (slot_of (parameter_slots schema) t)) _ fixed).0
    (term_within task schema t is (of 0 t (omega arith)))
values_within task schema (t ∷ terms) is of fixed (suc k) d h =
    values_within task schema terms is (λ j e l. of (suc j) e (omega arith))
    (and_parts (is_fixed (slot_of (parameter_slots schema) t)) _ fixed).1 k d (omega arith)

ground_of : (task : Task) (schema : Schema) (a : Lifted) → SchemaOf task schema →
    IsLiftedOf task.predicates (length task.objects) (length schema.parameters) a →
    are_fixed (slots_of (parameter_slots schema) a.terms) ≡ true →
    IsAtomOf task.objects task.predicates (record {
      predicate = a.predicate;
      objects =
          map fixed_value (slots_of (parameter_slots schema) a.terms);
    })
ground_of task schema a is of fixed = record {
  predicate = of.predicate;
  arity = λ d found. length-map (slots_of (parameter_slots schema) a.terms) fixed_value ∙
      (length-map a.terms (slot_of (parameter_slots schema)) ∙ of.arity d found);
  within = values_within task schema a.terms is of.terms fixed;
}

guard_over_of : (task : Task) (schema : Schema) (wanted : Bool) (a : Lifted) (b : Bool) (g : Guard) →
    SchemaOf task schema → IsLiftedOf task.predicates (length task.objects) (length schema.parameters) a →
    are_fixed (slots_of (parameter_slots schema) a.terms) ≡ b →
    Contains (if b then atom_guard task wanted (record {
      predicate = a.predicate;
      objects =
          map fixed_value (slots_of (parameter_slots schema) a.terms);
    }) else []) g → IsGuardOf task g
guard_over_of task schema wanted a true g is of fixed held =
    atom_guard_of task wanted (record {
      predicate = a.predicate;
      objects =
          map fixed_value (slots_of (parameter_slots schema) a.terms);
    }) (is_fluent task.schemas a.predicate)
    g (ground_of task schema a is of fixed) held
guard_over_of task schema wanted a false g is of fixed held = absurd (Contains-nil g held)

equality_of : (task : Task) (wanted : Bool) (a b : Slot) (g : Guard) →
    Contains (equality_guard wanted a b) g → IsGuardOf task g
equality_of task wanted (Fixed a) (Fixed b) g held = known_of task (is_as_wanted wanted (a == b)) g held
equality_of task wanted (Fixed a) (Class b) g held = absurd (Contains-nil g held)
equality_of task wanted (Class a) (Fixed b) g held = absurd (Contains-nil g held)
equality_of task wanted (Class a) (Class b) g held = absurd (Contains-nil g held)

literal_guard_of : (task : Task) (schema : Schema) (l : Literal) (g : Guard) → SchemaOf task schema →
    IsLiteralOf task.predicates (length task.objects) (length schema.parameters) l →
    Contains (literal_guard task (parameter_slots schema) l) g → IsGuardOf task g
literal_guard_of task schema (literal.Atom a) g is of held =
    guard_over_of task schema true a (are_fixed (slots_of (parameter_slots schema) a.terms)) g is
    (of.atom a refl) refl held
literal_guard_of task schema (literal.NotAtom a) g is of held =
    guard_over_of task schema false a (are_fixed (slots_of (parameter_slots schema) a.terms)) g is
    (of.not_atom a refl) refl held
literal_guard_of task schema (literal.Equal a b) g is of held =
    equality_of task true (slot_of (parameter_slots schema) a) (slot_of (parameter_slots schema) b) g held
literal_guard_of task schema (literal.NotEqual a b) g is of held =
    equality_of task false (slot_of (parameter_slots schema) a) (slot_of (parameter_slots schema) b) g held

type_guard_of : (task : Task) (types : List ℕ) (slot : Slot) (g : Guard) →
    Contains (type_guard task types slot) g → IsGuardOf task g
type_guard_of task types (Fixed o) g held = known_of task (has_some_type task types o) g held
type_guard_of task types (Class c) g held = absurd (Contains-nil g held)

pub guard_of : (task : Task) (schema : Schema) (g : Guard) → SchemaOf task schema →
    Contains (guards_of task schema) g → IsGuardOf task g
guard_of task schema g is held = with_guard task schema g held
    (λ p low at. type_guard_of task (types_at schema.parameters p) (slot_at (parameter_slots schema) p) g at)
    (λ l among at. literal_guard_of task schema l g is (literal_here task schema l is among) at)

-- ---- all of them, as lists

pub edges_are : (task : Task) (schema : Schema) (edges : List Edge) → SchemaOf task schema →
    edges ≡ edges_of schema → All (IsEdgeOf task schema) edges
edges_are task schema edges is e k d low = edge_of task schema (get_or edges k d) is
    (subst (λ xs. Contains xs (get_or edges k d)) e (Contains-get_or edges k d low))

pub guards_are : (task : Task) (schema : Schema) (guards : List Guard) → SchemaOf task schema →
    guards ≡ guards_of task schema → All (IsGuardOf task) guards
guards_are task schema guards is e k d low = guard_of task schema (get_or guards k d) is
    (subst (λ xs. Contains xs (get_or guards k d)) e (Contains-get_or guards k d low))

pub late_are : (task : Task) (schema : Schema) (late : List Sieve) → SchemaOf task schema →
    late ≡ late_of schema → All (IsSieveOf task) late
late_are task schema late is e k d low = late_sieve_of task schema (get_or late k d) is
    (subst (λ xs. Contains xs (get_or late k d)) e (Contains-get_or late k d low))

pub schema_of : (task : Task) (number : ℕ) (schema : Schema) → slice_get task.schemas number ≡ Some schema →
    SchemaOf task schema
schema_of task number schema found =
    let within = slice_get_within task.schemas number schema found in
    let is = task.schemas_ok.each number schema within in
    subst (SchemaOf task) (get_or_from_slice_get task.schemas number schema schema found) is
