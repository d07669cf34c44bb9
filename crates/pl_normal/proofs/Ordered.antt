-- The unfixed classes of a schema in class order, and the order of its parameters.
use Rattle.std.proofs.Common.{◌≡◌, ◌≢◌, ℕ, ◌<◌, ◌≤◌, ◌^◌, zero, suc, ◌==◌, ◌↔◌, ◌⊎◌, inl, inr, Bool, true}
use Rattle.std.proofs.Common.{false, not, if◌then◌else◌, List, [], ◌∷◌, ◌++◌, length, reverse, get_or}
use Rattle.std.proofs.Common.{Option, Some, None, refl, sym, ◌∙◌, ap, subst, arith, Contains, eqb-true}
use Rattle.std.proofs.Common.{eq-eqb}
use Rattle.std.specs.Prelude.{slice_index}
use Rattle.std.specs.Int.{bit_at}
use Rattle.std.specs.List.{AllPairs, filter, fold, range_with_len}
use Rattle.std.proofs.lemmas.Bool.{false≢true, cases_lt}
use Rattle.std.proofs.lemmas.Bool.Decides.{Decides-eqb}
use Rattle.std.proofs.lemmas.List.FromFn.{length-range_with_len}
use Rattle.std.proofs.lemmas.List.{reverse-append}
use Rattle.std.proofs.lemmas.List.Kept.{AllPairs-cons, AllPairs-filter}
use Rattle.std.proofs.lemmas.List.Elements.{Contains-append_left, Contains-append_right}
use Rattle.std.proofs.lemmas.List.Elements.{Contains-append_cases, Contains-get_or}
use Rattle.std.proofs.lemmas.Map.Made.{IsDistinct-from_AllPairs, length-le_from_is_member, is_member-Decides}
use Rattle.std.proofs.lemmas.Cmp.{nat_eq_equiv}
use Rattle.std.proofs.lemmas.Nat.Bits.{bit_at-pow_same, bit_at-pow_other}
use Rattle.pl_rows.proofs.Canonical.{Contains-cons_cases, Contains-cons_first, Contains-cons_rest}
use Rattle.pl_rows.proofs.Canonical.{Contains-nil}
use Rattle.pl_hyper.specs.Ears.{Removal, IsRemoval}
use Rattle.pl_hyper.specs.ClassOrder.{classes_of, walk_order, class_order}
use Rattle.pl_hyper.proofs.Members.{same_or_not, range_contains, within_range, range_rises}
use Rattle.pl_hyper.proofs.Orders.{first_contains, within_first, first_once, in_classes, classes_contain}
use Rattle.pl_hyper.proofs.Bits.{no_bit, or_bit}
use Rattle.pl_task.specs.declared.data.Literal.{Literal}
use Rattle.pl_task.specs.declared.data.Literal.TheVariants as literal
use Rattle.pl_task.specs.declared.data.Schema.{Schema}
use Rattle.pl_task.specs.declared.data.Term.{Term}
use Rattle.pl_task.specs.declared.data.Term.TheVariants as term
use Rattle.pl_join.specs.declared.slot.Slot.{Slot}
use Rattle.pl_join.specs.declared.slot.Slot.TheVariants.{Fixed, Class}
use Rattle.pl_join.proofs.Members.{Contains-from_map, Contains-filter, Contains-from_filter}
use Rattle.pl_join.proofs.Members.{Contains-flat_map, Contains-from_flat_map}
use Rattle.pl_normal.specs.declared.form.Edge.{Edge}
use Rattle.pl_normal.specs.declared.form.Source.TheVariants as source
use Rattle.pl_normal.specs.Classes.{equalities, class_of}
use Rattle.pl_normal.specs.Slots.{class_slot, parameter_slots, slot_at, slot_of, slots_of, are_fixed}
use Rattle.pl_normal.specs.Slots.{class_bit, with_class, class_set}
use Rattle.pl_normal.specs.Edges.{type_edge, literal_edge, edges_of, sets_of}
use Rattle.pl_normal.specs.EarRemoval.{ear_removal}
use Rattle.pl_normal.specs.ParameterOrder.{is_among, then_others, classes_in_order, parameter_order}
use Rattle.pl_normal.specs.Laws.{IsOrderOfAll}
use Rattle.pl_normal.proofs.Joined.{class_of-within, class_of-class}
use Rattle.pl_normal.proofs.Lists.{one_passes, passing_one}
use Rattle.pl_normal.proofs.Removing.{ear_removal-is, ear_removal-edges}
use Rattle.pl_normal.proofs.SlotLemmas.{slot_of_class, slot_is, parameter_slots-length}
use Rattle.pl_normal.proofs.Answering.{type_edge_among, with_edge}
use Rattle.pl_hyper.proofs.ClassOrders.{walk_contains}

-- ---- sets of classes

fixed_class : (o c : ℕ) → Fixed o ≡ Class c → ⊥
fixed_class o c h = cc

pub same_class : (c d : ℕ) → Class c ≡ Class d → c ≡ d
same_class c d h = cc

no_other : (c d : ℕ) → c ≢ d → bit_at (2 ^ d) c ≡ 1 → ⊥
no_other c d n h = let none : bit_at (2 ^ d) c ≡ 0 = bit_at-pow_other d c n in omega arith

bit_of : (slot : Slot) (c : ℕ) → (bit_at (class_bit slot) c ≡ 1) → slot ≡ Class c
bit_of (Fixed o) c h = absurd (no_bit c h)
bit_of (Class d) c h = elim (same_or_not c d) [
  | inl e ↦ ap Class (sym e)
  | inr n ↦ absurd (no_other c d n h)
]

bit_from : (slot : Slot) (c : ℕ) → slot ≡ Class c → bit_at (class_bit slot) c ≡ 1
bit_from slot c h = subst (λ s. bit_at (class_bit s) c ≡ 1) (sym h) (bit_at-pow_same c)

-- the classes of slots, beside those of a set
fold_bits : (slots : List Slot) (set c : ℕ) → (bit_at (fold with_class set slots) c ≡ 1)
    ↔ ((bit_at set c ≡ 1) ⊎ Contains slots (Class c))
fold_bits [] set c = (
  (λ h. inl h),
  (λ h. elim h [
    | inl e ↦ e
    | inr r ↦ absurd (Contains-nil (Class c) r)
  ]),
)
fold_bits (slot ∷ slots) set c =
    let rest = fold_bits slots (with_class set slot) c in (
      (λ h. elim (rest.0 h) [
        | inl e ↦ elim ((or_bit set (class_bit slot) c).0 e) [
          | inl old ↦ inl old
          | inr new ↦ inr
              (subst (λ s. Contains (s ∷ slots) (Class c)) (sym (bit_of slot c new))
              (Contains-cons_first (Class c) slots))
        ]
        | inr r ↦ inr (Contains-cons_rest slot slots (Class c) r)
      ]),
      (λ h. rest.1 (elim h [
        | inl e ↦ inl ((or_bit set (class_bit slot) c).1 (inl e))
        | inr r ↦ elim (Contains-cons_cases slot slots (Class c) r) [
          | inl is ↦ inl ((or_bit set (class_bit slot) c).1 (inr (bit_from slot c is)))
          | inr more ↦ inr more
        ]
      ])),
    )

pub set_bits : (slots : List Slot) (c : ℕ) → (bit_at (class_set slots) c ≡ 1) ↔ Contains slots (Class c)
set_bits slots c = (
  (λ h. elim ((fold_bits slots 0 c).0 h) [
    | inl e ↦ absurd (no_bit c e)
    | inr r ↦ r
  ]),
  (λ h. (fold_bits slots 0 c).1 (inr h)),
)

-- ---- the unfixed classes

-- some parameter stands for the class
abbrev pub IsUnfixed : Schema → ℕ → Type 0
IsUnfixed schema c = (p : ℕ) × (p < length schema.parameters) × (slot_at (parameter_slots schema) p ≡ Class c)

past_default : (xs : List Slot) (p : ℕ) → length xs ≤ p → get_or xs p (Fixed 0) ≡ Fixed 0
past_default [] p h = refl
past_default (x ∷ xs) zero h = absurd (omega arith)
past_default (x ∷ xs) (suc p) h = past_default xs p (omega arith)

-- the class of a term is unfixed
pub term_unfixed : (schema : Schema) (t : Term) (c : ℕ) → slot_of (parameter_slots schema) t ≡ Class c
    → IsUnfixed schema c
term_unfixed schema (term.Object o) c h = absurd (fixed_class o c h)
term_unfixed schema (term.Parameter p) c h = elim (cases_lt p (length schema.parameters)) [
  | inl below ↦ (p, below, h)
  | inr past ↦ (let long = parameter_slots-length schema in absurd
      (fixed_class 0 c (sym (past_default (parameter_slots schema) p (omega arith)) ∙ h)))
]

edge_unfixed : (schema : Schema) (predicate : ℕ) (terms : List Term) (e : Edge) (c : ℕ) (b : Bool) →
    Contains (if b then [] else
    record {
      source = source.Predicate predicate;
      slots = slots_of
          (parameter_slots schema) terms;
      classes = class_set (slots_of (parameter_slots schema) terms);
    } ∷ [])
    e → bit_at e.classes c ≡ 1 → IsUnfixed schema c
edge_unfixed schema predicate terms e c true held h = absurd (Contains-nil e held)
edge_unfixed schema predicate terms e c false held h =
    elim (Contains-cons_cases
    (record {
      source = source.Predicate predicate;
      slots = slots_of (parameter_slots schema) terms;
      classes =
          class_set (slots_of (parameter_slots schema) terms);
    }) [] e held) [
      | inl is ↦ of_term (Contains-from_map (slot_of (parameter_slots schema)) terms (Class c)
          ((set_bits (slots_of (parameter_slots schema) terms) c).0
          (subst (λ (x : Edge). bit_at x.classes c ≡ 1) (sym is) h)))
      | inr r ↦ absurd (Contains-nil e r)
    ]
  where
    of_term : (t : Term) × Contains terms t × (slot_of (parameter_slots schema) t ≡ Class c)
        → IsUnfixed schema c
    of_term (t, among, at) = term_unfixed schema t c at

literal_unfixed : (schema : Schema) (l : Literal) (e : Edge) (c : ℕ)
    → Contains (literal_edge (parameter_slots schema) l) e → bit_at e.classes c ≡ 1 → IsUnfixed schema c
literal_unfixed schema (literal.Atom a) e c held h = edge_unfixed schema a.predicate a.terms e c
    (are_fixed (slots_of (parameter_slots schema) a.terms)) held h
literal_unfixed schema (literal.NotAtom a) e c held h = absurd (Contains-nil e held)
literal_unfixed schema (literal.Equal a b) e c held h = absurd (Contains-nil e held)
literal_unfixed schema (literal.NotEqual a b) e c held h = absurd (Contains-nil e held)

type_unfixed : (schema : Schema) (p : ℕ) (slot : Slot) (e : Edge) (c : ℕ)
    → slot_at (parameter_slots schema) p ≡ slot → p < length schema.parameters → Contains (type_edge p slot) e
    → bit_at e.classes c ≡ 1 → IsUnfixed schema c
type_unfixed schema p (Fixed o) e c at below held h = absurd (Contains-nil e held)
type_unfixed schema p (Class d) e c at below held h =
    elim (Contains-cons_cases
    (record { source = source.Kind p; slots = Class d ∷ []; classes = class_set (Class d ∷ []) }) [] e held) [
      | inl is ↦ (
        p,
        below,
        at
            ∙ only ((set_bits (Class d ∷ []) c).0 (subst (λ (x : Edge). bit_at x.classes c ≡ 1) (sym is) h)),
      )
      | inr r ↦ absurd (Contains-nil e r)
    ]
  where
    only : Contains (Class d ∷ []) (Class c) → Class d ≡ Class c
    only k = elim (Contains-cons_cases (Class d) [] (Class c) k) [
      | inl same ↦ same
      | inr r ↦ absurd (Contains-nil (Class c) r)
    ]

-- a class of an edge is unfixed
pub class_unfixed : (schema : Schema) (e : Edge) (c : ℕ) → Contains (edges_of schema) e
    → bit_at e.classes c ≡ 1 → IsUnfixed schema c
class_unfixed schema e c held h = with_edge schema e held
    (λ p below is. type_unfixed schema p (slot_at (parameter_slots schema) p) e c refl below is h)
    (λ l among is. literal_unfixed schema l e c is h)

-- ---- class order

Contains-reverse : (xs : List ℕ) (x : ℕ) → Contains xs x → Contains (reverse xs) x
Contains-reverse [] x h = absurd (Contains-nil x h)
Contains-reverse (y ∷ xs) x h = subst (λ zs. Contains zs x) (sym (reverse-append (y ∷ []) xs))
    (elim (Contains-cons_cases y xs x h) [
      | inl e ↦ Contains-append_right (reverse xs) (y ∷ []) x
          (subst (Contains (y ∷ [])) e (Contains-cons_first y []))
      | inr r ↦ Contains-append_left (reverse xs) (y ∷ []) x (Contains-reverse xs x r)
    ])

order_contains : (plan : Removal) (e c : ℕ) → IsRemoval plan → e < length plan.edges → c < 64
    → bit_at (slice_index plan.edges e) c ≡ 1 → Contains (class_order plan) c
order_contains plan e c is h small bit =
    first_contains _ c
    (Contains-flat_map (λ x. classes_of (slice_index plan.edges x)) (walk_order plan) e c
    (walk_contains plan is e h) (classes_contain (slice_index plan.edges e) c small bit))

order_from : (plan : Removal) (c : ℕ) → Contains (class_order plan) c → (e : ℕ)
    × (bit_at (slice_index plan.edges e) c ≡ 1)
order_from plan c h =
    of_edge (Contains-from_flat_map (λ x. classes_of (slice_index plan.edges x)) (walk_order plan) c
    (within_first _ c h))
  where
    of_edge : (e : ℕ) × Contains (walk_order plan) e × Contains (classes_of (slice_index plan.edges e)) c
        → (x : ℕ) × (bit_at (slice_index plan.edges x) c ≡ 1)
    of_edge (e, among, is) = (e, (in_classes (slice_index plan.edges e) c is).1)

-- the set of an edge, by its number; past the last edge it is empty
pub set_at : (edges : List Edge) (e c : ℕ) → bit_at (slice_index (sets_of edges) e) c ≡ 1 → (x : Edge)
    × Contains edges x × (bit_at x.classes c ≡ 1)
set_at [] e c h = absurd (no_bit c h)
set_at (x ∷ edges) zero c h = (x, Contains-cons_first x edges, h)
set_at (x ∷ edges) (suc e) c h = let (y, among, bit) = set_at edges e c h in
    (y, Contains-cons_rest x edges y among, bit)

pub set_of : (edges : List Edge) (x : Edge) → Contains edges x → (e : ℕ) × (e < length (sets_of edges))
    × (slice_index (sets_of edges) e ≡ x.classes)
set_of [] x h = absurd (Contains-nil x h)
set_of (y ∷ edges) x h = elim (Contains-cons_cases y edges x h) [
  | inl is ↦ (0, omega arith, ap (λ (z : Edge). z.classes) is)
  | inr r ↦ (let (e, low, at) = set_of edges x r in (suc e, omega arith, at))
]

pub in_order_unfixed : (schema : Schema) (c : ℕ) → Contains (classes_in_order schema) c → IsUnfixed schema c
unfolding classes_in_order
in_order_unfixed schema c h = of_set (order_from (ear_removal (sets_of (edges_of schema))) c h)
  where
    of_edge : (x : Edge) × Contains (edges_of schema) x × (bit_at x.classes c ≡ 1) → IsUnfixed schema c
    of_edge (x, among, bit) = class_unfixed schema x c among bit

    of_set : (e : ℕ) × (bit_at (slice_index (ear_removal (sets_of (edges_of schema))).edges e) c ≡ 1)
        → IsUnfixed schema c
    of_set (e, bit) =
        of_edge (set_at (edges_of schema) e c
        (subst (λ xs. bit_at (slice_index xs e) c ≡ 1) (ear_removal-edges (sets_of (edges_of schema))) bit))

-- an unfixed class is the least parameter of its class, and its own slot
pub unfixed_itself : (schema : Schema) (c : ℕ) → IsUnfixed schema c → (c < length schema.parameters)
    × (slot_at (parameter_slots schema) c ≡ Class c)
unfixed_itself schema c (p, below, at) = own (class_of (equalities schema.condition) p) refl
    (sym (slot_is schema p below) ∙ at)
  where
    own : (d : ℕ) → class_of (equalities schema.condition) p ≡ d
        → slot_of_class schema (class_of (equalities schema.condition) p) ≡ Class c
        → (c < length schema.parameters) × (slot_at (parameter_slots schema) c ≡ Class c)
    own d is slot =
        let name : class_of (equalities schema.condition) p ≡ c =
        class_name _ (class_of (equalities schema.condition) p) c slot in
        let low = class_of-within (equalities schema.condition) p in
        let small : c < length schema.parameters = omega arith in (
          small,
          slot_is schema c small
              ∙ (ap (slot_of_class schema)
              (ap (class_of (equalities schema.condition)) (sym name)
              ∙ class_of-class (equalities schema.condition) p) ∙ slot),
        )
      where
        class_name : (found : Option ℕ) (a b : ℕ) → class_slot found a ≡ Class b → a ≡ b
        class_name None a b h = same_class a b h
        class_name (Some o) a b h = absurd (fixed_class o b h)

pub unfixed_in_order : (schema : Schema) (c : ℕ) → length schema.parameters ≤ 64 → IsUnfixed schema c
    → Contains (classes_in_order schema) c
unfolding classes_in_order
unfixed_in_order schema c few (p, below, at) =
    let own = unfixed_itself schema c (p, below, at) in
    let edge : Edge =
    record { source = source.Kind p; slots = Class c ∷ []; classes = class_set (Class c ∷ []) } in
    let among : Contains (edges_of schema) edge = type_edge_among schema p edge below
    (subst (λ s. Contains (type_edge p s) edge) (sym at) (Contains-cons_first edge [])) in
    let (e, low, is) = set_of (edges_of schema) edge among in
    let same = ear_removal-edges (sets_of (edges_of schema)) in
    order_contains (ear_removal (sets_of (edges_of schema))) e c (ear_removal-is (sets_of (edges_of schema)))
    (subst (λ xs. e < length xs) (sym same) low) (omega (arith, own.0, few))
    (ap (λ xs. bit_at (slice_index xs e) c) same
    ∙ (ap (λ x. bit_at x c) is ∙ (set_bits (Class c ∷ []) c).1 (Contains-cons_first (Class c) [])))

pub classes_once : (schema : Schema) → AllPairs (λ a b. a ≢ b) (classes_in_order schema)
unfolding classes_in_order
classes_once schema = first_once _

-- ---- the order of all parameters

is_among-true : (xs : List ℕ) (x : ℕ) → Contains xs x → is_among xs x ≡ true
is_among-true xs x h = one_passes (λ y. y == x) xs x h (eq-eqb x x refl)

true_among : (xs : List ℕ) (x : ℕ) → is_among xs x ≡ true → Contains xs x
true_among xs x h = let (y, among, same) = passing_one (λ y. y == x) xs h in
    subst (Contains xs) (eqb-true y x same) among

bool_cases : (b : Bool) → (b ≡ true) ⊎ (b ≡ false)
bool_cases true = inl refl
bool_cases false = inr refl

others_all : (n : ℕ) (xs : List ℕ) (p : ℕ) → p < n → Contains (then_others n xs) p
others_all n xs p h = elim (bool_cases (is_among xs p)) [
  | inl yes' ↦ Contains-append_left xs _ p (true_among xs p yes')
  | inr none ↦ Contains-append_right xs _ p
      (Contains-filter (λ q. not (is_among xs q)) (range_with_len 0 n) p (range_contains n p h) (ap not none))
]

others_below : (n : ℕ) (xs : List ℕ) (p : ℕ) → ((q : ℕ) → Contains xs q → q < n)
    → Contains (then_others n xs) p → p < n
others_below n xs p small h = elim (Contains-append_cases xs _ p h) [
  | inl first ↦ small p first
  | inr second ↦ within_range n p
      (Contains-from_filter (λ q. not (is_among xs q)) (range_with_len 0 n) p second).0
]

rises_once : (xs : List ℕ) → AllPairs (λ a b. a < b) xs → AllPairs (λ a b. a ≢ b) xs
rises_once xs up i j d h k e = let low = up i j d h k in omega arith

filter_once : (p : ℕ → Bool) (xs : List ℕ) → AllPairs (λ a b. a ≢ b) xs
    → AllPairs (λ a b. a ≢ b) (filter p xs)
filter_once p xs once = AllPairs-filter (λ a b. a ≢ b) p xs once

-- lists without repeats and without a common member
append_once : (xs ys : List ℕ) → AllPairs (λ a b. a ≢ b) xs → AllPairs (λ a b. a ≢ b) ys
    → ((x : ℕ) → Contains xs x → Contains ys x → ⊥) → AllPairs (λ a b. a ≢ b) (xs ++ ys)
append_once [] ys a b apart = b
append_once (x ∷ xs) ys a b apart =
    AllPairs-cons (λ u v. u ≢ v) x (xs ++ ys)
    (λ k d h e. elim
    (Contains-append_cases xs ys x
    (subst (Contains (xs ++ ys)) (sym e) (Contains-get_or (xs ++ ys) k d h))) [
      | inl old ↦ first_other x xs a old
      | inr new ↦ apart x (Contains-cons_first x xs) new
    ])
    (append_once xs ys (tail_once x xs a) b (λ y h k. apart y (Contains-cons_rest x xs y h) k))
  where
    first_other : (x : ℕ) (xs : List ℕ) → AllPairs (λ u v. u ≢ v) (x ∷ xs) → Contains xs x → ⊥
    first_other x xs once (k, low, at) = once 0 (suc k) x (omega arith) (omega arith) (sym at)

    tail_once : (x : ℕ) (xs : List ℕ) → AllPairs (λ u v. u ≢ v) (x ∷ xs) → AllPairs (λ u v. u ≢ v) xs
    tail_once x xs once i j d h k = once (suc i) (suc j) d (omega arith) (omega arith)

-- lists without repeats that have the same members are as long as each other
no_longer : (xs ys : List ℕ) → AllPairs (λ a b. a ≢ b) xs → ((x : ℕ) → Contains xs x → Contains ys x)
    → length xs ≤ length ys
no_longer xs ys once within =
    length-le_from_is_member nat_eq_equiv xs ys (IsDistinct-from_AllPairs Decides-eqb xs once)
    (λ x h. (is_member-Decides Decides-eqb ys x).1 (within x ((is_member-Decides Decides-eqb xs x).0 h)))

pub parameter_order-is : (schema : Schema) → IsOrderOfAll (length schema.parameters) (parameter_order schema)
unfolding parameter_order
parameter_order-is schema = record {
  once = once;
  all = λ p. (
    others_below (length schema.parameters) (classes_in_order schema) p small,
    others_all (length schema.parameters) (classes_in_order schema) p,
  );
  many = (
      let up = no_longer (then_others (length schema.parameters) (classes_in_order schema))
      (range_with_len 0 (length schema.parameters)) once
      (λ x h. range_contains (length schema.parameters) x
      (others_below (length schema.parameters) (classes_in_order schema) x small h)) in
      let down = no_longer (range_with_len 0 (length schema.parameters))
      (then_others (length schema.parameters) (classes_in_order schema))
      (rises_once (range_with_len 0 (length schema.parameters)) (range_rises (length schema.parameters)))
      (λ x h. others_all (length schema.parameters) (classes_in_order schema) x
      (within_range (length schema.parameters) x h)) in
      let long = length-range_with_len 0 (length schema.parameters) in omega arith
      );
}
  where
    small : (q : ℕ) → Contains (classes_in_order schema) q → q < length schema.parameters
    small q h = (unfixed_itself schema q (in_order_unfixed schema q h)).0

    once : AllPairs (λ a b. a ≢ b) (then_others (length schema.parameters) (classes_in_order schema))
    once = append_once (classes_in_order schema) _ (classes_once schema)
        (filter_once (λ q. not (is_among (classes_in_order schema) q)) _
        (rises_once _ (range_rises (length schema.parameters))))
        (λ x h k. not_both (is_among (classes_in_order schema) x)
        (is_among-true (classes_in_order schema) x h)
        (Contains-from_filter (λ q. not (is_among (classes_in_order schema) q))
        (range_with_len 0 (length schema.parameters)) x k).1)
      where
        not_both : (b : Bool) → b ≡ true → not b ≡ true → ⊥
        not_both b h k = false≢true (ap not (sym h) ∙ k)
