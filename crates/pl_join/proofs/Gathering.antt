-- Gathering the classes of slots in an order.
use Rattle.std.proofs.Common.{◌≡◌, ◌≢◌, ◌↔◌, ◌+◌, ◌<◌, ℕ, Bool, true, false, cond, List, [], ◌∷◌, ◌++◌}
use Rattle.std.proofs.Common.{length}
use Rattle.std.proofs.Common.{map, get_or, slice_get, Some, All, Contains, refl, sym, ap, ◌∙◌, subst}
use Rattle.std.proofs.Common.{inl, inr, arith}
use Rattle.std.specs.List.{AllPairs, list_any}
use Rattle.std.proofs.lemmas.Bool.{cases_Bool, cases_lt, false≢true}
use Rattle.std.proofs.lemmas.Bool.Decides.{Decides-eqb}
use Rattle.std.proofs.lemmas.List.{append-nil, get_or-map, length_push, map_push}
use Rattle.std.proofs.lemmas.List.Elements.{All-nil, All-push, All-weaker, All-contains, Contains-append_left}
use Rattle.std.proofs.lemmas.List.Elements.{Contains-get_or, Contains-push, filter-append}
use Rattle.std.proofs.lemmas.List.Kept.{AllPairs-filter}
use Rattle.std.proofs.lemmas.List.Quantifiers.{all_pairs_push}
use Rattle.std.proofs.lemmas.Option.{slice_get_within, get_or_from_slice_get}
use Rattle.pl_rows.proofs.Canonical.{Contains-nil, Contains-cons_cases, Contains-cons_first}
use Rattle.pl_rows.proofs.Canonical.{Contains-cons_rest}
use Rattle.pl_join.specs.declared.slot.Slot.{Slot}
use Rattle.pl_join.specs.declared.slot.Slot.TheVariants.{Fixed, Class}
use Rattle.pl_join.specs.Relation.{Assignment, AreDistinct, AreClassesOf, IsSlotOver, IsSlotBelow, slot_value}
use Rattle.pl_join.specs.Relation.{slot_is, classes_in}
use Rattle.pl_join.specs.Source.{AreNumbersBelow, IsGathered, picked}
use Rattle.pl_join.proofs.Members.{Contains-filter, Contains-from_filter}

-- ---- the classes that stand in slots

slot_class : (c : ℕ) (slot : Slot) → slot_is c slot ≡ true → slot ≡ Class c
slot_class c (Fixed value) h = absurd (false≢true h)
slot_class c (Class class) h = ap Class ((Decides-eqb class c).0 h)

class_slot : (c : ℕ) → slot_is c (Class c) ≡ true
class_slot c = (Decides-eqb c c).1 refl

any_slot : (c : ℕ) (slots : List Slot) → list_any (slot_is c) slots ≡ true → Contains slots (Class c)
any_slot c [] h = absurd (false≢true h)
any_slot c (slot ∷ slots) h = elim (cases_Bool (slot_is c slot)) [
  | inl y ↦ subst (Contains (slot ∷ slots)) (slot_class c slot y) (Contains-cons_first slot slots)
  | inr n ↦ Contains-cons_rest slot slots (Class c) (any_slot c slots (rw n at h))
]

slot_any : (c : ℕ) (slots : List Slot) → Contains slots (Class c) → list_any (slot_is c) slots ≡ true
slot_any c [] h = absurd (Contains-nil (Class c) h)
slot_any c (slot ∷ slots) h = elim (Contains-cons_cases slot slots (Class c) h) [
  | inl e ↦ (let here : slot_is c slot ≡ true = ap (slot_is c) e ∙ class_slot c in rw here refl)
  | inr r ↦ elim (cases_Bool (slot_is c slot)) [
    | inl y ↦ rw y refl
    | inr n ↦ rw n (slot_any c slots r)
  ]
]

-- the classes in an order are those of the slots, as far as the order has them
pub in_order : (order : List ℕ) (slots : List Slot) (c : ℕ) → Contains (classes_in order slots) c
    ↔ (Contains order c × Contains slots (Class c))
in_order order slots c = (
  λ h. (let (held, stands) = Contains-from_filter (λ k. list_any (slot_is k) slots) order c h in
      (held, any_slot c slots stands)),
  λ (held, stands). Contains-filter (λ k. list_any (slot_is k) slots) order c held (slot_any c slots stands),
)

pub in_order_distinct : (order : List ℕ) (slots : List Slot) → AreDistinct order
    → AreDistinct (classes_in order slots)
in_order_distinct order slots once = AllPairs-filter (λ a b. a ≢ b) (λ c. list_any (slot_is c) slots) order
    once

pub in_order_below : (order : List ℕ) (slots : List Slot) → All (IsSlotBelow 64) slots
    → All (λ c. c < 64) (classes_in order slots)
in_order_below order slots below k d low =
    let c : ℕ = get_or (classes_in order slots) k d in
    let stands = ((in_order order slots c).0 (Contains-get_or (classes_in order slots) k d low)).1 in
    All-contains (IsSlotBelow 64) slots (Class c) below stands c refl

-- the slots are over them
pub in_order_over : (order : List ℕ) (slots : List Slot) → All (IsSlotOver order) slots
    → All (IsSlotOver (classes_in order slots)) slots
in_order_over order slots held k d low c is =
    (in_order order slots c).1 (held k d low c is, subst (Contains slots) is (Contains-get_or slots k d low))

-- ---- the loop over the order

pub gathered_none : (slots : List Slot) → IsGathered slots [] [] []
gathered_none slots = record {
  classes_are = refl;
  places = record { len = refl; within = All-nil (λ column. column < length slots); values = λ f. refl };
}

one_more : (slots : List Slot) (done : List ℕ) (c : ℕ) → classes_in (done ++ c ∷ []) slots
    ≡ classes_in done slots ++ cond (list_any (slot_is c) slots) (c ∷ []) []
one_more slots done c = filter-append (λ k. list_any (slot_is k) slots) done (c ∷ [])
    ∙ ap (λ cs. classes_in done slots ++ cs) (last (list_any (slot_is c) slots) refl)
  where
    last : (b : Bool) → list_any (slot_is c) slots ≡ b
        → classes_in (c ∷ []) slots ≡ cond (list_any (slot_is c) slots) (c ∷ []) []
    last true h = rw h refl
    last false h = rw h refl

-- a class more that stands in the slots
pub one_stands : (slots : List Slot) (done : List ℕ) (c : ℕ) → Contains slots (Class c)
    → classes_in (done ++ c ∷ []) slots ≡ classes_in done slots ++ c ∷ []
one_stands slots done c stands =
    one_more slots done c ∙ ap (λ b. classes_in done slots ++ cond b (c ∷ []) []) (slot_any c slots stands)

-- a class more that doesn't
pub one_lacks : (slots : List Slot) (done : List ℕ) (c : ℕ) → (Contains slots (Class c) → ⊥)
    → classes_in (done ++ c ∷ []) slots ≡ classes_in done slots
one_lacks slots done c none = one_more slots done c
    ∙ ap (λ b. classes_in done slots ++ cond b (c ∷ []) []) lacks ∙ append-nil (classes_in done slots)
  where
    lacks : list_any (slot_is c) slots ≡ false
    lacks = elim (cases_Bool (list_any (slot_is c) slots)) [
      | inl y ↦ absurd (none (any_slot c slots y))
      | inr n ↦ n
    ]

pub gathered_more : (slots : List Slot) (done classes columns : List ℕ) (c place : ℕ)
    → IsGathered slots done classes columns → slice_get slots place ≡ Some (Class c)
    → IsGathered slots (done ++ c ∷ []) (classes ++ c ∷ []) (columns ++ place ∷ [])
gathered_more slots done classes columns c place g at = record {
  classes_are = ap (λ cs. cs ++ c ∷ []) g.classes_are ∙ sym (one_stands slots done c found);
  places = record {
    len = omega (arith, length_push columns place, length_push classes c, g.places.len);
    within = All-push (λ column. column < length slots) columns place g.places.within within;
    values = values;
  };
}
  where
    within : place < length slots
    within = slice_get_within slots place (Class c) at

    found : Contains slots (Class c)
    found = (place, within, get_or_from_slice_get slots place (Class c) (Class c) at)

    values : (f : Assignment) → picked (columns ++ place ∷ []) (map (slot_value f) slots) ≡ map f
        (classes ++ c ∷ [])
    values f =
        let here : get_or (map (slot_value f) slots) place 0 ≡ f c =
        get_or-map (slot_value f) slots place (Class c) 0 within
        ∙ ap (slot_value f) (get_or_from_slice_get slots place (Class c) (Class c) at) in
        map_push (λ column. get_or (map (slot_value f) slots) column 0) columns place
        ∙ ap (λ values. values ++ get_or (map (slot_value f) slots) place 0 ∷ []) (g.places.values f)
        ∙ ap (λ value. map f classes ++ value ∷ []) here
        ∙ sym (map_push f classes c)

pub gathered_skip : (slots : List Slot) (done classes columns : List ℕ) (c : ℕ)
    → IsGathered slots done classes columns → (Contains slots (Class c) → ⊥)
    → IsGathered slots (done ++ c ∷ []) classes columns
gathered_skip slots done classes columns c g none = record {
  classes_are = g.classes_are ∙ sym (one_lacks slots done c none);
  places = g.places;
}

-- ---- the order by rising number

pub no_numbers : AreNumbersBelow 0 []
no_numbers = record {
  rising = λ i j d l m. absurd (omega arith);
  below = All-nil (λ c. c < 0);
  all = λ c low. absurd (omega (arith, low));
}

pub numbers_more : (numbers : List ℕ) (n : ℕ) → AreNumbersBelow n numbers
    → AreNumbersBelow (n + 1) (numbers ++ n ∷ [])
numbers_more numbers n are = record {
  rising = all_pairs_push (λ a b. a < b) numbers n are.rising are.below;
  below = All-push (λ c. c < n + 1) numbers n
      (All-weaker (λ c. c < n) (λ c. c < n + 1) (λ c h. omega arith) numbers are.below) (omega arith);
  all = λ c low. elim (cases_lt c n) [
    | inl lt ↦ Contains-append_left numbers (n ∷ []) c (are.all c lt)
    | inr ge ↦ (let e : n ≡ c = omega (arith, low, ge) in subst (Contains (numbers ++ n ∷ [])) e
        (Contains-push numbers n))
  ];
}

pub rising_distinct : (classes : List ℕ) → AllPairs (λ a b. a < b) classes → AreDistinct classes
rising_distinct classes rising i j d l m e = let below = rising i j d l m in omega (arith, below, e)

-- the numbers below a limit have the classes of slots that are below it
pub numbers_held : (slots : List Slot) (numbers : List ℕ) (limit : ℕ) → AreNumbersBelow limit numbers
    → All (IsSlotBelow limit) slots → All (IsSlotOver numbers) slots
numbers_held slots numbers limit are below k d low c is = are.all c (below k d low c is)

pub rising_classes : (slots : List Slot) (numbers : List ℕ) (limit : ℕ) → AreNumbersBelow limit numbers
    → All (IsSlotBelow limit) slots → AreClassesOf slots (classes_in numbers slots)
rising_classes slots numbers limit are below = record {
  rising = AllPairs-filter (λ a b. a < b) (λ c. list_any (slot_is c) slots) numbers are.rising;
  members = λ c. (
    λ h. ((in_order numbers slots c).0 h).1,
    λ h. (in_order numbers slots c).1
        (are.all c (All-contains (IsSlotBelow limit) slots (Class c) below h c refl), h),
  );
}
