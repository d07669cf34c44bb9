-- Selections by slots that are just classes, each once: the rows are the table's.
use Rattle.std.proofs.Common.{◌≡◌, ◌↔◌, ◌+◌, ◌<◌, ◌≤◌, ◌||◌, ℕ, false, List, [], ◌∷◌, ◌++◌, length}
use Rattle.std.proofs.Common.{map, take, get_or, All, Contains, refl, sym, ap, ◌∙◌, subst, arith}
use Rattle.std.specs.List.{AllPairs, list_any}
use Rattle.std.proofs.Math.Bool.{or-false}
use Rattle.std.proofs.lemmas.Bool.{ne_eqb}
use Rattle.std.proofs.lemmas.List.{get_or-take, get_or_default, length-take-le, map_push, take_more}
use Rattle.std.proofs.lemmas.List.Elements.{All-push, All-weaker, Contains-get_or, Contains-push}
use Rattle.std.proofs.lemmas.List.Folds.{list_any-append}
use Rattle.std.proofs.lemmas.List.Quantifiers.{all_pairs_push}
use Rattle.pl_rows.specs.Rows.{Rows}
use Rattle.pl_join.specs.declared.slot.Slot.{Slot}
use Rattle.pl_join.specs.declared.slot.Slot.TheVariants.{Class}
use Rattle.pl_join.specs.Relation.{ClassRows, Assignment, AreClassesOf, AreDistinct, IsSelectionOf}
use Rattle.pl_join.specs.Relation.{IsSlotBelow, slot_value, slot_is, classes_in}
use Rattle.pl_join.specs.Source.{AreRisingClasses, StandInOrder, number_in}
use Rattle.pl_join.proofs.Members.{Contains-map, Contains-from_map}
use Rattle.pl_join.proofs.Gathering.{in_order, one_stands, one_lacks}
use Rattle.pl_join.proofs.Selecting.{filter_agree}

-- ---- slots that are classes

-- the classes as slots have the values of the classes
slots_values : (classes : List ℕ) (f : Assignment) → map (slot_value f) (map Class classes) ≡ map f classes
slots_values [] f = refl
slots_values (c ∷ classes) f = ap (λ values. f c ∷ values) (slots_values classes f)

-- and their numbers are the classes
numbers_are : (classes : List ℕ) → map number_in (map Class classes) ≡ classes
numbers_are [] = refl
numbers_are (c ∷ classes) = ap (λ numbers. c ∷ numbers) (numbers_are classes)

same_class : (b c : ℕ) → Class b ≡ Class c → b ≡ c
same_class b c e = cc

-- a class stands in the slots that are these classes exactly if it is one of them
class_held : (classes : List ℕ) (c : ℕ) → Contains (map Class classes) (Class c) → Contains classes c
class_held classes c h =
    let (b, held, e) = Contains-from_map Class classes (Class c) h in
    subst (Contains classes) (same_class b c e) held

pub just_below : (slots : List Slot) (classes : List ℕ) → slots ≡ map Class classes
    → All (IsSlotBelow 64) slots → All (λ c. c < 64) classes
just_below slots classes just below k d low =
    let c : ℕ = get_or classes k d in
    let (j, within, is) = subst (λ xs. Contains xs (Class c)) (sym just)
    (Contains-map Class classes c (Contains-get_or classes k d low)) in
    below j (Class c) within c is

-- the selection by them is the table
pub just_selected : (rows : List (List ℕ)) (slots : List Slot) (classes : List ℕ) (made : Rows)
    (result : ClassRows) → slots ≡ map Class classes → made.rows ≡ rows
    → result ≡ record { classes = classes; rows = made.rows } → IsSelectionOf rows slots result
just_selected rows slots classes made result are same er =
    rw (er, same)
    (λ f. subst (λ values. Contains rows (map f classes) ↔ Contains rows values)
    (sym (slots_values classes f) ∙ sym (ap (map (slot_value f)) are)) (λ h. h, λ h. h))

-- ---- slots that are rising classes

-- what the loop over the slots keeps
pub record AreRisingBelow (limit : ℕ) (slots : List Slot) : Type 0 where
  pub are : AreRisingClasses slots
  pub under : All (λ c. c < limit) (map number_in slots)

-- a class more
pub rising_more : (slots : List Slot) (i limit class : ℕ) (d : Slot) → i < length slots
    → AreRisingBelow limit (take i slots) → get_or slots i d ≡ Class class → limit ≤ class
    → AreRisingBelow (class + 1) (take (i + 1) slots)
rising_more slots i limit class d low before here above =
    subst (AreRisingBelow (class + 1)) (sym parts) (record {
      are = record {
        just = ap (λ xs. xs ++ Class class ∷ []) before.are.just ∙ sym (map_push Class numbers class)
            ∙ ap (map Class) (sym pushed);
        rising = subst (AllPairs (λ a b. a < b)) (sym pushed)
            (all_pairs_push (λ a b. a < b) numbers class before.are.rising
            (All-weaker (λ c. c < limit) (λ c. c < class) (λ c h. omega (arith, h, above)) numbers
            before.under));
      };
      under = subst (All (λ c. c < class + 1)) (sym pushed)
          (All-push (λ c. c < class + 1) numbers class
          (All-weaker (λ c. c < limit) (λ c. c < class + 1) (λ c h. omega (arith, h, above)) numbers
          before.under) (omega arith));
    })
  where
    numbers : List ℕ
    numbers = map number_in (take i slots)

    parts : take (i + 1) slots ≡ take i slots ++ Class class ∷ []
    parts = take_more slots i d low ∙ ap (λ s. take i slots ++ s ∷ []) here

    pushed : map number_in (take i slots ++ Class class ∷ []) ≡ numbers ++ class ∷ []
    pushed = map_push number_in (take i slots) (Class class)

-- they are the classes of the slots
pub rising_are : (slots : List Slot) → AreRisingClasses slots → AreClassesOf slots (map number_in slots)
rising_are slots are = record {
  rising = are.rising;
  members = λ c. (
    λ h. subst (λ xs. Contains xs (Class c)) (sym are.just) (Contains-map Class (map number_in slots) c h),
    λ h. class_held (map number_in slots) c (subst (λ xs. Contains xs (Class c)) are.just h),
  );
}

-- ---- slots that are classes in an order

-- a class that no done one is changes nothing for these
others_same : (done : List ℕ) (before : List Slot) (c : ℕ) → (Contains done c → ⊥)
    → classes_in done (before ++ Class c ∷ []) ≡ classes_in done before
others_same done before c fresh =
    filter_agree (λ k. list_any (slot_is k) (before ++ Class c ∷ [])) (λ k. list_any (slot_is k) before) done
    (λ i d low. same (get_or done i d)
    (λ e. fresh (subst (Contains done) (sym e) (Contains-get_or done i d low))))
  where
    same : (k : ℕ) → (c ≡ k → ⊥) → list_any (slot_is k) (before ++ Class c ∷ []) ≡ list_any (slot_is k) before
    same k differ = list_any-append (slot_is k) before (Class c ∷ [])
        ∙ ap (λ b. list_any (slot_is k) before || (b || false)) (ne_eqb c k differ)
        ∙ or-false (list_any (slot_is k) before)

-- a class more that stands next in the slots
pub passed_more : (done : List ℕ) (slots : List Slot) (place c : ℕ) (d : Slot) → place < length slots
    → get_or slots place d ≡ Class c → (Contains done c → ⊥) → StandInOrder done (take place slots)
    → StandInOrder (done ++ c ∷ []) (take (place + 1) slots)
passed_more done slots place c d low here fresh before =
    subst (StandInOrder (done ++ c ∷ [])) (sym parts)
    (ap (λ xs. xs ++ Class c ∷ []) before ∙ sym (map_push Class (classes_in done (take place slots)) c)
    ∙ ap (map Class) (sym classes))
  where
    parts : take (place + 1) slots ≡ take place slots ++ Class c ∷ []
    parts = take_more slots place d low ∙ ap (λ s. take place slots ++ s ∷ []) here

    classes : classes_in (done ++ c ∷ []) (take place slots ++ Class c ∷ [])
        ≡ classes_in done (take place slots) ++ c ∷ []
    classes = one_stands (take place slots ++ Class c ∷ []) done c
        (Contains-push (take place slots) (Class c))
        ∙ ap (λ cs. cs ++ c ∷ []) (others_same done (take place slots) c fresh)

-- a class more that doesn't
pub passed_skip : (done : List ℕ) (slots : List Slot) (c : ℕ) → (Contains done c → ⊥)
    → StandInOrder done slots → StandInOrder (done ++ c ∷ []) slots
passed_skip done slots c fresh before =
    before ∙ ap (map Class) (sym (one_lacks slots done c
    (λ h. fresh ((in_order done slots c).0 (class_held (classes_in done slots) c
    (subst (λ xs. Contains xs (Class c)) before h))).0)))

-- the next class of the order is none of those before it
pub next_fresh : (order : List ℕ) (i d : ℕ) → i < length order → AreDistinct order
    → Contains (take i order) (get_or order i d) → ⊥
next_fresh order i d low distinct (k, within, is) =
    let below : k < i = omega (arith, within, length-take-le i order (omega (arith, low))) in
    distinct k i (get_or order i d) below low
    (sym (get_or-take i order k (get_or order i d) below) ∙ is
    ∙ get_or_default order i d (get_or order i d) low)

-- the numbers of slots that stand in an order are its classes that they have
pub numbers_in_order : (order : List ℕ) (slots : List Slot) → StandInOrder order slots
    → map number_in slots ≡ classes_in order slots
numbers_in_order order slots stand = ap (map number_in) stand ∙ numbers_are (classes_in order slots)
