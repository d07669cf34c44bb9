-- Relations as sets of assignments, and what the join, the projection, the semijoin and the selections of
-- relations are.
use Rattle.std.specs.Prelude.{◌≡◌, ◌≢◌, ◌↔◌, ◌<◌, ℕ, List, length, map, All, Contains, not, filter, Bool}
use Rattle.std.specs.Prelude.{false}
use Rattle.std.specs.List.{AllPairs, list_any}
use Rattle.std.specs.Prelude.{◌==◌}
use Rattle.pl_rows.specs.Rows.{AreRows}
use Rattle.pl_join.specs.declared.slot.Slot.{Slot}
use Rattle.pl_join.specs.declared.slot.Slot.TheVariants.{Fixed, Class}

-- a value for each class
abbrev pub Assignment : Type 0
Assignment = ℕ → ℕ

-- a relation as its callers see it: its classes, and its rows, with one value for each class, in the order of
-- the classes
pub record ClassRows : Type 0 where
  pub classes : List ℕ
  pub rows : List (List ℕ)

-- no class stands twice
abbrev pub AreDistinct : List ℕ → Type 0
AreDistinct classes = AllPairs (λ a b. a ≢ b) classes

-- what every relation keeps: distinct classes below 64, and the rows of a table with one column for each of
-- them
pub record IsRelation (relation : ClassRows) : Type 0 where
  pub distinct : AreDistinct relation.classes
  pub below : All (λ c. c < 64) relation.classes
  pub rows : AreRows (length relation.classes) relation.rows

-- the assignment is one of the relation's: the values of the relation's classes are one of its rows
abbrev pub Holds : ClassRows → Assignment → Type 0
Holds relation f = Contains relation.rows (map f relation.classes)

-- the two assignments give each of these classes the same value
abbrev pub Agree : List ℕ → Assignment → Assignment → Type 0
Agree classes f g = (c : ℕ) → Contains classes c → f c ≡ g c

-- the two assignments agree on the classes that both relations have
abbrev pub AgreeOnShared : ClassRows → ClassRows → Assignment → Assignment → Type 0
AgreeOnShared left right f g = (c : ℕ) → Contains left.classes c → Contains right.classes c → f c ≡ g c

-- the projection onto the classes of `to`: the assignments of `from`, as far as these classes
abbrev pub IsProjectionOf : ClassRows → ClassRows → Type 0
IsProjectionOf from to = (f : Assignment) → Holds to f
    ↔ ((g : Assignment) × Holds from g × Agree to.classes f g)

-- the join: the assignments whose part on each relation's classes is in that relation
abbrev pub IsJoinOf : ClassRows → ClassRows → ClassRows → Type 0
IsJoinOf left right joined = (f : Assignment) → Holds joined f ↔ (Holds left f × Holds right f)

-- the semijoin: the assignments of `keep` that agree with one of `by` on all classes that the two share
abbrev pub IsSemijoinOf : ClassRows → ClassRows → ClassRows → Type 0
IsSemijoinOf keep by kept =
    (f : Assignment) → Holds kept f
    ↔ (Holds keep f × ((g : Assignment) × Holds by g × AgreeOnShared keep by f g))

-- the assignment is one of each relation's
abbrev pub HoldsAll : List ClassRows → Assignment → Type 0
HoldsAll relations f = All (λ relation. Holds relation f) relations

-- the join of several relations: the assignments whose part on each relation's classes is in that relation
abbrev pub IsJoinOfAll : List ClassRows → ClassRows → Type 0
IsJoinOfAll relations joined = (f : Assignment) → Holds joined f ↔ HoldsAll relations f

-- the value of a slot: a fixed one, or that of its class
abbrev pub slot_value : Assignment → Slot → ℕ
slot_value f (Fixed value) = value
slot_value f (Class class) = f class

-- the selection: the assignments under which the values of the slots are a row of the table
abbrev pub IsSelectionOf : List (List ℕ) → List Slot → ClassRows → Type 0
IsSelectionOf rows slots selected = (f : Assignment) → Holds selected f
    ↔ Contains rows (map (slot_value f) slots)

-- these are the classes of the slots, each once, by rising number
pub record AreClassesOf (slots : List Slot) (classes : List ℕ) : Type 0 where
  pub rising : AllPairs (λ a b. a < b) classes
  pub members : (c : ℕ) → Contains classes c ↔ Contains slots (Class c)

-- whether the slot is this class
abbrev pub slot_is : ℕ → Slot → Bool
slot_is c (Fixed value) = false
slot_is c (Class class) = class == c

-- the classes of an order that stand in the slots, in this order
abbrev pub classes_in : List ℕ → List Slot → List ℕ
classes_in order slots = filter (λ c. list_any (slot_is c) slots) order

-- the slot's class, where it has one, is among these
abbrev pub IsSlotOver : List ℕ → Slot → Type 0
IsSlotOver classes slot = (c : ℕ) → slot ≡ Class c → Contains classes c

-- the slot's class, where it has one, is below the limit
abbrev pub IsSlotBelow : ℕ → Slot → Type 0
IsSlotBelow limit slot = (c : ℕ) → slot ≡ Class c → c < limit

-- the assignments of a relation that give two slots different values
abbrev pub AreUnequalOf : ClassRows → Slot → Slot → ClassRows → Type 0
AreUnequalOf relation a b kept = (f : Assignment) → Holds kept f
    ↔ (Holds relation f × (slot_value f a ≢ slot_value f b))

-- the assignments of a relation under which the values of the slots are no row of the table
abbrev pub AreAbsentOf : ClassRows → List (List ℕ) → List Slot → ClassRows → Type 0
AreAbsentOf relation rows slots kept =
    (f : Assignment) → Holds kept f ↔ (Holds relation f × (Contains rows (map (slot_value f) slots) → ⊥))

-- whether the class is among these
abbrev pub has_class : List ℕ → ℕ → Bool
has_class classes c = list_any (λ k. k == c) classes

-- the classes that are not among the others, in their order
abbrev pub without : List ℕ → List ℕ → List ℕ
without classes others = filter (λ c. not (has_class others c)) classes
