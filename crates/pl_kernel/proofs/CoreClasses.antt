-- The classes of a core's relations, in the order in which a walk over its edges meets them.
use Rattle.std.proofs.Common.{◌≡◌, ◌↔◌, ◌<◌, ℕ, zero, suc, List, [], ◌∷◌, ◌++◌, length, get_or, Contains, All}
use Rattle.std.proofs.Common.{refl, ap, ◌∙◌, arith}
use Rattle.std.specs.Prelude.{slice_index, slice_index_or}
use Rattle.std.specs.List.{flat_map}
use Rattle.std.proofs.lemmas.List.Elements.{Contains-get_or}
use Rattle.pl_hyper.specs.Edges.{Holds}
use Rattle.pl_hyper.specs.ClassOrder.{classes_of, first_appearances}
use Rattle.pl_hyper.proofs.Orders.{in_classes, classes_contain, classes_rise}
use Rattle.pl_hyper.proofs.Rising.{same_rising}
use Rattle.pl_join.specs.Relation.{ClassRows, Holds as IsHeld, IsJoinOfAll}
use Rattle.pl_kernel.specs.ClassesByAppearance.{rising, classes_by_appearance}
use Rattle.pl_kernel.proofs.Meeting.{rising_rises, rising_contains}

all_members : (P : ℕ → Type 0) (xs : List ℕ) → ((x : ℕ) → Contains xs x → P x) → All P xs
all_members P xs h k d l = h (get_or xs k d) (Contains-get_or xs k d l)

-- the classes of one relation that is over an edge
rising_is : (edge : ℕ) (classes : List ℕ) → ((c : ℕ) → Contains classes c ↔ Contains (classes_of edge) c)
    → rising classes ≡ classes_of edge
rising_is edge classes same =
    let below : All (λ c. c < 64) classes = all_members (λ c. c < 64) classes
    (λ c h. (in_classes edge c ((same c).0 h)).0) in
    same_rising (rising classes) (classes_of edge) (rising_rises classes) (classes_rise edge) (λ c. (
      λ h. (same c).0 ((rising_contains classes below c).0 h),
      λ h. (rising_contains classes below c).1 ((same c).1 h),
    ))

-- those of all of them
all_rising : (edges core : List ℕ) (relations : List ClassRows) → length relations ≡ length core
    → ((i c : ℕ) (d : ClassRows) → i < length core → Contains (slice_index_or relations i d).classes c
    ↔ ((c < 64) × Holds edges (slice_index core i) c))
    → flat_map (λ (r : ClassRows). rising r.classes) relations ≡ flat_map
    (λ e. classes_of (slice_index edges e)) core
all_rising edges [] [] many over = refl
all_rising edges [] (r ∷ rs) many over = absurd (omega arith)
all_rising edges (e ∷ es) [] many over = absurd (omega arith)
all_rising edges (e ∷ es) (r ∷ rs) many over =
    let first : rising r.classes ≡ classes_of (slice_index edges e) =
    rising_is (slice_index edges e) r.classes (λ c. (
      λ h. (let both = (over 0 c r (omega arith)).0 h in classes_contain
          (slice_index edges e) c both.0 both.1),
      λ h. (over 0 c r (omega arith)).1 (in_classes (slice_index edges e) c h),
    )) in
    let rest = all_rising edges es rs (omega arith) (λ i c d l. over (suc i) c d (omega arith)) in
    ap (λ xs. xs ++ flat_map (λ (x : ClassRows). rising x.classes) rs) first
    ∙ ap (λ xs. classes_of (slice_index edges e) ++ xs) rest

pub core_classes : (edges core : List ℕ) (relations : List ClassRows) → length relations ≡ length core
    → ((i c : ℕ) (d : ClassRows) → i < length core → Contains (slice_index_or relations i d).classes c
    ↔ ((c < 64) × Holds edges (slice_index core i) c))
    → classes_by_appearance relations ≡ first_appearances
    (flat_map (λ e. classes_of (slice_index edges e)) core)
core_classes edges core relations many over = ap first_appearances (all_rising edges core relations many over)

pub join_of_one : (relation : ClassRows) → IsJoinOfAll (relation ∷ []) relation
join_of_one relation f = (λ h k d l. at k d l h, λ all. all 0 relation (omega arith))
  where
    at : (k : ℕ) (d : ClassRows) → k < 1 → IsHeld relation f → IsHeld (get_or (relation ∷ []) k d) f
    at zero d l h = h
    at (suc k) d l h = absurd (omega arith)
