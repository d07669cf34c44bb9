-- The classes of relations in the order in which they are met.
use Rattle.std.proofs.Common.{◌≡◌, ◌↔◌, ◌<◌, ◌≤◌, ◌+◌, ℕ, true, false, not, cond, List, [], ◌∷◌, ◌++◌, length}
use Rattle.std.proofs.Common.{take, get_or, filter, Contains, All, refl, sym, ap, ◌∙◌, subst, arith}
use Rattle.std.proofs.Common.{append-nil, map-id}
use Rattle.std.specs.List.{AllPairs, flat_map, range_with_len}
use Rattle.std.proofs.lemmas.Bool.Decides.{same_from_decides}
use Rattle.std.proofs.lemmas.List.{take_more, take_all}
use Rattle.std.proofs.lemmas.List.Concat.{flat_map-append}
use Rattle.std.proofs.lemmas.List.Elements.{All-contains, All-more, filter-append, filter_agree}
use Rattle.std.proofs.lemmas.List.FromFn.{filter_of_map_range_with_len_more}
use Rattle.std.proofs.lemmas.List.Kept.{AllPairs-filter}
use Rattle.pl_hyper.specs.ClassOrder.{first_appearances}
use Rattle.pl_hyper.proofs.Members.{range_contains, range_rises}
use Rattle.pl_hyper.proofs.Orders.{member, member_contains, contains_member, first_appearances-append}
use Rattle.pl_hyper.proofs.Orders.{first_appearances-rising, first_contains, within_first, first_once}
use Rattle.pl_join.specs.Relation.{ClassRows, AreDistinct, has_class, without}
use Rattle.pl_join.proofs.Members.{Contains-filter, Contains-from_filter, Contains-flat_map}
use Rattle.pl_join.proofs.Members.{Contains-from_flat_map, has_class-Contains}
use Rattle.pl_kernel.specs.ClassesByAppearance.{rising_below, rising, classes_by_appearance}
use Rattle.pl_kernel.specs.Joining.{IsClassOf}

-- ---- the classes of one relation, rising

rising_below-more : (n : ℕ) (classes : List ℕ) → rising_below (n + 1) classes ≡ rising_below n classes
    ++ cond (has_class classes n) (n ∷ []) []
rising_below-more n classes = simp map-id at
    (filter_of_map_range_with_len_more (has_class classes) (λ x. x) 0 n n (omega arith))

without_more : (n : ℕ) (classes met : List ℕ) → without (rising_below (n + 1) classes) met ≡ without
    (rising_below n classes) met ++ without (cond (has_class classes n) (n ∷ []) []) met
without_more n classes met =
    ap (λ cs. without cs met) (rising_below-more n classes)
    ∙ filter-append (λ c. not (has_class met c)) (rising_below n classes)
    (cond (has_class classes n) (n ∷ []) [])

-- a class that the relation has, and that was not met
pub fresh_more : (n : ℕ) (classes met fresh : List ℕ) → has_class classes n ≡ true → has_class met n ≡ false
    → fresh ≡ without (rising_below n classes) met → fresh
    ++ n ∷ [] ≡ without (rising_below (n + 1) classes) met
fresh_more n classes met fresh has unmet e =
    ap (λ cs. cs ++ n ∷ []) e ∙ sym (without_more n classes met ∙ rw (has, unmet) refl)

-- a class that the relation lacks
pub fresh_lacking : (n : ℕ) (classes met fresh : List ℕ) → has_class classes n ≡ false
    → fresh ≡ without (rising_below n classes) met → fresh ≡ without (rising_below (n + 1) classes) met
fresh_lacking n classes met fresh lacks e = e
    ∙ sym (without_more n classes met ∙ rw lacks (append-nil (without (rising_below n classes) met)))

-- a class that was met before
pub fresh_met : (n : ℕ) (classes met fresh : List ℕ) → has_class classes n ≡ true → has_class met n ≡ true
    → fresh ≡ without (rising_below n classes) met → fresh ≡ without (rising_below (n + 1) classes) met
fresh_met n classes met fresh has known e = e
    ∙ sym (without_more n classes met ∙ rw (has, known) (append-nil (without (rising_below n classes) met)))

pub fresh_all : (n : ℕ) (classes met fresh : List ℕ) → n ≡ 64 → fresh ≡ without (rising_below n classes) met
    → fresh ≡ without (rising classes) met
unfolding rising
fresh_all n classes met fresh e so_far = so_far ∙ ap (λ m. without (rising_below m classes) met) e

rising_below-rises : (n : ℕ) (classes : List ℕ) → AllPairs (λ a b. a < b) (rising_below n classes)
rising_below-rises n classes = AllPairs-filter (λ a b. a < b) (has_class classes) (range_with_len 0 n)
    (range_rises n)

pub rising_rises : (classes : List ℕ) → AllPairs (λ a b. a < b) (rising classes)
unfolding rising
rising_rises classes = rising_below-rises 64 classes

rising_below-contains : (n : ℕ) (classes : List ℕ) → All (λ c. c < n) classes → (c : ℕ)
    → Contains (rising_below n classes) c ↔ Contains classes c
rising_below-contains n classes below c = (
  λ h. (has_class-Contains classes c).0 (Contains-from_filter (has_class classes) (range_with_len 0 n) c h).1,
  λ h. Contains-filter (has_class classes) (range_with_len 0 n) c
      (range_contains n c (All-contains (λ k. k < n) classes c below h)) ((has_class-Contains classes c).1 h),
)

pub rising_contains : (classes : List ℕ) → All (λ c. c < 64) classes → (c : ℕ) → Contains (rising classes) c
    ↔ Contains classes c
unfolding rising
rising_contains classes below c = rising_below-contains 64 classes below c

-- ---- a relation more

-- the two tests of membership give the same answer, whether all classes are looked at or each at its first
-- appearance
same_test : (classes : List ℕ) (c : ℕ) → member classes c ≡ has_class (first_appearances classes) c
same_test classes c = same_from_decides _ _
    (λ h. member_contains classes c h, λ h. contains_member classes c h) (
      λ h. within_first classes c ((has_class-Contains (first_appearances classes) c).0 h),
      λ h. (has_class-Contains (first_appearances classes) c).1 (first_contains classes c h),
    )

first_more : (classes more : List ℕ) → AllPairs (λ a b. a < b) more
    → first_appearances (classes ++ more) ≡ first_appearances classes
    ++ without more (first_appearances classes)
first_more classes more up =
    first_appearances-append classes more
    ∙ ap (λ cs. first_appearances classes ++ cs)
    (ap (filter (λ c. not (member classes c))) (first_appearances-rising more up)
    ∙ filter_agree (λ c. not (member classes c)) (λ c. not (has_class (first_appearances classes) c))
    (λ c. ap not (same_test classes c)) more)

-- the classes of the relation at a place come behind those that the relations before it have
pub classes_by_appearance-more : (relations : List ClassRows) (i : ℕ) (d : ClassRows) → i < length relations
    → classes_by_appearance (take (i + 1) relations) ≡ classes_by_appearance (take i relations)
    ++ without (rising (get_or relations i d).classes) (classes_by_appearance (take i relations))
classes_by_appearance-more relations i d within =
    let F : ClassRows → List ℕ = λ r. rising r.classes in
    ap classes_by_appearance (take_more relations i d within)
    ∙ ap first_appearances (flat_map-append F (take i relations) (get_or relations i d ∷ [])
    ∙ ap (λ cs. flat_map F (take i relations) ++ cs) (append-nil (F (get_or relations i d))))
    ∙ first_more (flat_map F (take i relations)) (F (get_or relations i d))
    (rising_rises (get_or relations i d).classes)

-- the loop's step: what is fresh of the relation at a place is appended to the classes that were met
pub order_more : (relations : List ClassRows) (i : ℕ) (relation : ClassRows)
    (met slice classes fresh appended new : List ℕ) → i < length relations
    → relation ≡ get_or relations i relation → met ≡ classes_by_appearance (take i relations) → slice ≡ met
    → classes ≡ relation.classes → fresh ≡ without (rising classes) slice → appended ≡ fresh → new ≡ met
    ++ appended → new ≡ classes_by_appearance (take (i + 1) relations)
order_more relations i relation met slice classes fresh appended new within is so_far same_met same_classes
    fresh_is same_fresh new_is =
    let more : appended ≡ without (rising (get_or relations i relation).classes)
    (classes_by_appearance (take i relations)) =
    same_fresh ∙ fresh_is ∙ ap (λ cs. without (rising cs) slice)
    (same_classes ∙ ap (λ (r : ClassRows). r.classes) is)
    ∙ ap (λ known. without (rising (get_or relations i relation).classes) known) (same_met ∙ so_far) in
    new_is ∙ ap (λ cs. cs ++ appended) so_far ∙ ap (λ cs. classes_by_appearance (take i relations) ++ cs) more
    ∙ sym (classes_by_appearance-more relations i relation within)

-- the classes of the relation at a place are below 64 too
pub below_more_relations : (relations : List ClassRows) (i : ℕ) (relation : ClassRows) → i < length relations
    → relation ≡ get_or relations i relation → All (λ (r : ClassRows). All (λ c. c < 64) r.classes)
    (take i relations) → All (λ c. c < 64) relation.classes
    → All (λ (r : ClassRows). All (λ c. c < 64) r.classes) (take (i + 1) relations)
below_more_relations relations i relation within is so_far here =
    All-more (λ (r : ClassRows). All (λ c. c < 64) r.classes) relations i relation within so_far
    (subst (λ (r : ClassRows). All (λ c. c < 64) r.classes) is here)

-- ---- what the order holds

pub classes_by_appearance-distinct : (relations : List ClassRows)
    → AreDistinct (classes_by_appearance relations)
classes_by_appearance-distinct relations = first_once (flat_map (λ r. rising r.classes) relations)

pub classes_by_appearance-members : (relations : List ClassRows)
    → All (λ r. All (λ c. c < 64) r.classes) relations → (c : ℕ)
    → Contains (classes_by_appearance relations) c ↔ IsClassOf relations c
classes_by_appearance-members relations below c = (
  λ h. (let (r, at, has) = Contains-from_flat_map F relations c (within_first (flat_map F relations) c h) in
      (r, at, (rising_contains r.classes (below_at r at) c).0 has)),
  λ (r, at, has). first_contains (flat_map F relations) c
      (Contains-flat_map F relations r c at ((rising_contains r.classes (below_at r at) c).1 has)),
)
  where
    F : ClassRows → List ℕ
    F r = rising r.classes

    below_at : (r : ClassRows) → Contains relations r → All (λ k. k < 64) r.classes
    below_at r at = All-contains (λ (x : ClassRows). All (λ k. k < 64) x.classes) relations r below at

-- all relations were gone through
pub all_members : (relations : List ClassRows) (i : ℕ) (met : List ℕ) → length relations ≤ i
    → met ≡ classes_by_appearance (take i relations)
    → All (λ (r : ClassRows). All (λ c. c < 64) r.classes) (take i relations) → (c : ℕ) → Contains met c
    ↔ IsClassOf relations c
all_members relations i met past so_far below c =
    let all : take i relations ≡ relations = take_all i relations past in
    subst (λ cs. Contains cs c ↔ IsClassOf relations c) (sym (so_far ∙ ap classes_by_appearance all))
    (classes_by_appearance-members relations
    (subst (All (λ (r : ClassRows). All (λ k. k < 64) r.classes)) all below) c)
