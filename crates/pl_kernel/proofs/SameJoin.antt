-- Lists of relations with the same join and the same classes.
use Rattle.std.proofs.Common.{◌≡◌, ◌<◌, ◌-◌, ◌↔◌, ℕ, not, List, [], ◌∷◌, ◌++◌, length, map, take, drop}
use Rattle.std.proofs.Common.{get_or, Contains, Result, Ok, Err, IfOk, ◌⊎◌, refl, sym, ap, ◌∙◌, subst, inl}
use Rattle.std.proofs.Common.{inr, arith}
use Rattle.std.specs.List.{remove}
use Rattle.std.specs.List.Sorted.{IsPermutation}
use Rattle.std.specs.declared.alloc.AllocError.{AllocError}
use Rattle.std.proofs.lemmas.Bool.{cases_Bool}
use Rattle.std.proofs.lemmas.List.{take_all}
use Rattle.std.proofs.lemmas.List.Elements.{All-nil, All-cons, All-head, All-tail, Contains-append_left}
use Rattle.std.proofs.lemmas.List.Elements.{Contains-append_right, Contains-append_cases}
use Rattle.std.proofs.lemmas.List.Sorted.{IsPermutation-map, IsPermutation-remove, IsPermutation-sym}
use Rattle.std.proofs.lemmas.List.Sorted.{All-permutation, Contains-permutation}
use Rattle.pl_rows.proofs.Canonical.{Contains-nil, Contains-cons_cases, Contains-cons_first}
use Rattle.pl_rows.proofs.Canonical.{Contains-cons_rest}
use Rattle.pl_join.specs.Relation.{ClassRows, Assignment, Holds, IsJoinOf, IsJoinOfAll, IsProjectionOf}
use Rattle.pl_join.specs.Relation.{has_class, without}
use Rattle.pl_join.proofs.Assignments.{map_agree}
use Rattle.pl_join.proofs.Members.{Contains-filter, Contains-from_filter, has_class-Contains}
use Rattle.pl_kernel.specs.Joining.{IsClassOf, HaveSameJoin}

pub same_join-trans : (some between others : List ClassRows) → HaveSameJoin some between
    → HaveSameJoin between others → HaveSameJoin some others
same_join-trans some between others a b = record {
  rows = λ f. (λ h. (b.rows f).0 ((a.rows f).0 h), λ h. (a.rows f).1 ((b.rows f).1 h));
  classes = λ c. (λ h. (b.classes c).0 ((a.classes c).0 h), λ h. (a.classes c).1 ((b.classes c).1 h));
}

pub same_join-along : (some others : List ClassRows) → some ≡ others → HaveSameJoin some others
same_join-along some others e = subst (HaveSameJoin some) e
    (record { rows = λ f. (λ h. h, λ h. h); classes = λ c. (λ h. h, λ h. h) })

-- ---- relations in another order, and behind another

pub same_join-permutation : (some others : List ClassRows) → IsPermutation some others
    → HaveSameJoin some others
same_join-permutation some others p = record {
  rows = λ f. (
    All-permutation (λ r. Holds r f) some others p,
    All-permutation (λ r. Holds r f) others some (IsPermutation-sym some others p),
  );
  classes = λ c. (moved some others p c, moved others some (IsPermutation-sym some others p) c);
}
  where
    moved : (xs ys : List ClassRows) → IsPermutation xs ys → (c : ℕ) → IsClassOf xs c → IsClassOf ys c
    moved xs ys q c (r, at, has) = (r, Contains-permutation xs ys r q at, has)

class_cons : (r : ClassRows) (rest : List ClassRows) (c : ℕ) → Contains r.classes c → IsClassOf (r ∷ rest) c
class_cons r rest c has = (r, Contains-cons_first r rest, has)

class_rest : (r : ClassRows) (rest : List ClassRows) (c : ℕ) → IsClassOf rest c → IsClassOf (r ∷ rest) c
class_rest r rest c (s, at, has) = (s, Contains-cons_rest r rest s at, has)

-- a class of one relation more is a class of that relation or of the rest
class_cases : (r : ClassRows) (rest : List ClassRows) (c : ℕ) (P : Type 0) → (Contains r.classes c → P)
    → (IsClassOf rest c → P) → IsClassOf (r ∷ rest) c → P
class_cases r rest c P first later (s, at, has) = elim (Contains-cons_cases r rest s at) [
  | inl e ↦ first (subst (λ x. Contains x.classes c) (sym e) has)
  | inr k ↦ later (s, k, has)
]

pub same_join-cons : (r : ClassRows) (some others : List ClassRows) → HaveSameJoin some others
    → HaveSameJoin (r ∷ some) (r ∷ others)
same_join-cons r some others same = record {
  rows = λ f. (
    λ h. All-cons (λ x. Holds x f) r others (All-head (λ x. Holds x f) r some h)
        ((same.rows f).0 (All-tail (λ x. Holds x f) r some h)),
    λ h. All-cons (λ x. Holds x f) r some (All-head (λ x. Holds x f) r others h)
        ((same.rows f).1 (All-tail (λ x. Holds x f) r others h)),
  );
  classes = λ c. (
    class_cases r some c (IsClassOf (r ∷ others) c) (class_cons r others c)
        (λ h. class_rest r others c ((same.classes c).0 h)),
    class_cases r others c (IsClassOf (r ∷ some) c) (class_cons r some c)
        (λ h. class_rest r some c ((same.classes c).1 h)),
  );
}

-- ---- one join

-- the classes of a join are those of both relations
in_join : (left right : List ℕ) (c : ℕ) → Contains (left ++ without right left) c → Contains left c
    ⊎ Contains right c
in_join left right c h = elim (Contains-append_cases left (without right left) c h) [
  | inl l ↦ inl l
  | inr r ↦ inr (Contains-from_filter (λ k. not (has_class left k)) right c r).0
]

join_has : (left right : List ℕ) (c : ℕ) → Contains right c → Contains (left ++ without right left) c
join_has left right c h = elim (cases_Bool (has_class left c)) [
  | inl t ↦ Contains-append_left left (without right left) c ((has_class-Contains left c).0 t)
  | inr f ↦ Contains-append_right left (without right left) c
      (Contains-filter (λ k. not (has_class left k)) right c h (ap not f))
]

-- the join of two relations stands for both
pub same_join-join : (joined next r : ClassRows) (rest : List ClassRows) → r.classes ≡ joined.classes
    ++ without next.classes joined.classes → IsJoinOf joined next r
    → HaveSameJoin (r ∷ rest) (joined ∷ next ∷ rest)
same_join-join joined next r rest classes is = record {
  rows = λ f. (
    λ h. (let both = (is f).0 (All-head (λ x. Holds x f) r rest h) in
        All-cons (λ x. Holds x f) joined (next ∷ rest) both.0
        (All-cons (λ x. Holds x f) next rest both.1 (All-tail (λ x. Holds x f) r rest h))),
    λ h. (let later = All-tail (λ x. Holds x f) joined (next ∷ rest) h in
        All-cons (λ x. Holds x f) r rest
        ((is f).1 (
          All-head (λ x. Holds x f) joined (next ∷ rest) h,
          All-head (λ x. Holds x f) next rest later,
        )) (All-tail (λ x. Holds x f) next rest later)),
  );
  classes = λ c. (
    class_cases r rest c (IsClassOf (joined ∷ next ∷ rest) c)
        (λ h. either c (in_join joined.classes next.classes c (subst (λ cs. Contains cs c) classes h)))
        (λ h. class_rest joined (next ∷ rest) c (class_rest next rest c h)),
    class_cases joined (next ∷ rest) c (IsClassOf (r ∷ rest) c)
        (λ h. class_cons r rest c
        (back c (Contains-append_left joined.classes (without next.classes joined.classes) c h)))
        (class_cases next rest c (IsClassOf (r ∷ rest) c)
        (λ h. class_cons r rest c (back c (join_has joined.classes next.classes c h)))
        (λ h. class_rest r rest c h)),
  );
}
  where
    either : (c : ℕ) → Contains joined.classes c ⊎ Contains next.classes c
        → IsClassOf (joined ∷ next ∷ rest) c
    either c (inl h) = class_cons joined (next ∷ rest) c h
    either c (inr h) = class_rest joined (next ∷ rest) c (class_cons next rest c h)

    back : (c : ℕ) → Contains (joined.classes ++ without next.classes joined.classes) c → Contains r.classes c
    back c h = subst (λ cs. Contains cs c) (sym classes) h

-- the relation at a place is taken out of those that are left
pub same_join-taken : {X : Type 0} (value : X → ClassRows) (left kept : List X) (place : ℕ) (x : X)
    → place < length left → x ≡ get_or left place x → kept ≡ remove left place
    → HaveSameJoin (value x ∷ map value kept) (map value left)
same_join-taken value left kept place x within is e =
    same_join-permutation (value x ∷ map value kept) (map value left)
    (subst (λ ys. IsPermutation (value x ∷ map value ys) (map value left)) (sym e)
    (IsPermutation-sym (map value left) (value x ∷ map value (remove left place))
    (IsPermutation-map value left (x ∷ remove left place) (IsPermutation-remove left place x within is))))

-- a relation that is left is joined
pub same_join-next : (result : Result ClassRows AllocError) (joined next : ClassRows)
    (rest left : List ClassRows)
    → IfOk result (λ r. r.classes ≡ joined.classes ++ without next.classes joined.classes)
    → IfOk result (IsJoinOf joined next) → HaveSameJoin (next ∷ rest) left
    → IfOk result (λ r. HaveSameJoin (r ∷ rest) (joined ∷ left))
same_join-next (Ok r) joined next rest left classes is taken =
    same_join-trans (r ∷ rest) (joined ∷ next ∷ rest) (joined ∷ left)
    (same_join-join joined next r rest classes is) (same_join-cons joined (next ∷ rest) left taken)
same_join-next (Err e) joined next rest left classes is taken = tt

-- ---- the first relation, and references to the others

pub same_join-start : {X : Type 0} (value : X → ClassRows) (core : List ClassRows) (first : ClassRows)
    (left : List X) → 0 < length core → first ≡ get_or core 0 first
    → map value left ≡ take (length core - 1) (drop 1 core) → HaveSameJoin (first ∷ map value left) core
same_join-start value [] first left some is rest = absurd (omega arith)
same_join-start value (r ∷ core) first left some is rest =
    let others : map value left ≡ core = rest ∙ take_all (length (r ∷ core) - 1) core (omega arith) in
    same_join-along (first ∷ map value left) (r ∷ core)
    (ap (λ x. x ∷ map value left) is ∙ ap (λ xs. r ∷ xs) others)

pub same_join-alone : {X : Type 0} (value : X → ClassRows) (all : List ClassRows) (r : ClassRows)
    (left : List X) → length left ≡ 0 → HaveSameJoin (r ∷ map value left) all → HaveSameJoin (r ∷ []) all
same_join-alone value all r [] none same = same
same_join-alone value all r (x ∷ left) none same = absurd (omega arith)

-- the first relation is the only one
pub same_join-only : {X : Type 0} (value : X → ClassRows) (core : List ClassRows) (first : ClassRows)
    (left : List X) → 0 < length core → first ≡ get_or core 0 first
    → map value left ≡ take (length core - 1) (drop 1 core) → length left ≡ 0 → HaveSameJoin (first ∷ []) core
same_join-only value core first left some is rest none =
    same_join-alone value core first left none (same_join-start value core first left some is rest)

-- ---- one relation that stands for all

pub join_of_all : (all : List ClassRows) (r : ClassRows) → HaveSameJoin (r ∷ []) all → IsJoinOfAll all r
join_of_all all r same f = (
  λ h. (same.rows f).0 (All-cons (λ x. Holds x f) r [] h (All-nil (λ x. Holds x f))),
  λ h. All-head (λ x. Holds x f) r [] ((same.rows f).1 h),
)

pub classes_of_all : (all : List ClassRows) (r : ClassRows) → HaveSameJoin (r ∷ []) all → (c : ℕ)
    → IsClassOf all c ↔ Contains r.classes c
classes_of_all all r same c = (
  λ h. class_cases r [] c (Contains r.classes c) (λ k. k) (λ (s, at, has). absurd (Contains-nil s at))
      ((same.classes c).1 h),
  λ h. (same.classes c).0 (class_cons r [] c h),
)

-- the classes of all relations are those of the one that stands for them
pub same_members : (all : List ClassRows) (r : ClassRows) (classes slice : List ℕ) → HaveSameJoin (r ∷ []) all
    → slice ≡ classes → ((c : ℕ) → Contains classes c ↔ IsClassOf all c) → (c : ℕ) → Contains slice c
    ↔ Contains r.classes c
same_members all r classes slice same e members c =
    let both = classes_of_all all r same c in (
      λ h. both.0 ((members c).0 (subst (λ cs. Contains cs c) e h)),
      λ h. subst (λ cs. Contains cs c) (sym e) ((members c).1 (both.1 h)),
    )

-- ---- a relation over all of its classes in another order

pub same_arranged : (from to : ClassRows) → ((c : ℕ) → Contains to.classes c ↔ Contains from.classes c)
    → IsProjectionOf from to → (f : Assignment) → Holds to f ↔ Holds from f
same_arranged from to members is f = (
  λ h. (let (g, held, agree) = (is f).0 h in
      subst (Contains from.rows) (sym (map_agree from.classes f g (λ c m. agree c ((members c).1 m)))) held),
  λ h. (is f).1 (f, h, λ c m. refl),
)

pub arranged_rows : (result : Result ClassRows AllocError) (from : ClassRows) (classes : List ℕ)
    → ((c : ℕ) → Contains classes c ↔ Contains from.classes c) → IfOk result (λ r. r.classes ≡ classes)
    → IfOk result (IsProjectionOf from) → IfOk result (λ r. (f : Assignment) → Holds r f ↔ Holds from f)
arranged_rows (Ok r) from classes members e is =
    same_arranged from r (λ c. subst (λ cs. Contains cs c ↔ Contains from.classes c) (sym e) (members c)) is
arranged_rows (Err x) from classes members e is = tt

pub arranged_join : (result : Result ClassRows AllocError) (all : List ClassRows) (from : ClassRows)
    → IsJoinOfAll all from → IfOk result (λ r. (f : Assignment) → Holds r f ↔ Holds from f)
    → IfOk result (IsJoinOfAll all)
arranged_join (Ok r) all from is same = λ f. (λ h. (is f).0 ((same f).0 h), λ h. (same f).1 ((is f).1 h))
arranged_join (Err x) all from is same = tt
