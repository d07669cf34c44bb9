-- The members of a list that is made of another by a map or a filter.
use Rattle.std.proofs.Common.{◌≡◌, ◌↔◌, ◌==◌, ℕ, Bool, true, List, [], ◌∷◌, map, filter, Contains, get_or}
use Rattle.std.proofs.Common.{sym, subst, inl, inr}
use Rattle.std.specs.Str.{bytes_eq}
use Rattle.std.proofs.lemmas.Bool.{cases_Bool}
use Rattle.std.proofs.lemmas.List.Folds.{list_any_at}
use Rattle.std.proofs.lemmas.Map.Views.{Contains-from_any}
use Rattle.std.proofs.lemmas.Slice.Eq.{bytes_eq-Decides}
use Rattle.pl_rows.proofs.Canonical.{Contains-nil, Contains-cons_cases, Contains-cons_first}
use Rattle.pl_rows.proofs.Canonical.{Contains-cons_rest}
use Rattle.std.specs.List.{flat_map}
use Rattle.std.proofs.lemmas.Bool.{false≢true}
use Rattle.std.proofs.lemmas.Bool.Decides.{Decides-eqb}
use Rattle.std.proofs.lemmas.List.Elements.{Contains-append_left, Contains-append_right}
use Rattle.std.proofs.lemmas.List.Elements.{Contains-append_cases}
use Rattle.pl_join.specs.Relation.{has_class}
use Rattle.pl_join.specs.Source.{has_row}

pub Contains-map : {X Y : Type 0} (f : X → Y) (xs : List X) (x : X) → Contains xs x
    → Contains (map f xs) (f x)
Contains-map f [] x h = absurd (Contains-nil x h)
Contains-map f (a ∷ xs) x h = elim (Contains-cons_cases a xs x h) [
  | inl e ↦ subst (λ b. Contains (f a ∷ map f xs) (f b)) e (Contains-cons_first (f a) (map f xs))
  | inr r ↦ Contains-cons_rest (f a) (map f xs) (f x) (Contains-map f xs x r)
]

pub Contains-from_map : {X Y : Type 0} (f : X → Y) (xs : List X) (y : Y) → Contains (map f xs) y → (x : X)
    × Contains xs x × (f x ≡ y)
Contains-from_map f [] y h = absurd (Contains-nil y h)
Contains-from_map f (a ∷ xs) y h = elim (Contains-cons_cases (f a) (map f xs) y h) [
  | inl e ↦ (a, Contains-cons_first a xs, e)
  | inr r ↦ (let (x, c, e) = Contains-from_map f xs y r in (x, Contains-cons_rest a xs x c, e))
]

pub Contains-filter : {X : Type 0} (p : X → Bool) (xs : List X) (x : X) → Contains xs x → p x ≡ true
    → Contains (filter p xs) x
Contains-filter p [] x h t = absurd (Contains-nil x h)
Contains-filter p (a ∷ xs) x h t = elim (Contains-cons_cases a xs x h) [
  | inl e ↦ (let first : p a ≡ true = rw e t in rw first
      (subst (λ b. Contains (a ∷ filter p xs) b) e (Contains-cons_first a (filter p xs))))
  | inr r ↦ (elim (cases_Bool (p a)) [
    | inl y ↦ rw y (Contains-cons_rest a (filter p xs) x (Contains-filter p xs x r t))
    | inr n ↦ rw n (Contains-filter p xs x r t)
  ])
]

pub Contains-from_filter : {X : Type 0} (p : X → Bool) (xs : List X) (x : X) → Contains (filter p xs) x
    → Contains xs x × (p x ≡ true)
Contains-from_filter p [] x h = absurd (Contains-nil x h)
Contains-from_filter p (a ∷ xs) x h = elim (cases_Bool (p a)) [
  | inl y ↦ (elim (Contains-cons_cases a (filter p xs) x (rw y at h)) [
    | inl e ↦ (subst (λ b. Contains (a ∷ xs) b) e (Contains-cons_first a xs), rw (← e) y)
    | inr r ↦ (let (c, t) = Contains-from_filter p xs x r in (Contains-cons_rest a xs x c, t))
  ])
  | inr n ↦ (let (c, t) = Contains-from_filter p xs x (rw n at h) in (Contains-cons_rest a xs x c, t))
]

-- the test for a row says whether it is there
pub has_row-Contains : (rows : List (List ℕ)) (row : List ℕ) → (has_row rows row ≡ true) ↔ Contains rows row
has_row-Contains rows row = (
  λ h. Contains-from_any (λ x y. (bytes_eq-Decides x y).0) row rows h,
  λ (k, l, e). list_any_at (bytes_eq row) rows k row l ((bytes_eq-Decides row (get_or rows k row)).1 (sym e)),
)

-- the test for a class says whether it is there
class_found : (classes : List ℕ) (c : ℕ) → has_class classes c ≡ true → Contains classes c
class_found [] c h = absurd (false≢true h)
class_found (k ∷ ks) c h = elim (cases_Bool (k == c)) [
  | inl y ↦ subst (Contains (k ∷ ks)) ((Decides-eqb k c).0 y) (Contains-cons_first k ks)
  | inr n ↦ Contains-cons_rest k ks c (class_found ks c (rw n at h))
]

pub has_class-Contains : (classes : List ℕ) (c : ℕ) → (has_class classes c ≡ true) ↔ Contains classes c
has_class-Contains classes c = (
  λ h. class_found classes c h,
  λ (k, l, e). list_any_at (λ j. j == c) classes k c l ((Decides-eqb (get_or classes k c) c).1 e),
)

pub Contains-flat_map : {X Y : Type 0} (F : X → List Y) (xs : List X) (x : X) (y : Y) → Contains xs x
    → Contains (F x) y → Contains (flat_map F xs) y
Contains-flat_map F [] x y h m = absurd (Contains-nil x h)
Contains-flat_map F (a ∷ xs) x y h m = elim (Contains-cons_cases a xs x h) [
  | inl e ↦ Contains-append_left (F a) (flat_map F xs) y (subst (λ b. Contains (F b) y) (sym e) m)
  | inr r ↦ Contains-append_right (F a) (flat_map F xs) y (Contains-flat_map F xs x y r m)
]

pub Contains-from_flat_map : {X Y : Type 0} (F : X → List Y) (xs : List X) (y : Y)
    → Contains (flat_map F xs) y → (x : X) × Contains xs x × Contains (F x) y
Contains-from_flat_map F [] y h = absurd (Contains-nil y h)
Contains-from_flat_map F (a ∷ xs) y h = elim (Contains-append_cases (F a) (flat_map F xs) y h) [
  | inl m ↦ (a, Contains-cons_first a xs, m)
  | inr r ↦ (let (x, c, m) = Contains-from_flat_map F xs y r in (x, Contains-cons_rest a xs x c, m))
]
