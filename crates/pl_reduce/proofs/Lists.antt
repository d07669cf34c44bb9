-- Lists as collections of members.
use Rattle.std.proofs.Common.{◌≡◌, ◌+◌, ◌-◌, ℕ, Bool, true, List, [], ◌∷◌, ◌++◌, length, take, drop, get_or}
use Rattle.std.proofs.Common.{reverse, Contains, All, sym, ap, ◌∙◌, inl, inr, arith, add-one, drop-cons}
use Rattle.std.proofs.lemmas.List.{take-append-drop, get_or-reverse, length-reverse}
use Rattle.std.specs.List.{list_any}
use Rattle.std.proofs.lemmas.Bool.{cases_Bool, false≢true}
use Rattle.std.proofs.lemmas.List.Elements.{Contains-get_or, Contains-append_right}
use Rattle.pl_join.specs.Relation.{AreDistinct}
use Rattle.pl_join.proofs.Assignments.{first_apart, rest_distinct}
use Rattle.pl_rows.proofs.Canonical.{Contains-nil, Contains-cons_cases, Contains-cons_first}
use Rattle.pl_rows.proofs.Canonical.{Contains-cons_rest}

pub all_members : {X : Type 0} (P : X → Type 0) (xs : List X) → ((x : X) → Contains xs x → P x) → All P xs
all_members P xs h k d l = h (get_or xs k d) (Contains-get_or xs k d l)

-- where a member stands
pub parted : {X : Type 0} (xs : List X) (x : X) → Contains xs x → (front : List X) × (rest : List X)
    × (xs ≡ front ++ x ∷ rest)
parted xs x (k, l, e) =
    let cut : drop k xs ≡ get_or xs k x ∷ drop (k + 1) xs = rw add-one (drop-cons xs k x l) in (
      take k xs,
      drop (k + 1) xs,
      sym (take-append-drop k xs)
          ∙ ap (λ t. take k xs ++ t) (cut ∙ ap (λ y. y ∷ drop (k + 1) xs) e),
    )

pub Contains-reverse : {X : Type 0} (xs : List X) (x : X) → Contains xs x → Contains (reverse xs) x
Contains-reverse xs x (k, l, e) =
    let there : length xs - 1 - (length xs - 1 - k) ≡ k = omega arith in (
      length xs - 1 - k,
      omega (arith, length-reverse xs),
      get_or-reverse xs (length xs - 1 - k) x
          (omega arith) ∙ ap (λ i. get_or xs i x) there ∙ e,
    )

-- one that passes
pub found : {X : Type 0} (p : X → Bool) (xs : List X) → list_any p xs ≡ true → (x : X) × Contains xs x
    × (p x ≡ true)
found p [] h = absurd (false≢true h)
found p (a ∷ xs) h = elim (cases_Bool (p a)) [
  | inl y ↦ (a, Contains-cons_first a xs, y)
  | inr n ↦ (let (x, m, y) = found p xs (rw n at h) in (x, Contains-cons_rest a xs x m, y))
]

-- of distinct classes, none stands in two parts
pub parts_apart : (xs ys : List ℕ) (c : ℕ) → AreDistinct (xs ++ ys) → Contains xs c → Contains ys c → ⊥
parts_apart [] ys c d h m = Contains-nil c h
parts_apart (x ∷ xs) ys c d h m = elim (Contains-cons_cases x xs c h) [
  | inl e ↦ first_apart x (xs ++ ys) d c (Contains-append_right xs ys c m) (sym e)
  | inr r ↦ parts_apart xs ys c (rest_distinct x (xs ++ ys) d) r m
]
