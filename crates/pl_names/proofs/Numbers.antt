-- The number of a name in a list is its first place there.
use Rattle.std.proofs.Common.{◌≡◌, ◌<◌, ◌≤◌, ◌+◌, ℕ, zero, suc, Bool, true, false, cond, List, [], ◌∷◌, ◌++◌}
use Rattle.std.proofs.Common.{length, ◌⊎◌, Option, Some, None, option_map, slice_get, refl, sym, ap, ◌∙◌, inl}
use Rattle.std.proofs.Common.{inr, arith}
use Rattle.std.specs.Str.{bytes_eq}
use Rattle.std.proofs.lemmas.Bool.{cases_Bool, false≢true}
use Rattle.std.proofs.lemmas.Slice.Eq.{bytes_eq-Decides}
use Rattle.pl_names.specs.Names.{number_among}

-- a name is itself, and another one isn't
pub same_name : (a b : List ℕ) → a ≡ b → bytes_eq a b ≡ true
same_name a b e = (bytes_eq-Decides a b).1 e

pub other_name : (a b : List ℕ) → (a ≡ b → ⊥) → bytes_eq a b ≡ false
other_name a b n = elim (cases_Bool (bytes_eq a b)) [
  | inl t ↦ absurd (n ((bytes_eq-Decides a b).0 t))
  | inr f ↦ f
]

-- where no place has the name there is no number
pub none_is : (names : List (List ℕ)) (name : List ℕ) → ((m : ℕ) → slice_get names m ≡ Some name → ⊥) →
    number_among names name ≡ None
none_is [] name no_place = refl
none_is (first ∷ names) name no_place =
    let here : bytes_eq first name ≡ false = other_name first name (λ e. no_place 0 (ap (λ x. Some x) e)) in
    let rest : number_among names name ≡ None = none_is names name (λ m h. no_place (suc m) h) in
    rw (here, rest) refl

-- a place that has the name, with none before it that has it, is the number
pub least_is : (names : List (List ℕ)) (name : List ℕ) (n : ℕ) → slice_get names n ≡ Some name →
    ((m : ℕ) → m < n → slice_get names m ≡ Some name → ⊥) → number_among names name ≡ Some n
least_is [] name n h least = cc
least_is (first ∷ names) name zero h least =
    let e : first ≡ name = cc in
    rw (same_name first name e) refl
least_is (first ∷ names) name (suc n) h least =
    let here : bytes_eq first name ≡ false =
    other_name first name (λ e. least 0 (omega arith) (ap (λ x. Some x) e)) in
    let rest : number_among names name ≡ Some n =
    least_is names name n h (λ m l k. least (suc m) (omega arith) k) in
    rw (here, rest) refl

-- what a number says of its place
pub number_place : (names : List (List ℕ)) (name : List ℕ) (n : ℕ) → number_among names name ≡ Some n →
    slice_get names n ≡ Some name
number_place [] name n h = cc
number_place (first ∷ names) name n h = place_from (λ m e. number_place names name m e)
    (cases_Bool (bytes_eq first name))
  where
    at_rest : ((m : ℕ) → number_among names name ≡ Some m → slice_get names m ≡ Some name) → (r : Option ℕ) →
        number_among names name ≡ r → option_map suc r ≡ Some n → slice_get (first ∷ names) n ≡ Some name
    at_rest back None e k = cc
    at_rest back (Some m) e k = let s : suc m ≡ n = cc in rw (← s) (back m e)

    place_from : ((m : ℕ) → number_among names name ≡ Some m → slice_get names m ≡ Some name) →
        (bytes_eq first name ≡ true) ⊎ (bytes_eq first name ≡ false) → slice_get (first ∷ names) n ≡ Some name
    place_from back (inl t) =
        let e : ◌≡◌ {A = Option ℕ} (Some 0) (Some n) = rw t at h in
        let z : 0 ≡ n = cc in
        rw (← z) (ap (λ x. Some x) ((bytes_eq-Decides first name).0 t))
    place_from back (inr f) = at_rest back (number_among names name) refl (rw f at h)
