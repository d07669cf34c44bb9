-- A name stands before a place where the first of its places is before it.
use Rattle.std.proofs.Common.{◌≡◌, ◌==◌, ℕ, zero, suc, List, [], ◌∷◌, ◌||◌, ◌&&◌, Bool, true, false, take}
use Rattle.std.proofs.Common.{Option, None, Some, option_map, arith, refl, sym, ap, ◌∙◌, cond}
use Rattle.std.specs.Prelude.{bytes_eq, nat_lt, slice_get}
use Rattle.std.specs.List.{list_any}
use Rattle.std.proofs.lemmas.Bool.Decides.{nat_tests}
use Rattle.pl_names.specs.Names.{number_among}

-- whether a number is below a place
abbrev pub is_before : Option ℕ → ℕ → Bool
is_before None place = false
is_before (Some first) place = nat_lt first place

eq_sym : (x y : ℕ) → (x == y) ≡ (y == x)
eq_sym x y = grind (arith, nat_tests)

bytes_sym : (xs ys : List ℕ) → bytes_eq xs ys ≡ bytes_eq ys xs
bytes_sym [] [] = refl
bytes_sym [] (y ∷ ys) = refl
bytes_sym (x ∷ xs) [] = refl
bytes_sym (x ∷ xs) (y ∷ ys) =
    ap (λ b. b && bytes_eq xs ys) (eq_sym x y) ∙ ap (λ b. (y == x) && b) (bytes_sym xs ys)

before_none : (found : Option ℕ) → is_before found 0 ≡ false
before_none None = refl
before_none (Some n) = grind (arith, nat_tests)

before_more : (found : Option ℕ) (place : ℕ) →
    is_before (option_map suc found) (suc place) ≡ is_before found place
before_more None place = refl
before_more (Some n) place = grind (arith, nat_tests)

before_first : (place : ℕ) → nat_lt 0 (suc place) ≡ true
before_first place = grind (arith, nat_tests)

step : (same : Bool) (found : Option ℕ) (place : ℕ) →
    (same || is_before found place) ≡ is_before (cond same (Some 0) (option_map suc found)) (suc place)
step true found place = sym (before_first place)
step false found place = sym (before_more found place)

pub before_is : (names : List (List ℕ)) (name : List ℕ) (place : ℕ) →
    list_any (bytes_eq name) (take place names) ≡ is_before (number_among names name) place
before_is names name zero = sym (before_none (number_among names name))
before_is [] name (suc place) = refl
before_is (x ∷ names) name (suc place) =
    ap (λ b. b || list_any (bytes_eq name) (take place names)) (bytes_sym name x) ∙
    ap (λ b. bytes_eq x name || b) (before_is names name place) ∙
    step (bytes_eq x name) (number_among names name) place
