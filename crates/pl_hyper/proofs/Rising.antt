-- A set of numbers has one rising list.
use Rattle.std.proofs.Common.{◌≡◌, ℕ, ◌<◌, ◌⊎◌, ◌↔◌, List, [], ◌∷◌, refl, sym, ap, ◌∙◌, inl}
use Rattle.std.proofs.Common.{inr, arith}
use Rattle.std.specs.Int.{bit_at}
use Rattle.std.specs.List.{Contains, AllPairs}
use Rattle.pl_hyper.specs.ClassOrder.{classes_of}
use Rattle.pl_hyper.proofs.Members.{here, there, cons_cases, not_in_nil, rises_tail, rises_head}
use Rattle.pl_hyper.proofs.Orders.{in_classes, classes_contain, classes_rise}

-- the first of the one is the first of the other
first_is : (x y : ℕ) (xs ys : List ℕ) → AllPairs (λ a b. a < b) (x ∷ xs) → AllPairs (λ a b. a < b) (y ∷ ys)
    → (x ≡ y) ⊎ Contains ys x → (y ≡ x) ⊎ Contains xs y → x ≡ y
first_is x y xs ys up also (inl e) _ = e
first_is x y xs ys up also (inr h) (inl e) = sym e
first_is x y xs ys up also (inr h) (inr k) =
    let low = rises_head x xs up y k in let high = rises_head y ys also x h in absurd (omega arith)

-- a member of the rest is one of the other rest
rest_has : (x y : ℕ) (xs ys : List ℕ) → AllPairs (λ a b. a < b) (x ∷ xs) → x ≡ y → (c : ℕ) → Contains xs c
    → (c ≡ y) ⊎ Contains ys c → Contains ys c
rest_has x y xs ys up e c h (inl s) = let low = rises_head x xs up c h in absurd (omega arith)
rest_has x y xs ys up e c h (inr k) = k

pub same_rising : (xs ys : List ℕ) → AllPairs (λ a b. a < b) xs → AllPairs (λ a b. a < b) ys
    → ((c : ℕ) → Contains xs c ↔ Contains ys c) → xs ≡ ys
same_rising [] [] up also same = refl
same_rising [] (y ∷ ys) up also same = absurd (not_in_nil y ((same y).1 (here y ys)))
same_rising (x ∷ xs) [] up also same = absurd (not_in_nil x ((same x).0 (here x xs)))
same_rising (x ∷ xs) (y ∷ ys) up also same =
    let first : x ≡ y = first_is x y xs ys up also (cons_cases y ys x ((same x).0 (here x xs)))
    (cons_cases x xs y ((same y).1 (here y ys))) in
    let rest : xs ≡ ys = same_rising xs ys (rises_tail x xs up) (rises_tail y ys also) (λ c. (
      λ h. rest_has x y xs ys up first c h (cons_cases y ys c ((same c).0 (there x c xs h))),
      λ h. rest_has y x ys xs also (sym first) c h (cons_cases x xs c ((same c).1 (there y c ys h))),
    )) in
    ap (λ z. z ∷ xs) first ∙ ap (λ zs. y ∷ zs) rest

pub classes_of-rising : (edge : ℕ) (classes : List ℕ) → AllPairs (λ a b. a < b) classes
    → ((c : ℕ) → Contains classes c ↔ ((c < 64) × (bit_at edge c ≡ 1))) → classes ≡ classes_of edge
classes_of-rising edge classes up same = same_rising classes (classes_of edge) up (classes_rise edge) (λ c. (
  λ h. (let both = (same c).0 h in classes_contain edge c both.0 both.1),
  λ h. (same c).1 (in_classes edge c h),
))
