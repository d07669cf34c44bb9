-- Tests of all members of a list, and of one.
use Rattle.std.proofs.Common.{◌≡◌, ℕ, ◌<◌, ◌≤◌, Bool, true, false, ◌||◌, cond, List, [], ◌∷◌, Some, None}
use Rattle.std.proofs.Common.{refl, sym, ◌∙◌, ap, subst, arith, inl, inr, Contains}
use Rattle.std.specs.List.{list_all, list_any, find, AllPairs}
use Rattle.std.proofs.lemmas.Bool.{and_parts, and_from, or_cases, false≢true}
use Rattle.pl_rows.proofs.Canonical.{Contains-cons_cases, Contains-cons_first, Contains-cons_rest}
use Rattle.pl_rows.proofs.Canonical.{Contains-nil}
use Rattle.pl_hyper.proofs.Members.{rises_tail, rises_head}

pub passes_all : {X : Type 0} (p : X → Bool) (xs : List X) (x : X) → list_all p xs ≡ true → Contains xs x
    → p x ≡ true
passes_all p [] x h c = absurd (Contains-nil x c)
passes_all p (a ∷ xs) x h c =
    let both = and_parts (p a) (list_all p xs) h in
    elim (Contains-cons_cases a xs x c) [
      | inl e ↦ subst (λ b. p b ≡ true) e both.0
      | inr r ↦ passes_all p xs x both.1 r
    ]

pub all_pass : {X : Type 0} (p : X → Bool) (xs : List X) → ((x : X) → Contains xs x → p x ≡ true)
    → list_all p xs ≡ true
all_pass p [] h = refl
all_pass p (a ∷ xs) h =
    and_from (p a) (list_all p xs) (h a (Contains-cons_first a xs))
    (all_pass p xs (λ x c. h x (Contains-cons_rest a xs x c)))

pub one_passes : {X : Type 0} (p : X → Bool) (xs : List X) (x : X) → Contains xs x → p x ≡ true
    → list_any p xs ≡ true
one_passes p [] x c h = absurd (Contains-nil x c)
one_passes p (a ∷ xs) x c h = elim (Contains-cons_cases a xs x c) [
  | inl e ↦ ap (λ b. b || list_any p xs) (subst (λ b. p b ≡ true) (sym e) h)
  | inr r ↦ or_second (p a) (list_any p xs) (one_passes p xs x r h)
]
  where
    or_second : (a b : Bool) → b ≡ true → (a || b) ≡ true
    or_second true b h = refl
    or_second false b h = h

pub passing_one : {X : Type 0} (p : X → Bool) (xs : List X) → list_any p xs ≡ true → (x : X) × Contains xs x
    × (p x ≡ true)
passing_one p [] h = absurd (false≢true h)
passing_one p (a ∷ xs) h = elim (or_cases (p a) (list_any p xs) h) [
  | inl e ↦ (a, Contains-cons_first a xs, e)
  | inr r ↦ (let (x, c, e) = passing_one p xs r in (x, Contains-cons_rest a xs x c, e))
]

-- ---- the first of a rising list that passes

pub record IsFound (p : ℕ → Bool) (xs : List ℕ) (x : ℕ) : Type 0 where
  pub member : Contains xs x
  pub passes : p x ≡ true
  pub least : (y : ℕ) → Contains xs y → p y ≡ true → x ≤ y

some_same : (x y : ℕ) → Some x ≡ Some y → x ≡ y
some_same x y h = cc

found_cons : (p : ℕ → Bool) (a : ℕ) (xs : List ℕ) (x : ℕ) (b : Bool) → p a ≡ b
    → AllPairs (λ e f. e < f) (a ∷ xs) → (find p xs ≡ Some x → IsFound p xs x)
    → cond b (Some a) (find p xs) ≡ Some x → IsFound p (a ∷ xs) x
found_cons p a xs x true t up next h =
    let is : a ≡ x = some_same a x h in record {
      member = subst (Contains (a ∷ xs)) is (Contains-cons_first a xs);
      passes = subst (λ y. p y ≡ true) is t;
      least = λ y c k. elim (Contains-cons_cases a xs y c) [
        | inl e ↦ (let same : x ≡ y = sym is ∙ e in omega arith)
        | inr r ↦ (let above = rises_head a xs up y r in omega arith)
      ];
    }
found_cons p a xs x false t up next h =
    let is = next h in record {
      member = Contains-cons_rest a xs x is.member;
      passes = is.passes;
      least = λ y c k. elim (Contains-cons_cases a xs y c) [
        | inl e ↦ absurd (false≢true (sym (subst (λ z. p z ≡ false) e t) ∙ k))
        | inr r ↦ is.least y r k
      ];
    }

pub found : (p : ℕ → Bool) (xs : List ℕ) (x : ℕ) → AllPairs (λ e f. e < f) xs → find p xs ≡ Some x
    → IsFound p xs x
found p [] x up h = absurd (elim_none h)
  where
    elim_none : None ≡ Some x → ⊥
    elim_none e = cc
found p (a ∷ xs) x up h = found_cons p a xs x (p a) refl up (λ k. found p xs x (rises_tail a xs up) k) h

not_found_cons : (p : ℕ → Bool) (a : ℕ) (xs : List ℕ) (y : ℕ) (b : Bool) → p a ≡ b
    → (find p xs ≡ None → Contains xs y → p y ≡ true → ⊥) → cond b (Some a) (find p xs) ≡ None
    → Contains (a ∷ xs) y → p y ≡ true → ⊥
not_found_cons p a xs y true t next h c k = cc
not_found_cons p a xs y false t next h c k = elim (Contains-cons_cases a xs y c) [
  | inl e ↦ false≢true (sym (subst (λ z. p z ≡ false) e t) ∙ k)
  | inr r ↦ next h r k
]

pub not_found : (p : ℕ → Bool) (xs : List ℕ) (y : ℕ) → find p xs ≡ None → Contains xs y → p y ≡ true → ⊥
not_found p [] y h c k = Contains-nil y c
not_found p (a ∷ xs) y h c k = not_found_cons p a xs y (p a) refl (λ g d m. not_found p xs y g d m) h c k
