-- Chains of equalities, the test of them, and the least member of a class.
use Rattle.std.proofs.Common.{◌≡◌, ℕ, ◌<◌, ◌≤◌, ◌+◌, zero, suc, Bool, true, false, ◌&&◌, ◌||◌, if◌then◌else◌}
use Rattle.std.proofs.Common.{List, [], ◌∷◌, ◌++◌, ◌⊎◌, inl, inr, refl, sym, ◌∙◌, ap, subst, arith, eqb-true}
use Rattle.std.proofs.Common.{eq-eqb}
use Rattle.std.specs.List.{range_with_len}
use Rattle.std.proofs.lemmas.Bool.{and_parts, and_from, or_cases, false≢true}
use Rattle.pl_rows.proofs.Canonical.{Contains-cons_cases, Contains-cons_first, Contains-cons_rest}
use Rattle.pl_rows.proofs.Canonical.{Contains-nil}
use Rattle.pl_normal.specs.Classes.{Equality, AreEquated, IsChain, AreJoined, are_joined, first_that}
use Rattle.pl_normal.specs.Classes.{class_of}
use Rattle.std.proofs.lemmas.Bool.{or_right}

-- ---- chains

chain_and : (es : List Equality) (a : ℕ) (first : List ℕ) (c : ℕ) (rest : List ℕ) (b : ℕ)
    → IsChain es a first c → IsChain es c rest b → IsChain es a (first ++ rest) b
chain_and es a [] c rest b p q = subst (λ x. IsChain es x rest b) (sym p) q
chain_and es a (x ∷ first) c rest b p q = (p.0, chain_and es x first c rest b p.1 q)

pub joined_and : (es : List Equality) (a c b : ℕ) → AreJoined es a c → AreJoined es c b → AreJoined es a b
joined_and es a c b (first, p) (rest, q) = (first ++ rest, chain_and es a first c rest b p q)

pub joined_itself : (es : List Equality) (a : ℕ) → AreJoined es a a
joined_itself es a = ([], refl)

pub joined_once : (es : List Equality) (a b : ℕ) → AreEquated es a b → AreJoined es a b
joined_once es a b h = (b ∷ [], (h, refl))

equated_back : (es : List Equality) (a b : ℕ) → AreEquated es a b → AreEquated es b a
equated_back es a b (inl h) = inr h
equated_back es a b (inr h) = inl h

chain_back : (es : List Equality) (a : ℕ) (rest : List ℕ) (b : ℕ) → IsChain es a rest b → AreJoined es b a
chain_back es a [] b p = ([], sym p)
chain_back es a (c ∷ rest) b p =
    joined_and es b c a (chain_back es c rest b p.1) (joined_once es c a (equated_back es a c p.0))

pub joined_back : (es : List Equality) (a b : ℕ) → AreJoined es a b → AreJoined es b a
joined_back es a b (rest, p) = chain_back es a rest b p

equated_more : (e : Equality) (es : List Equality) (a b : ℕ) → AreEquated es a b → AreEquated (e ∷ es) a b
equated_more e es a b (inl h) = inl (Contains-cons_rest e es _ h)
equated_more e es a b (inr h) = inr (Contains-cons_rest e es _ h)

chain_more : (e : Equality) (es : List Equality) (a : ℕ) (rest : List ℕ) (b : ℕ) → IsChain es a rest b
    → IsChain (e ∷ es) a rest b
chain_more e es a [] b p = p
chain_more e es a (c ∷ rest) b p = (equated_more e es a c p.0, chain_more e es c rest b p.1)

joined_more : (e : Equality) (es : List Equality) (a b : ℕ) → AreJoined es a b → AreJoined (e ∷ es) a b
joined_more e es a b (rest, p) = (rest, chain_more e es a rest b p)

-- ---- the test

three_ways : (p q r s t : Bool) → (p || ((q && r) || (s && t))) ≡ true → (p ≡ true)
    ⊎ (((q ≡ true) × (r ≡ true)) ⊎ ((s ≡ true) × (t ≡ true)))
three_ways p q r s t h = elim (or_cases p ((q && r) || (s && t)) h) [
  | inl direct ↦ inl direct
  | inr over ↦ inr (elim (or_cases (q && r) (s && t) over) [
    | inl one ↦ inl (let both = and_parts q r one in (both.0, both.1))
    | inr two ↦ inr (let both = and_parts s t two in (both.0, both.1))
  ])
]

or_first : (x y : Bool) → x ≡ true → (x || y) ≡ true
or_first x y h = ap (λ b. b || y) h

pub tested_joined : (es : List Equality) (a b : ℕ) → are_joined es a b ≡ true → AreJoined es a b
tested_joined [] a b h = ([], eqb-true a b h)
tested_joined (e ∷ es) a b h =
    elim (three_ways (are_joined es a b) (are_joined es a e.left) (are_joined es e.right b)
    (are_joined es a e.right) (are_joined es e.left b) h) [
      | inl direct ↦ joined_more e es a b (tested_joined es a b direct)
      | inr (inl forth) ↦
          joined_and (e ∷ es) a e.left b (joined_more e es a e.left (tested_joined es a e.left forth.0))
          (joined_and (e ∷ es) e.left e.right b
          (joined_once (e ∷ es) e.left e.right (inl (Contains-cons_first e es)))
          (joined_more e es e.right b (tested_joined es e.right b forth.1)))
      | inr (inr back) ↦
          joined_and (e ∷ es) a e.right b (joined_more e es a e.right (tested_joined es a e.right back.0))
          (joined_and (e ∷ es) e.right e.left b
          (joined_once (e ∷ es) e.right e.left (inr (Contains-cons_first e es)))
          (joined_more e es e.left b (tested_joined es e.left b back.1)))
    ]

test_itself : (es : List Equality) (a : ℕ) → are_joined es a a ≡ true
test_itself [] a = eq-eqb a a refl
test_itself (e ∷ es) a = or_first (are_joined es a a) _ (test_itself es a)

test_same : (es : List Equality) (a b : ℕ) → a ≡ b → are_joined es a b ≡ true
test_same es a b h = subst (λ x. are_joined es a x ≡ true) h (test_itself es a)

direct_way : (e : Equality) (es : List Equality) (a b : ℕ) → are_joined es a b ≡ true
    → are_joined (e ∷ es) a b ≡ true
direct_way e es a b h = or_first (are_joined es a b) _ h

forth_way : (e : Equality) (es : List Equality) (a b : ℕ) → are_joined es a e.left ≡ true
    → are_joined es e.right b ≡ true → are_joined (e ∷ es) a b ≡ true
forth_way e es a b h k =
    or_right (are_joined es a b) _
    (or_first (are_joined es a e.left && are_joined es e.right b) _
    (and_from (are_joined es a e.left) (are_joined es e.right b) h k))

back_way : (e : Equality) (es : List Equality) (a b : ℕ) → are_joined es a e.right ≡ true
    → are_joined es e.left b ≡ true → are_joined (e ∷ es) a b ≡ true
back_way e es a b h k =
    or_right (are_joined es a b) _
    (or_right (are_joined es a e.left && are_joined es e.right b) _
    (and_from (are_joined es a e.right) (are_joined es e.left b) h k))

-- what is joined by the first equality, and how its other side goes on
first_forth : (e : Equality) (es : List Equality) (a c b : ℕ) → a ≡ e.left → c ≡ e.right
    → are_joined (e ∷ es) c b ≡ true → are_joined (e ∷ es) a b ≡ true
first_forth e es a c b p q h =
    elim (three_ways (are_joined es c b) (are_joined es c e.left) (are_joined es e.right b)
    (are_joined es c e.right) (are_joined es e.left b) h) [
      | inl direct ↦ forth_way e es a b (test_same es a e.left p)
          (subst (λ x. are_joined es x b ≡ true) q direct)
      | inr (inl forth) ↦ forth_way e es a b (test_same es a e.left p) forth.1
      | inr (inr back) ↦ direct_way e es a b (subst (λ x. are_joined es x b ≡ true) (sym p) back.1)
    ]

first_back : (e : Equality) (es : List Equality) (a c b : ℕ) → a ≡ e.right → c ≡ e.left
    → are_joined (e ∷ es) c b ≡ true → are_joined (e ∷ es) a b ≡ true
first_back e es a c b p q h =
    elim (three_ways (are_joined es c b) (are_joined es c e.left) (are_joined es e.right b)
    (are_joined es c e.right) (are_joined es e.left b) h) [
      | inl direct ↦ back_way e es a b (test_same es a e.right p)
          (subst (λ x. are_joined es x b ≡ true) q direct)
      | inr (inl forth) ↦ direct_way e es a b (subst (λ x. are_joined es x b ≡ true) (sym p) forth.1)
      | inr (inr back) ↦ back_way e es a b (test_same es a e.right p) back.1
    ]

rest_before : (e : Equality) (es : List Equality) (a c b : ℕ)
    → ((x : ℕ) → are_joined es c x ≡ true → are_joined es a x ≡ true) → are_joined (e ∷ es) c b ≡ true
    → are_joined (e ∷ es) a b ≡ true
rest_before e es a c b next h =
    elim (three_ways (are_joined es c b) (are_joined es c e.left) (are_joined es e.right b)
    (are_joined es c e.right) (are_joined es e.left b) h) [
      | inl direct ↦ direct_way e es a b (next b direct)
      | inr (inl forth) ↦ forth_way e es a b (next e.left forth.0) forth.1
      | inr (inr back) ↦ back_way e es a b (next e.right back.0) back.1
    ]

one_before : (es : List Equality) (a c b : ℕ) → AreEquated es a c → are_joined es c b ≡ true
    → are_joined es a b ≡ true
one_before [] a c b (inl h) k = absurd (Contains-nil _ h)
one_before [] a c b (inr h) k = absurd (Contains-nil _ h)
one_before (e ∷ es) a c b (inl h) k = elim (Contains-cons_cases e es _ h) [
  | inl is ↦ first_forth e es a c b (ap (λ (x : Equality). x.left) (sym is))
      (ap (λ (x : Equality). x.right) (sym is)) k
  | inr rest ↦ rest_before e es a c b (λ x. one_before es a c x (inl rest)) k
]
one_before (e ∷ es) a c b (inr h) k = elim (Contains-cons_cases e es _ h) [
  | inl is ↦ first_back e es a c b (ap (λ (x : Equality). x.right) (sym is))
      (ap (λ (x : Equality). x.left) (sym is)) k
  | inr rest ↦ rest_before e es a c b (λ x. one_before es a c x (inr rest)) k
]

chain_tested : (es : List Equality) (a : ℕ) (rest : List ℕ) (b : ℕ) → IsChain es a rest b
    → are_joined es a b ≡ true
chain_tested es a [] b p = test_same es a b p
chain_tested es a (c ∷ rest) b p = one_before es a c b p.0 (chain_tested es c rest b p.1)

pub joined_tested : (es : List Equality) (a b : ℕ) → AreJoined es a b → are_joined es a b ≡ true
joined_tested es a b (rest, p) = chain_tested es a rest b p

-- ---- the least member

-- what the first number that passes is
pub record IsFirstThat (test : ℕ → Bool) (low high r : ℕ) : Type 0 where
  pub from : low ≤ r
  pub to : r ≤ high
  pub passes : test high ≡ true → test r ≡ true
  pub least : (q : ℕ) → low ≤ q → q < r → test q ≡ false

first_or_later : (test : ℕ → Bool) (a n high : ℕ) (b : Bool) → test a ≡ b → a + suc n ≡ high →
    IsFirstThat test (a + 1) high (first_that test (range_with_len (a + 1) n) high) →
    IsFirstThat test a high (if b then a else first_that test (range_with_len (a + 1) n) high)
first_or_later test a n high true t e next = record {
  from = omega arith;
  to = omega arith;
  passes = λ _. t;
  least = λ q h k. absurd (omega arith);
}
first_or_later test a n high false t e next = record {
  from = (let h = next.from in omega arith);
  to = next.to;
  passes = next.passes;
  least = λ q h k. elim (at_or_above a q h) [
    | inl is ↦ subst (λ x. test x ≡ false) is t
    | inr above ↦ next.least q above k
  ];
}
  where
    at_or_above : (a q : ℕ) → a ≤ q → (a ≡ q) ⊎ (a + 1 ≤ q)
    at_or_above a q h = grind arith

first_that-is : (test : ℕ → Bool) (a n high : ℕ) → a + n ≡ high
    → IsFirstThat test a high (first_that test (range_with_len a n) high)
first_that-is test a zero high e = record {
  from = omega arith;
  to = omega arith;
  passes = λ h. h;
  least = λ q h k. absurd (omega arith);
}
first_that-is test a (suc n) high e = first_or_later test a n high (test a) refl e
    (first_that-is test (a + 1) n high (omega arith))

-- the least number that is joined to the parameter
pub record IsLeastJoined (es : List Equality) (p c : ℕ) : Type 0 where
  pub joined : AreJoined es p c
  pub least : (q : ℕ) → AreJoined es p q → c ≤ q

pub class_of-least : (es : List Equality) (p : ℕ) → IsLeastJoined es p (class_of es p)
unfolding class_of
class_of-least es p = record {
  joined = tested_joined es p _ (is.passes (test_itself es p));
  least = λ q h. not_below q (joined_tested es p q h);
}
  where
    is : IsFirstThat (are_joined es p) 0 p (first_that (are_joined es p) (range_with_len 0 p) p)
    is = first_that-is (are_joined es p) 0 p p (omega arith)

    below_or_not : (x y : ℕ) → (x < y) ⊎ (y ≤ x)
    below_or_not x y = grind arith

    not_below : (q : ℕ) → are_joined es p q ≡ true → first_that (are_joined es p) (range_with_len 0 p) p ≤ q
    not_below q h = elim (below_or_not q (first_that (are_joined es p) (range_with_len 0 p) p)) [
      | inl below ↦ absurd (false≢true (sym (is.least q (omega arith) below) ∙ h))
      | inr not ↦ not
    ]

pub one_class : (es : List Equality) (p c : ℕ) → IsLeastJoined es p c → class_of es p ≡ c
one_class es p c is =
    let own = class_of-least es p in
    let low = own.least c is.joined in
    let high = is.least (class_of es p) own.joined in omega arith

-- a class is named by its least parameter
pub class_of-within : (es : List Equality) (p : ℕ) → class_of es p ≤ p
class_of-within es p = (class_of-least es p).least p (joined_itself es p)

-- joined parameters are of one class
pub joined_class : (es : List Equality) (p q : ℕ) → AreJoined es p q → class_of es p ≡ class_of es q
joined_class es p q h = one_class es p (class_of es q) (record {
  joined = joined_and es p q (class_of es q) h (class_of-least es q).joined;
  least = λ r k. (class_of-least es q).least r (joined_and es q p r (joined_back es p q h) k);
})

pub class_joined : (es : List Equality) (p q : ℕ) → class_of es p ≡ class_of es q → AreJoined es p q
class_joined es p q h =
    joined_and es p (class_of es p) q (class_of-least es p).joined
    (subst (λ c. AreJoined es c q) (sym h)
    (joined_back es q (class_of es q) (class_of-least es q).joined))

-- the name of a class is of the class
pub class_of-class : (es : List Equality) (p : ℕ) → class_of es (class_of es p) ≡ class_of es p
class_of-class es p = sym (joined_class es p (class_of es p) (class_of-least es p).joined)
