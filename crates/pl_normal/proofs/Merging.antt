-- The classes after one equality more.
use Rattle.std.proofs.Common.{◌≡◌, ◌≢◌, ℕ, ◌+◌, ◌<◌, ◌≤◌, suc, if◌then◌else◌, List, [], ◌∷◌, ◌++◌, ◌⊎◌, inl}
use Rattle.std.proofs.Common.{inr, length, map, take, get_or, refl, sym, ◌∙◌, ap, subst, arith, min, max}
use Rattle.std.proofs.Common.{eq-eqb, ne_eqb, Contains, append-nil}
use Rattle.std.specs.Prelude.{slice_index}
use Rattle.std.specs.List.{range_with_len}
use Rattle.std.proofs.lemmas.List.Elements.{Contains-append_left, Contains-append_cases, Contains-push}
use Rattle.std.proofs.lemmas.List.FromFn.{get_or-map-range_with_len}
use Rattle.pl_rows.proofs.Canonical.{Contains-cons_cases, Contains-cons_first, Contains-nil}
use Rattle.pl_hyper.proofs.Members.{same_or_not}
use Rattle.pl_task.specs.declared.data.Literal.{Literal}
use Rattle.pl_task.specs.declared.data.Literal.TheVariants as literal
use Rattle.pl_task.specs.declared.data.Term.TheVariants as term
use Rattle.pl_normal.specs.Classes.{Equality, AreEquated, IsChain, AreJoined, literal_equality, equalities}
use Rattle.pl_normal.specs.Classes.{class_of}
use Rattle.pl_normal.specs.Scope.{IsLiteralBelow, renamed, joined_by}
use Rattle.pl_normal.proofs.Joined.{joined_and, joined_itself, joined_once, joined_back, class_of-least}
use Rattle.pl_normal.proofs.Joined.{one_class, class_of-within, joined_class}
use Rattle.pl_normal.proofs.Loops.{flat_more}

-- ---- what stays joined

equated_with : (es : List Equality) (e : Equality) (a b : ℕ) → AreEquated es a b
    → AreEquated (es ++ e ∷ []) a b
equated_with es e a b (inl h) = inl (Contains-append_left es (e ∷ []) _ h)
equated_with es e a b (inr h) = inr (Contains-append_left es (e ∷ []) _ h)

chain_with : (es : List Equality) (e : Equality) (a : ℕ) (rest : List ℕ) (b : ℕ) → IsChain es a rest b
    → IsChain (es ++ e ∷ []) a rest b
chain_with es e a [] b p = p
chain_with es e a (c ∷ rest) b p = (equated_with es e a c p.0, chain_with es e c rest b p.1)

joined_with : (es : List Equality) (e : Equality) (a b : ℕ) → AreJoined es a b → AreJoined (es ++ e ∷ []) a b
joined_with es e a b (rest, p) = (rest, chain_with es e a rest b p)

joined_last : (es : List Equality) (e : Equality) → AreJoined (es ++ e ∷ []) e.left e.right
joined_last es e = joined_once (es ++ e ∷ []) e.left e.right (inl (Contains-push es e))

-- ---- the name after the last equality

renamed_at : (x y c : ℕ) → c ≡ max x y → renamed x y c ≡ min x y
renamed_at x y c h = ap (λ b. if b then min x y else c) (eq-eqb c (max x y) h)

renamed_other : (x y c : ℕ) → c ≢ max x y → renamed x y c ≡ c
renamed_other x y c h = ap (λ b. if b then min x y else c) (ne_eqb c (max x y) h)

renamed_low : (x y c : ℕ) → c ≡ min x y → renamed x y c ≡ min x y
renamed_low x y c h = elim (same_or_not c (max x y)) [
  | inl e ↦ renamed_at x y c e
  | inr n ↦ renamed_other x y c n ∙ h
]

renamed_within : (x y c : ℕ) → renamed x y c ≤ c
renamed_within x y c = elim (same_or_not c (max x y)) [
  | inl e ↦ (let at = renamed_at x y c e in omega arith)
  | inr n ↦ (let at = renamed_other x y c n in omega arith)
]

max_cases : (x y : ℕ) → ((max x y ≡ x) × (min x y ≡ y)) ⊎ ((max x y ≡ y) × (min x y ≡ x))
max_cases x y = grind arith

renamed_left : (x y : ℕ) → renamed x y x ≡ min x y
renamed_left x y = elim (max_cases x y) [
  | inl h ↦ renamed_at x y x (sym h.0)
  | inr h ↦ renamed_low x y x (sym h.1)
]

renamed_right : (x y : ℕ) → renamed x y y ≡ min x y
renamed_right x y = elim (max_cases x y) [
  | inl h ↦ renamed_low x y y (sym h.1)
  | inr h ↦ renamed_at x y y (sym h.0)
]

-- the name of a parameter's class after the last equality
abbrev name_after : List Equality → Equality → ℕ → ℕ
name_after es e p = renamed (class_of es e.left) (class_of es e.right) (class_of es p)

equated_name : (es : List Equality) (e : Equality) (a b : ℕ)
    → Contains (es ++ e ∷ []) (record { left = a; right = b }) → name_after es e a ≡ name_after es e b
equated_name es e a b h = elim (Contains-append_cases es (e ∷ []) _ h) [
  | inl old ↦ ap (renamed (class_of es e.left) (class_of es e.right))
      (joined_class es a b (joined_once es a b (inl old)))
  | inr new ↦ elim (Contains-cons_cases e [] _ new) [
    | inl is ↦ both_names (ap (λ (x : Equality). x.left) is) (ap (λ (x : Equality). x.right) is)
    | inr r ↦ absurd (Contains-nil _ r)
  ]
]
  where
    both_names : e.left ≡ a → e.right ≡ b → name_after es e a ≡ name_after es e b
    both_names p q =
        ap (name_after es e) (sym p)
        ∙ (renamed_left (class_of es e.left) (class_of es e.right)
        ∙ (sym (renamed_right (class_of es e.left) (class_of es e.right)) ∙ ap (name_after es e) q))

-- an equality joins two parameters both ways
step_name : (es : List Equality) (e : Equality) (a b : ℕ) → AreEquated (es ++ e ∷ []) a b
    → name_after es e a ≡ name_after es e b
step_name es e a b (inl h) = equated_name es e a b h
step_name es e a b (inr h) = sym (equated_name es e b a h)

chain_name : (es : List Equality) (e : Equality) (a : ℕ) (rest : List ℕ) (b : ℕ)
    → IsChain (es ++ e ∷ []) a rest b → name_after es e a ≡ name_after es e b
chain_name es e a [] b p = ap (name_after es e) p
chain_name es e a (c ∷ rest) b p = step_name es e a c p.0 ∙ chain_name es e c rest b p.1

-- a parameter is joined to the name of its class
name_joined : (es : List Equality) (e : Equality) (p : ℕ) → AreJoined (es ++ e ∷ []) p (name_after es e p)
name_joined es e p = elim (same_or_not (class_of es p) (max (class_of es e.left) (class_of es e.right))) [
  | inl at ↦ subst (AreJoined (es ++ e ∷ []) p)
      (sym (renamed_at (class_of es e.left) (class_of es e.right) (class_of es p) at))
      (over at (max_cases (class_of es e.left) (class_of es e.right)))
  | inr n ↦ subst (AreJoined (es ++ e ∷ []) p)
      (sym (renamed_other (class_of es e.left) (class_of es e.right) (class_of es p) n))
      (joined_with es e p (class_of es p) (class_of-least es p).joined)
]
  where
    -- p and a parameter of the same class
    alike : (q : ℕ) → class_of es p ≡ class_of es q → AreJoined (es ++ e ∷ []) p q
    alike q h =
        joined_and (es ++ e ∷ []) p (class_of es p) q
        (joined_with es e p (class_of es p) (class_of-least es p).joined)
        (subst (λ c. AreJoined (es ++ e ∷ []) c q) (sym h)
        (joined_back (es ++ e ∷ []) q (class_of es q)
        (joined_with es e q (class_of es q) (class_of-least es q).joined)))

    named : (q : ℕ) → AreJoined (es ++ e ∷ []) q (class_of es q)
    named q = joined_with es e q (class_of es q) (class_of-least es q).joined

    over : class_of es p ≡ max (class_of es e.left) (class_of es e.right) →
        ((max (class_of es e.left) (class_of es e.right) ≡ class_of es e.left)
        × (min (class_of es e.left) (class_of es e.right) ≡ class_of es e.right))
        ⊎ ((max (class_of es e.left) (class_of es e.right) ≡ class_of es e.right)
        × (min (class_of es e.left) (class_of es e.right) ≡ class_of es e.left)) →
        AreJoined (es ++ e ∷ []) p (min (class_of es e.left) (class_of es e.right))
    over at (inl h) =
        subst (AreJoined (es ++ e ∷ []) p) (sym h.1)
        (joined_and (es ++ e ∷ []) p e.left (class_of es e.right) (alike e.left (at ∙ h.0))
        (joined_and (es ++ e ∷ []) e.left e.right (class_of es e.right) (joined_last es e) (named e.right)))
    over at (inr h) =
        subst (AreJoined (es ++ e ∷ []) p) (sym h.1)
        (joined_and (es ++ e ∷ []) p e.right (class_of es e.left) (alike e.right (at ∙ h.0))
        (joined_and (es ++ e ∷ []) e.right e.left (class_of es e.left)
        (joined_back (es ++ e ∷ []) e.left e.right (joined_last es e)) (named e.left)))

pub class_of-more : (es : List Equality) (e : Equality) (p : ℕ)
    → class_of (es ++ e ∷ []) p ≡ name_after es e p
class_of-more es e p = one_class (es ++ e ∷ []) p (name_after es e p) (record {
  joined = name_joined es e p;
  least = λ q (rest, chain).
      let same : name_after es e p ≡ name_after es e q = chain_name es e p rest q chain in
      let low = renamed_within (class_of es e.left) (class_of es e.right) (class_of es q) in
      let own = class_of-within es q in
      omega arith;
})

-- ---- lists of classes

map_named : (es : List Equality) (e : Equality) (ps : List ℕ)
    → map (renamed (class_of es e.left) (class_of es e.right)) (map (class_of es) ps) ≡ map
    (class_of (es ++ e ∷ [])) ps
map_named es e [] = refl
map_named es e (p ∷ ps) =
    let first = sym (class_of-more es e p) in
    let rest = map_named es e ps in cc

none_chain : (a : ℕ) (rest : List ℕ) (b : ℕ) → IsChain [] a rest b → a ≡ b
none_chain a [] b p = p
none_chain a (c ∷ rest) b (inl h, q) = absurd (Contains-nil _ h)
none_chain a (c ∷ rest) b (inr h, q) = absurd (Contains-nil _ h)

class_of-none : (p : ℕ) → class_of [] p ≡ p
class_of-none p = one_class [] p p (record {
  joined = joined_itself [] p;
  least = λ q (rest, chain). let same = none_chain p rest q chain in omega arith;
})

map_none : (ps : List ℕ) → map (class_of []) ps ≡ ps
map_none [] = refl
map_none (p ∷ ps) =
    let first = class_of-none p in
    let rest = map_none ps in cc

pub joined_none : (classes : List ℕ) → classes ≡ range_with_len 0 (length classes)
    → classes ≡ map (class_of []) (range_with_len 0 (length classes))
joined_none classes h = h ∙ sym (map_none (range_with_len 0 (length classes)))

-- the parameters of an equality are below the number of parameters
equality_below : (n : ℕ) (l : Literal) (e : Equality) → IsLiteralBelow n l → Contains (literal_equality l) e
    → (e.left < n) × (e.right < n)
equality_below n (literal.Atom a) e is c = absurd (Contains-nil e c)
equality_below n (literal.NotAtom a) e is c = absurd (Contains-nil e c)
equality_below n (literal.NotEqual a b) e is c = absurd (Contains-nil e c)
equality_below n (literal.Equal (term.Object a) b) e is c = absurd (Contains-nil e c)
equality_below n (literal.Equal (term.Parameter a) (term.Object b)) e is c = absurd (Contains-nil e c)
equality_below n (literal.Equal (term.Parameter a) (term.Parameter b)) e is c =
    elim (Contains-cons_cases (record { left = a; right = b }) [] e c) [
      | inl same ↦ subst (λ (x : Equality). (x.left < n) × (x.right < n)) same (
        is.equal_left (term.Parameter a) (term.Parameter b) refl a refl,
        is.equal_right (term.Parameter a) (term.Parameter b) refl b refl,
      )
      | inr r ↦ absurd (Contains-nil e r)
    ]

joined_by-append : (es new : List Equality) (n : ℕ) (classes : List ℕ)
    → ((e : Equality) → Contains new e → (e.left < n) × (e.right < n))
    → classes ≡ map (class_of es) (range_with_len 0 n)
    → joined_by new classes ≡ map (class_of (es ++ new)) (range_with_len 0 n)
joined_by-append es [] n classes below h = h ∙ ap (λ xs. map (class_of xs) (range_with_len 0 n))
    (sym (append-nil es))
joined_by-append es (e ∷ new) n classes below h =
    let within = below e (Contains-cons_first e new) in
    let left : slice_index classes e.left ≡ class_of es e.left = ap (λ xs. slice_index xs e.left) h
    ∙ get_or-map-range_with_len (class_of es) 0 n e.left e.left 0 within.0 (omega arith) in
    let right : slice_index classes e.right ≡ class_of es e.right = ap (λ xs. slice_index xs e.right) h
    ∙ get_or-map-range_with_len (class_of es) 0 n e.right e.right 0 within.1 (omega arith) in
    let step : map (renamed (slice_index classes e.left) (slice_index classes e.right)) classes ≡ map
    (class_of (es ++ e ∷ [])) (range_with_len 0 n) =
    (λ i. map (renamed (left i) (right i)) (h i)) ∙ map_named es e (range_with_len 0 n) in
    joined_by-append (es ++ e ∷ []) new n
    (map (renamed (slice_index classes e.left) (slice_index classes e.right)) classes)
    (λ x (k, low, at). below x (suc k, omega arith, at)) step
    ∙ ap (λ xs. map (class_of xs) (range_with_len 0 n)) (again es)
  where
    again : (xs : List Equality) → (xs ++ e ∷ []) ++ new ≡ xs ++ e ∷ new
    again [] = refl
    again (x ∷ xs) = ap (λ ys. x ∷ ys) (again xs)

-- the classes after one literal more
pub joined_more_by : (condition : List Literal) (i n : ℕ) (l : Literal) (before after : List ℕ)
    → i < length condition → l ≡ get_or condition i l → IsLiteralBelow n l
    → before ≡ map (class_of (equalities (take i condition))) (range_with_len 0 n)
    → after ≡ joined_by (literal_equality l) before →
    after ≡ map (class_of (equalities (take (i + 1) condition))) (range_with_len 0 n)
joined_more_by condition i n l before after h at below b a =
    a ∙ (joined_by-append (equalities (take i condition)) (literal_equality l) n before
    (λ e c. equality_below n l e below c) b
    ∙ ap (λ xs. map (class_of xs) (range_with_len 0 n))
    (flat_more literal_equality condition i l (equalities (take i condition)) _ h at refl refl))
