-- Filters of lists that are made block by block or by a map, and the numbers of the blocks.
use Rattle.std.proofs.Common.{◌≡◌, ℕ, ◌+◌, ◌<◌, ◌≤◌, zero, suc, Bool, true, false, cond, List, [], ◌∷◌}
use Rattle.std.proofs.Common.{◌++◌, map, filter, refl, ◌∙◌, ap, arith, Contains}
use Rattle.std.specs.List.{flat_map, range_with_len}
use Rattle.std.proofs.lemmas.List.Elements.{filter-append}
use Rattle.std.proofs.lemmas.List.FromFn.{length-range_with_len, get_or-range_with_len}
use Rattle.pl_rows.proofs.Canonical.{Contains-cons_first, Contains-cons_rest}

-- a list without members is empty
pub no_members : {X : Type 0} (xs : List X) → ((x : X) → Contains xs x → ⊥) → xs ≡ []
no_members [] h = refl
no_members (x ∷ xs) h = absurd (h x (Contains-cons_first x xs))

-- ---- tests that agree on the members

pub filter_agree : {X : Type 0} (p q : X → Bool) (xs : List X) → ((x : X) → Contains xs x → p x ≡ q x) →
    filter p xs ≡ filter q xs
filter_agree p q [] h = refl
filter_agree p q (x ∷ xs) h =
    let first : p x ≡ q x = h x (Contains-cons_first x xs) in
    let rest : filter p xs ≡ filter q xs = filter_agree p q xs (λ y c. h y (Contains-cons_rest x xs y c)) in
    λ i. cond (first i) (x ∷ rest i) (rest i)

-- ---- a filter of a map

kept_image : {X Y : Type 0} (f : X → Y) (x : X) (xs : List X) (ys : List Y) (b : Bool) → ys ≡ map f xs →
    cond b (f x ∷ ys) ys ≡ map f (cond b (x ∷ xs) xs)
kept_image f x xs ys true e = ap (λ zs. f x ∷ zs) e
kept_image f x xs ys false e = e

pub filter-map : {X Y : Type 0} (p : Y → Bool) (f : X → Y) (xs : List X) →
    filter p (map f xs) ≡ map f (filter (λ x. p (f x)) xs)
filter-map p f [] = refl
filter-map p f (x ∷ xs) =
    kept_image f x (filter (λ z. p (f z)) xs) (filter p (map f xs)) (p (f x)) (filter-map p f xs)

-- ---- blocks one after another

pub filter-flat_map : {X Y : Type 0} (p : Y → Bool) (g : X → List Y) (hs : List X) →
    filter p (flat_map g hs) ≡ flat_map (λ h. filter p (g h)) hs
filter-flat_map p g [] = refl
filter-flat_map p g (h ∷ hs) =
    filter-append p (g h) (flat_map g hs) ∙ ap (λ ys. filter p (g h) ++ ys) (filter-flat_map p g hs)

pub blocks_agree : {X Y : Type 0} (f g : X → List Y) (hs : List X) → ((h : X) → Contains hs h → f h ≡ g h) →
    flat_map f hs ≡ flat_map g hs
blocks_agree f g [] same = refl
blocks_agree f g (h ∷ hs) same =
    let first : f h ≡ g h = same h (Contains-cons_first h hs) in
    let rest : flat_map f hs ≡ flat_map g hs =
    blocks_agree f g hs (λ k c. same k (Contains-cons_rest h hs k c)) in
    λ i. first i ++ rest i

pub blocks_none : {X Y : Type 0} (f : X → List Y) (hs : List X) → ((h : X) → Contains hs h → f h ≡ []) →
    flat_map f hs ≡ []
blocks_none f [] none = refl
blocks_none f (h ∷ hs) none =
    ap (λ ys. ys ++ flat_map f hs) (none h (Contains-cons_first h hs))
    ∙ blocks_none f hs (λ k c. none k (Contains-cons_rest h hs k c))

-- ---- numbers from a on

pub range_split : (a n m b j : ℕ) → a + n ≡ b → n + m ≡ j →
    range_with_len a j ≡ range_with_len a n ++ range_with_len b m
range_split a zero m b j e k =
    let start : a ≡ b = omega arith in
    let many : j ≡ m = omega arith in
    λ i. range_with_len (start i) (many i)
range_split a (suc n) m b zero e k = absurd (omega arith)
range_split a (suc n) m b (suc j) e k =
    ap (λ xs. a ∷ xs) (range_split (a + 1) n m b j (omega arith) (omega arith))

pub range_from : (a n x : ℕ) → Contains (range_with_len a n) x → a ≤ x
range_from a n x (i, h, e) =
    let long = length-range_with_len a n in
    let low : i < n = omega arith in
    let at = get_or-range_with_len a n i x low in
    omega arith
