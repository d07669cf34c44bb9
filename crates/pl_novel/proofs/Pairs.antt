-- The pairs of an ascending list, and sets of one or two atoms.
use Rattle.std.proofs.Common.{◌≡◌, ◌<◌, ◌≤◌, ℕ, zero, suc, List, [], ◌∷◌, map, length, refl, sym, ap, ◌∙◌}
use Rattle.std.proofs.Common.{subst, inl, inr, All, AllPairs, Contains, arith}
use Rattle.std.specs.declared.cmp.Ordering.TheVariants.{Less}
use Rattle.std.proofs.lemmas.Cmp.{nat_list_cmp_total}
use Rattle.std.proofs.lemmas.List.Elements.{All-nil, All-cons, All-contains, Contains-append_left}
use Rattle.std.proofs.lemmas.List.Elements.{Contains-append_right, Contains-append_cases}
use Rattle.std.proofs.lemmas.Map.Keys.{sorted_tail}
use Rattle.std.proofs.lemmas.Map.Views.{All-after_first}
use Rattle.pl_rows.specs.Rows.{row_cmp, IsAscending}
use Rattle.pl_rows.proofs.Canonical.{not_below_itself}
use Rattle.pl_task.specs.declared.data.Atom.{Atom}
use Rattle.pl_registry.proofs.Lists.{Contains-nil, Contains-cons_cases, Contains-cons_first}
use Rattle.pl_registry.proofs.Lists.{Contains-cons_rest, Contains-map, Contains-map_cases}
use Rattle.pl_novel.specs.AtomSets.{key_of, IsBelow, IsAtomSet}
use Rattle.pl_novel.specs.Keys.{atom_by, pairs_by}

-- two members of the list, the first below the second, that f takes to the value
pub record IsOrderedPair {Y : Type 0} (f : List ℕ → List ℕ → Y) (keys : List (List ℕ))
    (value : Y) : Type 0 where
  pub low : List ℕ
  pub high : List ℕ
  pub low_in : Contains keys low
  pub high_in : Contains keys high
  pub below : row_cmp low high ≡ Less
  pub is : f low high ≡ value

pub first_below : (x : List ℕ) (xs : List (List ℕ)) (y : List ℕ) → IsAscending (x ∷ xs) → Contains xs y
    → row_cmp x y ≡ Less
first_below x xs y s h = All-contains (λ q. row_cmp x q ≡ Less) xs y (All-after_first row_cmp x xs s) h

pub never_below_itself : (x : List ℕ) → row_cmp x x ≡ Less → ⊥
never_below_itself x h = not_below_itself row_cmp nat_list_cmp_total x h

-- the pairs of an ascending list are its ordered pairs
pub pair_ordered : {Y : Type 0} (f : List ℕ → List ℕ → Y) (keys : List (List ℕ)) (value : Y)
    → IsAscending keys → Contains (pairs_by f keys) value → IsOrderedPair f keys value
pair_ordered f [] value s h = absurd (Contains-nil value h)
pair_ordered f (x ∷ xs) value s h = elim (Contains-append_cases (map (f x) xs) (pairs_by f xs) value h) [
  | inl here ↦ (let (y, m, e) = Contains-map_cases (f x) xs value here in
      record {
        low = x;
        high = y;
        low_in = Contains-cons_first x xs;
        high_in =
            Contains-cons_rest x xs y m;
        below = first_below x xs y s m;
        is = e;
      })
  | inr later ↦ (let p = pair_ordered f xs value (sorted_tail row_cmp x xs s) later in
      record {
        low = p.low;
        high = p.high;
        low_in = Contains-cons_rest x xs p.low p.low_in;
        high_in =
            Contains-cons_rest x xs p.high p.high_in;
        below = p.below;
        is = p.is;
      })
]

pub ordered_pair : {Y : Type 0} (f : List ℕ → List ℕ → Y) (keys : List (List ℕ)) (low high : List ℕ)
    → IsAscending keys → Contains keys low → Contains keys high → row_cmp low high ≡ Less →
    Contains (pairs_by f keys) (f low high)
ordered_pair f [] low high s a b less = absurd (Contains-nil low a)
ordered_pair f (x ∷ xs) low high s a b less = elim (Contains-cons_cases x xs low a) [
  | inl is ↦ elim (Contains-cons_cases x xs high b) [
    | inl same ↦ absurd (never_below_itself high (subst (λ k. row_cmp k high ≡ Less) (sym is ∙ same) less))
    | inr rest ↦ Contains-append_left (map (f x) xs) (pairs_by f xs) (f low high)
        (subst (λ k. Contains (map (f x) xs) (f k high)) is (Contains-map (f x) xs high rest))
  ]
  | inr rest ↦ elim (Contains-cons_cases x xs high b) [
    | inl same ↦ absurd
        (never_below_itself x
        (nat_list_cmp_total.trans x low x (first_below x xs low s rest)
        (subst (λ k. row_cmp low k ≡ Less) (sym same) less)))
    | inr more ↦ Contains-append_right (map (f x) xs) (pairs_by f xs) (f low high)
        (ordered_pair f xs low high (sorted_tail row_cmp x xs s) rest more less)
  ]
]

-- a list of two is a set where the first is below the second
one_ascends : (a : Atom) → AllPairs IsBelow (a ∷ [])
one_ascends a i j d l m = absurd (omega (arith, l, m))

two_ascend : (a b : Atom) → IsBelow a b → AllPairs IsBelow (a ∷ b ∷ [])
two_ascend a b h zero zero d l m = absurd (omega (arith, l))
two_ascend a b h zero (suc zero) d l m = h
two_ascend a b h zero (suc (suc j)) d l m = absurd (omega (arith, m))
two_ascend a b h (suc i) j d l m = absurd (omega (arith, l, m))

pub one_is_set : (k : ℕ) (a : Atom) → 1 ≤ k → IsAtomSet k (a ∷ [])
one_is_set k a some = record { some = omega arith; few = some; ascending = one_ascends a }

pub two_is_set : (k : ℕ) (a b : Atom) → 2 ≤ k → IsBelow a b → IsAtomSet k (a ∷ b ∷ [])
two_is_set k a b some below = record { some = omega arith; few = some; ascending = two_ascend a b below }

pub one_all : (P : Atom → Type 0) (a : Atom) → P a → All P (a ∷ [])
one_all P a h = All-cons P a [] h (All-nil P)

pub two_all : (P : Atom → Type 0) (a b : Atom) → P a → P b → All P (a ∷ b ∷ [])
two_all P a b h g = All-cons P a (b ∷ []) h (one_all P b g)

-- a key and its atom
pub key_back : (key : List ℕ) → 0 < length key → key_of (atom_by key) ≡ key
key_back [] l = absurd (omega (arith, l))
key_back (p ∷ o) l = refl

pub same_keys : (a b : List ℕ) → 0 < length a → 0 < length b → atom_by a ≡ atom_by b → a ≡ b
same_keys a b la lb e = sym (key_back a la) ∙ ap key_of e ∙ key_back b lb
