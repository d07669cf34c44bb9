-- Members of lists to which others are added one by one, and of lists of pairs.
use Rattle.std.proofs.Common.{◌≡◌, ◌≢◌, ◌⊎◌, ◌<◌, ◌≤◌, ℕ, zero, suc, true, false, List, [], ◌∷◌, ◌++◌, map}
use Rattle.std.proofs.Common.{length, refl, sym, ap, ◌∙◌, subst, inl, inr, Contains, AllPairs, arith}
use Rattle.std.proofs.Common.{append_assoc, length-append}
use Rattle.std.specs.List.{list_any}
use Rattle.std.specs.Str.{bytes_eq}
use Rattle.std.proofs.lemmas.Bool.{cases_Bool, false≢true}
use Rattle.std.proofs.lemmas.List.{get_or_default, append-nil, map-append}
use Rattle.std.proofs.lemmas.List.Elements.{Contains-append_left, Contains-push, Contains-push_cases}
use Rattle.std.proofs.lemmas.List.Folds.{Any-from_list_any, list_any-from_Any}
use Rattle.std.proofs.lemmas.List.Quantifiers.{all_pairs_push}
use Rattle.std.proofs.lemmas.List.Sums.{fold-append}
use Rattle.std.proofs.lemmas.Simd.{map-map}
use Rattle.std.proofs.lemmas.Slice.Eq.{bytes_eq-Decides}
use Rattle.indexmap.specs.IndexSet.{insert_key}
use Rattle.pl_registry.proofs.Lists.{Contains-nil, Contains-cons_cases, Contains-cons_first}
use Rattle.pl_registry.proofs.Lists.{Contains-cons_rest}
use Rattle.pl_novel.specs.Keys.{with_all, pairs_by, pairs_under, Extends}

-- a value that the test finds is a member, and the other way round
pub found_member : (xs : List (List ℕ)) (v : List ℕ) → list_any (bytes_eq v) xs ≡ true → Contains xs v
found_member xs v h =
    let (k, x, l, is, same) = Any-from_list_any (bytes_eq v) xs h in
    let e : v ≡ x = (bytes_eq-Decides v x).0 same in
    (k, l, get_or_default xs k v x l ∙ is ∙ sym e)

pub member_found : (xs : List (List ℕ)) (v : List ℕ) → Contains xs v → list_any (bytes_eq v) xs ≡ true
member_found xs v (k, l, is) = list_any-from_Any (bytes_eq v) xs (k, v, l, is, (bytes_eq-Decides v v).1 refl)

pub not_member : (xs : List (List ℕ)) (v : List ℕ) → list_any (bytes_eq v) xs ≡ false → Contains xs v → ⊥
not_member xs v gone h = false≢true (sym gone ∙ member_found xs v h)

there_stays : (xs : List (List ℕ)) (v : List ℕ) → list_any (bytes_eq v) xs ≡ true
    → insert_key bytes_eq xs v ≡ xs
there_stays xs v there = rw there refl

gone_added : (xs : List (List ℕ)) (v : List ℕ) → list_any (bytes_eq v) xs ≡ false
    → insert_key bytes_eq xs v ≡ xs ++ v ∷ []
gone_added xs v gone = rw gone refl

-- what is true of the list is true of it with one more value
one_extends : (xs : List (List ℕ)) (v : List ℕ) → Extends xs (insert_key bytes_eq xs v)
one_extends xs v = elim (cases_Bool (list_any (bytes_eq v) xs)) [
  | inl there ↦ record { more = []; is = there_stays xs v there ∙ sym (append-nil xs) }
  | inr gone ↦ record { more = v ∷ []; is = gone_added xs v gone }
]

pub extends_itself : (xs : List (List ℕ)) → Extends xs xs
extends_itself xs = record { more = []; is = sym (append-nil xs) }

pub extends_trans : (xs ys zs : List (List ℕ)) → Extends xs ys → Extends ys zs → Extends xs zs
extends_trans xs ys zs a b = record {
  more = a.more ++ b.more;
  is = b.is ∙ ap (λ l. l ++ b.more) a.is ∙ append_assoc xs a.more b.more;
}

pub extends_by : (xs ys zs : List (List ℕ)) → Extends xs ys → ys ≡ zs → Extends xs zs
extends_by xs ys zs a e = subst (Extends xs) e a

pub all_extends : (xs vs : List (List ℕ)) → Extends xs (with_all xs vs)
all_extends xs [] = extends_itself xs
all_extends xs (v ∷ vs) = extends_trans xs (insert_key bytes_eq xs v) (with_all (insert_key bytes_eq xs v) vs)
    (one_extends xs v) (all_extends (insert_key bytes_eq xs v) vs)

one_members : (xs : List (List ℕ)) (v w : List ℕ) → Contains (insert_key bytes_eq xs v) w → Contains xs w
    ⊎ (v ≡ w)
one_members xs v w h = elim (cases_Bool (list_any (bytes_eq v) xs)) [
  | inl there ↦ inl (subst (λ l. Contains l w) (there_stays xs v there) h)
  | inr gone ↦ Contains-push_cases xs v w (subst (λ l. Contains l w) (gone_added xs v gone) h)
]

one_has : (xs : List (List ℕ)) (v : List ℕ) → Contains (insert_key bytes_eq xs v) v
one_has xs v = elim (cases_Bool (list_any (bytes_eq v) xs)) [
  | inl there ↦ subst (λ l. Contains l v) (sym (there_stays xs v there)) (found_member xs v there)
  | inr gone ↦ subst (λ l. Contains l v) (sym (gone_added xs v gone)) (Contains-push xs v)
]

pub extends_has : (xs ys : List (List ℕ)) (w : List ℕ) → Extends xs ys → Contains xs w → Contains ys w
extends_has xs ys w e h = subst (λ l. Contains l w) (sym e.is) (Contains-append_left xs e.more w h)

-- the members are the old ones and the values
pub all_members : (xs vs : List (List ℕ)) (w : List ℕ) → Contains (with_all xs vs) w → Contains xs w
    ⊎ Contains vs w
all_members xs [] w h = inl h
all_members xs (v ∷ vs) w h = elim (all_members (insert_key bytes_eq xs v) vs w h) [
  | inl before ↦ elim (one_members xs v w before) [
    | inl old ↦ inl old
    | inr is ↦ inr (subst (Contains (v ∷ vs)) is (Contains-cons_first v vs))
  ]
  | inr later ↦ inr (Contains-cons_rest v vs w later)
]

pub all_keep : (xs vs : List (List ℕ)) (w : List ℕ) → Contains xs w → Contains (with_all xs vs) w
all_keep xs vs w h = extends_has xs (with_all xs vs) w (all_extends xs vs) h

pub all_have : (xs vs : List (List ℕ)) (w : List ℕ) → Contains vs w → Contains (with_all xs vs) w
all_have xs [] w h = absurd (Contains-nil w h)
all_have xs (v ∷ vs) w h = elim (Contains-cons_cases v vs w h) [
  | inl is ↦ subst (Contains (with_all xs (v ∷ vs))) is
      (all_keep (insert_key bytes_eq xs v) vs v (one_has xs v))
  | inr later ↦ all_have (insert_key bytes_eq xs v) vs w later
]

-- no two are equal
abbrev pub AreOnce : List (List ℕ) → Type 0
AreOnce xs = AllPairs (λ (a b : List ℕ). a ≢ b) xs

one_once : (xs : List (List ℕ)) (v : List ℕ) → AreOnce xs → AreOnce (insert_key bytes_eq xs v)
one_once xs v once = elim (cases_Bool (list_any (bytes_eq v) xs)) [
  | inl there ↦ subst AreOnce (sym (there_stays xs v there)) once
  | inr gone ↦ subst AreOnce (sym (gone_added xs v gone))
      (all_pairs_push (λ (p q : List ℕ). p ≢ q) xs v once
      (λ k d l e. not_member xs v gone (k, l, get_or_default xs k v d l ∙ e)))
]

pub all_once : (xs vs : List (List ℕ)) → AreOnce xs → AreOnce (with_all xs vs)
all_once xs [] once = once
all_once xs (v ∷ vs) once = all_once (insert_key bytes_eq xs v) vs (one_once xs v once)

-- a list that got longer got a value that was not there
pub record HasFresh (xs vs : List (List ℕ)) : Type 0 where
  pub value : List ℕ
  pub among : Contains vs value
  pub fresh : Contains xs value → ⊥

pub grown_fresh : (xs vs : List (List ℕ)) → length xs < length (with_all xs vs) → HasFresh xs vs
grown_fresh xs [] l = absurd (omega (arith, l))
grown_fresh xs (v ∷ vs) l = elim (cases_Bool (list_any (bytes_eq v) xs)) [
  | inl there ↦
      (let more = grown_fresh xs vs
      (subst (λ ys. length xs < length (with_all ys vs)) (there_stays xs v there) l) in
      record {
        value = more.value;
        among = Contains-cons_rest v vs more.value more.among;
        fresh =
            more.fresh;
      })
  | inr gone ↦ record { value = v; among = Contains-cons_first v vs; fresh = not_member xs v gone }
]

-- and one that did not is as it was
pub not_grown : (xs vs : List (List ℕ)) → length (with_all xs vs) ≤ length xs → with_all xs vs ≡ xs
not_grown xs vs l = by_more (all_extends xs vs).more (all_extends xs vs).is
  where
    by_more : (more : List (List ℕ)) → with_all xs vs ≡ xs ++ more → with_all xs vs ≡ xs
    by_more [] is = is ∙ append-nil xs
    by_more (m ∷ more) is =
        absurd (let e = ap length is in let f = length-append xs (m ∷ more) in omega (arith, e, f, l))

pub all_append : (xs vs ws : List (List ℕ)) → with_all xs (vs ++ ws) ≡ with_all (with_all xs vs) ws
all_append xs vs ws = fold-append (insert_key bytes_eq) xs vs ws

-- pairs
pub map-pairs_by : {X Y Z : Type 0} (g : Y → Z) (f : X → X → Y) (xs : List X)
    → map g (pairs_by f xs) ≡ pairs_by (λ x y. g (f x y)) xs
map-pairs_by g f [] = refl
map-pairs_by g f (x ∷ xs) =
    map-append g (map (f x) xs) (pairs_by f xs) ∙ ap (λ l. l ++ map g (pairs_by f xs)) (map-map g (f x) xs)
    ∙ ap (λ l. map (λ y. g (f x y)) xs ++ l) (map-pairs_by g f xs)

pub pairs_by-map : {X Y Z : Type 0} (f : X → X → Y) (h : Z → X) (zs : List Z)
    → pairs_by f (map h zs) ≡ pairs_by (λ x y. f (h x) (h y)) zs
pairs_by-map f h [] = refl
pairs_by-map f h (z ∷ zs) = ap (λ l. l ++ pairs_by f (map h zs)) (map-map (f (h z)) h zs)
    ∙ ap (λ l. map (λ y. f (h z) (h y)) zs ++ l) (pairs_by-map f h zs)

pub map-pairs_under : {X Y Z : Type 0} (k : ℕ) (g : Y → Z) (f : X → X → Y) (xs : List X)
    → map g (pairs_under k f xs) ≡ pairs_under k (λ x y. g (f x y)) xs
map-pairs_under zero g f xs = refl
map-pairs_under (suc zero) g f xs = refl
map-pairs_under (suc (suc k)) g f xs = map-pairs_by g f xs

pub pairs_under-map : {X Y Z : Type 0} (k : ℕ) (f : X → X → Y) (h : Z → X) (zs : List Z)
    → pairs_under k f (map h zs) ≡ pairs_under k (λ x y. f (h x) (h y)) zs
pairs_under-map zero f h zs = refl
pairs_under-map (suc zero) f h zs = refl
pairs_under-map (suc (suc k)) f h zs = pairs_by-map f h zs

pub pairs_under-low : {X Y : Type 0} (k : ℕ) (f : X → X → Y) (xs : List X) → k < 2 → pairs_under k f xs ≡ []
pairs_under-low zero f xs l = refl
pairs_under-low (suc zero) f xs l = refl
pairs_under-low (suc (suc k)) f xs l = absurd (omega (arith, l))

pub pairs_under-high : {X Y : Type 0} (k : ℕ) (f : X → X → Y) (xs : List X) → 2 ≤ k
    → pairs_under k f xs ≡ pairs_by f xs
pairs_under-high zero f xs l = absurd (omega (arith, l))
pairs_under-high (suc zero) f xs l = absurd (omega (arith, l))
pairs_under-high (suc (suc k)) f xs l = refl
