-- What the keys and pairs say of the noted sets, and how these grow.
use Rattle.std.proofs.Common.{◌≡◌, ◌≢◌, ◌⊎◌, ◌-◌, ◌<◌, ◌≤◌, ℕ, List, [], ◌∷◌, ◌++◌, map, length, get_or, take}
use Rattle.std.proofs.Common.{refl, sym, ap, ◌∙◌, subst, inl, inr, All, AllPairs, Contains, arith}
use Rattle.std.proofs.Common.{length-append}
use Rattle.std.specs.declared.cmp.Ordering.TheVariants.{Less}
use Rattle.std.proofs.lemmas.List.{get_or_append_left, get_or-append_right, get_or-map, length-map}
use Rattle.std.proofs.lemmas.List.{take-append-le, take_all}
use Rattle.std.proofs.lemmas.List.Elements.{All-contains, All-map, All-append, Contains-get_or}
use Rattle.pl_rows.specs.Rows.{row_cmp}
use Rattle.pl_task.specs.declared.data.Atom.{Atom}
use Rattle.pl_registry.proofs.Lists.{Contains-nil, Contains-map_cases}
use Rattle.pl_novel.specs.AtomSets.{key_of, IsAtomSet}
use Rattle.pl_novel.specs.Noting.{AreNoted}
use Rattle.pl_novel.specs.Keys.{atom_by, key_at, pair_of, one_set, two_set, set_by, noted_by, IsPairIn}
use Rattle.pl_novel.specs.Keys.{IsKept, Extends}
use Rattle.pl_novel.proofs.Lists.{AreOnce}
use Rattle.pl_novel.proofs.Pairs.{same_keys, one_is_set, two_is_set, key_back}
use Rattle.pl_novel.proofs.Numberings.{longer}

-- an old list, read behind the new one
pub taken_back : (old new back : List (List ℕ)) (n : ℕ) → Extends old new → n ≡ length old → back ≡ take n new
    → back ≡ old
taken_back old new back n e l b =
    b ∙ (λ i. take (l i) (e.is i)) ∙ take-append-le (length old) old e.more (omega arith)
    ∙ take_all (length old) old (omega arith)

pub key_kept : (old new : List (List ℕ)) (n : ℕ) → Extends old new → n < length old
    → key_at new n ≡ key_at old n
key_kept old new n e l = ap (λ ks. key_at ks n) e.is ∙ get_or_append_left old e.more [] n l

-- a pair of keys of the old list is one of keys of the new one, and stands for the same set
pub pair_on : (old new : List (List ℕ)) (pair : List ℕ) → Extends old new → IsPairIn old pair
    → IsPairIn new pair
pair_on old new pair e p =
    let l = longer old new e in let a = p.first_in in let b = p.second_in in
    record {
      first = p.first;
      second = p.second;
      is = p.is;
      first_in = omega (arith, l, a);
      second_in = omega (arith, l, b);
      below = subst (λ x. row_cmp x (key_at new p.second) ≡ Less) (sym (key_kept old new p.first e a))
          (subst (λ y. row_cmp (key_at old p.first) y ≡ Less) (sym (key_kept old new p.second e b)) p.below);
    }

pub set_on : (old new : List (List ℕ)) (pair : List ℕ) → Extends old new → IsPairIn old pair
    → set_by new pair ≡ set_by old pair
set_on old new pair e p =
    ap (set_by new) p.is
    ∙ (λ i. two_set (key_kept old new p.first e p.first_in i) (key_kept old new p.second e p.second_in i))
    ∙ ap (set_by old) (sym p.is)

-- where no two keys are equal, a key has one number
pub one_number : (keys : List (List ℕ)) (i j : ℕ) → AreOnce keys → i < length keys → j < length keys
    → key_at keys i ≡ key_at keys j → i ≡ j
one_number keys i j once a b same = by_order (three i j)
  where
    three : (i j : ℕ) → (i < j) ⊎ ((j < i) ⊎ (i ≡ j))
    three i j = grind arith

    by_order : (i < j) ⊎ ((j < i) ⊎ (i ≡ j)) → i ≡ j
    by_order (inl less) = absurd (once i j [] less b same)
    by_order (inr (inl more)) = absurd (once j i [] more a (sym same))
    by_order (inr (inr is)) = is

abbrev pub second_of : List Atom → Atom
second_of [] = atom_by []
second_of (a ∷ []) = a
second_of (a ∷ b ∷ set) = b

abbrev pub first_of : List Atom → Atom
first_of [] = atom_by []
first_of (a ∷ set) = a

-- and a set of two has one pair
pub one_pair : (keys : List (List ℕ)) (p q : List ℕ) → AreOnce keys → All (λ key. 0 < length key) keys
    → IsPairIn keys p → IsPairIn keys q → set_by keys p ≡ set_by keys q → p ≡ q
one_pair keys p q once atoms a b same =
    let sets : two_set (key_at keys a.first) (key_at keys a.second) ≡ two_set (key_at keys b.first)
    (key_at keys b.second) = ap (set_by keys) (sym a.is) ∙ same ∙ ap (set_by keys) b.is in
    let firsts : key_at keys a.first ≡ key_at keys b.first =
    same_keys (key_at keys a.first) (key_at keys b.first) (atoms a.first [] a.first_in)
    (atoms b.first [] b.first_in) (ap first_of sets) in
    let seconds : key_at keys a.second ≡ key_at keys b.second =
    same_keys (key_at keys a.second) (key_at keys b.second) (atoms a.second [] a.second_in)
    (atoms b.second [] b.second_in) (ap second_of sets) in
    let f = one_number keys a.first b.first once a.first_in b.first_in firsts in
    let s = one_number keys a.second b.second once a.second_in b.second_in seconds in
    a.is ∙ (λ i. pair_of (f i) (s i)) ∙ sym b.is

pub not_one_and_two : (a b c : List ℕ) → one_set a ≡ two_set b c → ⊥
not_one_and_two a b c e = let l = ap length e in omega (arith, l)

-- lists in which no two values are equal
abbrev pub SetsOnce : List (List Atom) → Type 0
SetsOnce sets = AllPairs (λ (a b : List Atom). a ≢ b) sets

once_map : (f : List ℕ → List Atom) (xs : List (List ℕ)) → AreOnce xs
    → ((x y : List ℕ) → Contains xs x → Contains xs y → f x ≡ f y → x ≡ y) → SetsOnce (map f xs)
once_map f xs once one i j d l m same =
    let last : j < length xs = omega (arith, m, length-map xs f) in
    let first : i < length xs = omega (arith, last, l) in
    once i j [] l last
    (one (get_or xs i []) (get_or xs j []) (Contains-get_or xs i [] first) (Contains-get_or xs j [] last)
    (sym (get_or-map f xs i [] d first) ∙ same ∙ get_or-map f xs j [] d last))

once_append : (xs ys : List (List Atom)) → SetsOnce xs → SetsOnce ys
    → ((x y : List Atom) → Contains xs x → Contains ys y → x ≡ y → ⊥) → SetsOnce (xs ++ ys)
once_append xs ys a b apart i j d l m same = elim (before_or_behind i) [
  | inl left ↦ elim (before_or_behind j) [
    | inl right ↦ a i j d l right (sym (get_or_append_left xs ys d i left) ∙ same
        ∙ get_or_append_left xs ys d j right)
    | inr right ↦ (let within : j - length xs < length ys = omega (arith, right, m, length-append xs ys) in
        apart (get_or xs i d) (get_or ys (j - length xs) d) (Contains-get_or xs i d left)
        (Contains-get_or ys (j - length xs) d within)
        (sym (get_or_append_left xs ys d i left) ∙ same
        ∙ get_or-append_right xs ys (length xs) j d refl right))
  ]
  | inr left ↦ (let right : length xs ≤ j = omega (arith, left, l) in
      let within : j - length xs < length ys = omega (arith, right, m, length-append xs ys) in
      let less : i - length xs < j - length xs = omega (arith, left, l) in
      b (i - length xs) (j - length xs) d less within
      (sym (get_or-append_right xs ys (length xs) i d refl left) ∙ same
      ∙ get_or-append_right xs ys (length xs) j d refl right))
]
  where
    before_or_behind : (n : ℕ) → (n < length xs) ⊎ (length xs ≤ n)
    before_or_behind n = grind arith

-- the sets of keys and pairs are sets of atoms, each once
module _ (width : ℕ) (keys pairs : List (List ℕ)) (kept : IsKept width keys pairs) where
  wide : (p : List ℕ) → Contains pairs p → 2 ≤ width
  wide p h = by_width (cut width kept.some)
    where
      cut : (k : ℕ) → 1 ≤ k → (k ≡ 1) ⊎ (2 ≤ k)
      cut k l = grind arith

      by_width : (width ≡ 1) ⊎ (2 ≤ width) → 2 ≤ width
      by_width (inl one) = absurd (Contains-nil p (subst (λ l. Contains l p) (kept.single one) h))
      by_width (inr two) = two

  all_sets : All (IsAtomSet width) (noted_by width keys pairs).sets
  all_sets = All-append (IsAtomSet width) (map one_set keys) (map (set_by keys) pairs)
      (All-map (IsAtomSet width) one_set keys
      (λ i d l. one_is_set width (atom_by (get_or keys i d)) kept.some))
      (All-map (IsAtomSet width) (set_by keys) pairs
      (λ i d l. of_pair (get_or pairs i d) (Contains-get_or pairs i d l)))
    where
      of_pair : (p : List ℕ) → Contains pairs p → IsAtomSet width (set_by keys p)
      of_pair p h =
          let in_keys = All-contains (IsPairIn keys) pairs p kept.pairs_in h in
          let low = key_back (key_at keys in_keys.first) (kept.atoms in_keys.first [] in_keys.first_in) in
          let high = key_back (key_at keys in_keys.second) (kept.atoms in_keys.second [] in_keys.second_in) in
          subst (λ q. IsAtomSet width (set_by keys q)) (sym in_keys.is)
          (two_is_set width (atom_by (key_at keys in_keys.first)) (atom_by (key_at keys in_keys.second))
          (wide p h)
          (subst (λ x. row_cmp x (key_of (atom_by (key_at keys in_keys.second))) ≡ Less) (sym low)
          (subst (λ y. row_cmp (key_at keys in_keys.first) y ≡ Less) (sym high) in_keys.below)))

  sets_once : SetsOnce (noted_by width keys pairs).sets
  sets_once = once_append (map one_set keys) (map (set_by keys) pairs)
      (once_map one_set keys kept.keys_once
      (λ x y a b e. same_keys x y (All-contains (λ k. 0 < length k) keys x kept.atoms a)
      (All-contains (λ k. 0 < length k) keys y kept.atoms b) (ap first_of e)))
      (once_map (set_by keys) pairs kept.pairs_once
      (λ p q a b e. one_pair keys p q kept.keys_once kept.atoms
      (All-contains (IsPairIn keys) pairs p kept.pairs_in a)
      (All-contains (IsPairIn keys) pairs q kept.pairs_in b) e))
      (λ x y a b e. (let (key, m, f) = Contains-map_cases one_set keys x a in let (pair, n, g) =
      Contains-map_cases (set_by keys) pairs y b in
      not_one_and_two key (key_at keys (get_or pair 0 0)) (key_at keys (get_or pair 1 0)) (f ∙ e ∙ sym g)))

  pub are_noted : AreNoted (noted_by width keys pairs)
  are_noted = record { some = kept.some; few = kept.few; atom_sets = all_sets; once = sets_once }
