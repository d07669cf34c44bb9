-- The loops over pairs of numbers.
use Rattle.std.proofs.Common.{◌≡◌, ◌+◌, ◌-◌, ◌<◌, ◌≤◌, ℕ, List, [], ◌∷◌, ◌++◌, map, length, get_or, take}
use Rattle.std.proofs.Common.{drop, refl, sym, ap, ◌∙◌, inl, inr, arith}
use Rattle.std.specs.Str.{bytes_eq}
use Rattle.std.proofs.lemmas.List.{map-append, take_more, drop_more, take_all, drop_all, length-drop}
use Rattle.std.proofs.lemmas.Bool.{eq-eqb}
use Rattle.std.proofs.lemmas.Bool.Decides.{eqb_tells}
use Rattle.std.proofs.lemmas.List.Concat.{flat_map-cons}
use Rattle.indexmap.specs.IndexSet.{insert_key}
use Rattle.pl_novel.specs.Keys.{pair_of, pairs_by, pairs_around, pairs_with, with_all, Extends}
use Rattle.pl_novel.proofs.Lists.{all_append, all_extends, extends_by}

-- one more value
pub with_more : (old now new : List (List ℕ)) (pair : List ℕ) (first : ℕ) (others : List ℕ) (i : ℕ)
    → i < length others → now ≡ with_all old (map (pair_of first) (take i others)) →
    pair ≡ pair_of first (get_or others i 0) → new ≡ insert_key bytes_eq now pair
    → new ≡ with_all old (map (pair_of first) (take (i + 1) others))
with_more old now new pair first others i l before made is =
    let cut : map (pair_of first) (take (i + 1) others) ≡ map (pair_of first) (take i others)
    ++ pair_of first (get_or others i 0) ∷ [] =
    ap (map (pair_of first)) (take_more others i 0 l)
    ∙ map-append (pair_of first) (take i others) (get_or others i 0 ∷ []) in
    is ∙ ap (insert_key bytes_eq now) made
    ∙ ap (λ xs. insert_key bytes_eq xs (pair_of first (get_or others i 0))) before
    ∙ sym (all_append old (map (pair_of first) (take i others)) (pair_of first (get_or others i 0) ∷ []))
    ∙ ap (with_all old) (sym cut)

pub with_whole : (old now : List (List ℕ)) (first : ℕ) (others : List ℕ) (i : ℕ) → length others ≤ i
    → now ≡ with_all old (map (pair_of first) (take i others)) →
    now ≡ with_all old (map (pair_of first) others)
with_whole old now first others i l is = is ∙ ap (λ xs. with_all old (map (pair_of first) xs))
    (take_all i others l)

-- a list to which values were added begins with the old one
pub begins : (old now values : List (List ℕ)) → now ≡ with_all old values → Extends old now
begins old now values is = extends_by old (with_all old values) now (all_extends old values) (sym is)

pub begins_more : (old now new : List (List ℕ)) (first : ℕ) (others : List ℕ) (i : ℕ)
    → now ≡ with_all old (map (pair_of first) (take i others)) → new ≡ now → Extends old new
begins_more old now new first others i before same = begins old new (map (pair_of first) (take i others))
    (same ∙ before)

-- the pairs of one more number
pub rest_less : (now new whole : List (List ℕ)) (numbers : List ℕ) (i : ℕ) → i < length numbers
    → with_all now (pairs_by pair_of (drop i numbers)) ≡ whole →
    new ≡ with_all now
    (map (pair_of (get_or numbers i 0)) (take (length numbers - (i + 1)) (drop (i + 1) numbers)))
    → with_all new (pairs_by pair_of (drop (i + 1) numbers)) ≡ whole
rest_less now new whole numbers i l before is =
    let all : take (length numbers - (i + 1)) (drop (i + 1) numbers) ≡ drop (i + 1) numbers =
    take_all (length numbers - (i + 1)) (drop (i + 1) numbers)
    (omega (arith, length-drop (i + 1) numbers)) in
    ap (λ xs. with_all xs (pairs_by pair_of (drop (i + 1) numbers)))
    (is ∙ ap (λ xs. with_all now (map (pair_of (get_or numbers i 0)) xs)) all)
    ∙ sym (all_append now (map (pair_of (get_or numbers i 0)) (drop (i + 1) numbers))
    (pairs_by pair_of (drop (i + 1) numbers)))
    ∙ ap (λ xs. with_all now (pairs_by pair_of xs)) (sym (drop_more numbers i 0 l)) ∙ before

pub rest_none : (now whole : List (List ℕ)) (numbers : List ℕ) (i : ℕ) → length numbers ≤ i
    → with_all now (pairs_by pair_of (drop i numbers)) ≡ whole → now ≡ whole
rest_none now whole numbers i l before = ap (λ xs. with_all now (pairs_by pair_of xs))
    (sym (drop_all i numbers l)) ∙ before

-- the pairs around a number, by the first of the list
pub around_first : (n m : ℕ) (numbers : List ℕ) → m ≡ n
    → pairs_around (m ∷ numbers) n ≡ map (pair_of n) numbers
around_first n m numbers same = rw (eq-eqb m n same) refl

pub around_other : (n m : ℕ) (numbers : List ℕ) → (m ≡ n → ⊥)
    → pairs_around (m ∷ numbers) n ≡ pair_of m n ∷ pairs_around numbers n
around_other n m numbers other = elim (eqb_tells m n) [
  | inl both ↦ absurd (other both.1)
  | inr both ↦ rw both.0 refl
]

pub around_on : (now new whole : List (List ℕ)) (numbers : List ℕ) (number i : ℕ) (pair : List ℕ)
    → i < length numbers → (get_or numbers i 0 ≡ number → ⊥) →
    with_all now (pairs_around (drop i numbers) number) ≡ whole → pair ≡ pair_of (get_or numbers i 0) number
    → new ≡ insert_key bytes_eq now pair →
    with_all new (pairs_around (drop (i + 1) numbers) number) ≡ whole
around_on now new whole numbers number i pair l other before made is =
    ap (λ xs. with_all xs (pairs_around (drop (i + 1) numbers) number))
    (is ∙ ap (insert_key bytes_eq now) made)
    ∙ ap (with_all now) (sym (around_other number (get_or numbers i 0) (drop (i + 1) numbers) other))
    ∙ ap (λ xs. with_all now (pairs_around xs number)) (sym (drop_more numbers i 0 l)) ∙ before

-- the pairs around each of some numbers
pub with_on : (now new whole : List (List ℕ)) (numbers added : List ℕ) (i : ℕ) → i < length added
    → with_all now (pairs_with numbers (drop i added)) ≡ whole →
    new ≡ with_all now (pairs_around numbers (get_or added i 0))
    → with_all new (pairs_with numbers (drop (i + 1) added)) ≡ whole
with_on now new whole numbers added i l before is =
    ap (λ xs. with_all xs (pairs_with numbers (drop (i + 1) added))) is
    ∙ sym (all_append now (pairs_around numbers (get_or added i 0)) (pairs_with numbers (drop (i + 1) added)))
    ∙ ap (with_all now) (sym (flat_map-cons (pairs_around numbers) (get_or added i 0) (drop (i + 1) added)))
    ∙ ap (λ xs. with_all now (pairs_with numbers xs)) (sym (drop_more added i 0 l)) ∙ before

pub with_none : (now whole : List (List ℕ)) (numbers added : List ℕ) (i : ℕ) → length added ≤ i
    → with_all now (pairs_with numbers (drop i added)) ≡ whole → now ≡ whole
with_none now whole numbers added i l before = ap (λ xs. with_all now (pairs_with numbers xs))
    (sym (drop_all i added l)) ∙ before
