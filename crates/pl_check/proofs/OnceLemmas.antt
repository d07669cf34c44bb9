-- Atoms that are put into a set one by one, in the order of their first places.
use Rattle.std.proofs.Common.{◌≡◌, ℕ, ◌+◌, Bool, true, false, not, cond, ◌||◌, List, [], ◌∷◌, ◌++◌, filter}
use Rattle.std.proofs.Common.{refl, sym, ap, ◌∙◌, subst}
use Rattle.std.specs.List.{list_any}
use Rattle.indexmap.specs.IndexSet.{insert_key}
use Rattle.std.proofs.lemmas.Bool.{false≢true}
use Rattle.std.proofs.lemmas.List.Folds.{list_any-append}
use Rattle.std.proofs.lemmas.List.Elements.{filter-append}
use Rattle.pl_task.specs.declared.data.Atom.{Atom}
use Rattle.pl_task.specs.States.{is_same}
use Rattle.pl_task.proofs.StateLemmas.{same_atom, is_same-itself}
use Rattle.pl_check.specs.Stated.{once}

is_same_comm : (a b : Atom) → is_same a b ≡ is_same b a
is_same_comm a b = by_test (is_same a b) refl (is_same b a) refl
  where
    by_test : (s : Bool) → is_same a b ≡ s → (t : Bool) → is_same b a ≡ t → s ≡ t
    by_test true p true q = refl
    by_test true p false q = absurd (false≢true (sym q ∙ ap (λ x. is_same b x) (same_atom a b p) ∙
        is_same-itself b))
    by_test false p true q = absurd (false≢true (sym p ∙ ap (λ x. is_same a x) (same_atom b a q) ∙
        is_same-itself a))
    by_test false p false q = refl

or_true : (b : Bool) → (b || true) ≡ true
or_true true = refl
or_true false = refl

nothing_more : (xs : List Atom) → xs ++ [] ≡ xs
nothing_more [] = refl
nothing_more (y ∷ ys) = ap (λ l. y ∷ l) (nothing_more ys)

-- one atom more is listed where none of those before it is the same
once-push : (xs : List Atom) (a : Atom) →
    once (xs ++ a ∷ []) ≡ cond (list_any (is_same a) xs) (once xs) (once xs ++ a ∷ [])
once-push [] a = refl
once-push (x ∷ xs) a = by_test (once-push xs a) (list_any (is_same a) xs) refl (is_same x a) refl
  where
    by_test : once (xs ++ a ∷ []) ≡ cond (list_any (is_same a) xs) (once xs) (once xs ++ a ∷ []) →
        (s : Bool) → list_any (is_same a) xs ≡ s → (t : Bool) → is_same x a ≡ t →
        x ∷ filter (λ b. not (is_same x b)) (once (xs ++ a ∷ [])) ≡
        cond (is_same a x || list_any (is_same a) xs) (x ∷ filter (λ b. not (is_same x b)) (once xs))
        ((x ∷ filter (λ b. not (is_same x b)) (once xs)) ++ a ∷ [])
    by_test rest true s t q = rw (rest, s, or_true) refl
    by_test rest false s true q =
        rw (rest, s, filter-append, is_same_comm a x, q)
        (ap (λ l. x ∷ l) (nothing_more (filter (λ b. not (is_same x b)) (once xs))))
    by_test rest false s false q = rw (rest, s, filter-append, is_same_comm a x, q) refl

-- atoms that are the same as another one don't tell whether one that isn't is there
any-others : (a x : Atom) → is_same a x ≡ false → (ys : List Atom) →
    list_any (is_same a) (filter (λ b. not (is_same x b)) ys) ≡ list_any (is_same a) ys
any-others a x differ [] = refl
any-others a x differ (y ∷ ys) = by_test (any-others a x differ ys) (is_same x y) refl
  where
    by_test : list_any (is_same a) (filter (λ b. not (is_same x b)) ys) ≡ list_any (is_same a) ys →
        (s : Bool) → is_same x y ≡ s →
        list_any (is_same a) (filter (λ b. not (is_same x b)) (y ∷ ys)) ≡
        (is_same a y || list_any (is_same a) ys)
    by_test rest true s =
        let gone : is_same a y ≡ false = ap (λ b. is_same a b) (sym (same_atom x y s)) ∙ differ in
        rw (s, gone) rest
    by_test rest false s = rw s (ap (λ b. is_same a y || b) rest)

-- the atoms that are listed once are those of the list
any-once : (a : Atom) (xs : List Atom) → list_any (is_same a) (once xs) ≡ list_any (is_same a) xs
any-once a [] = refl
any-once a (x ∷ xs) = by_test (any-once a xs) (is_same a x) refl
  where
    by_test : list_any (is_same a) (once xs) ≡ list_any (is_same a) xs → (s : Bool) → is_same a x ≡ s →
        (is_same a x || list_any (is_same a) (filter (λ b. not (is_same x b)) (once xs))) ≡
        (is_same a x || list_any (is_same a) xs)
    by_test rest true s = rw s refl
    by_test rest false s = rw s (any-others a x s (once xs) ∙ rest)

-- one atom more is put into the set of those before it
pub once_more : (passed keys new : List Atom) (a : Atom) → keys ≡ once passed →
    new ≡ insert_key is_same keys a → new ≡ once (passed ++ a ∷ [])
once_more passed keys new a held is =
    is ∙ ap (λ ks. insert_key is_same ks a) held ∙
    ap (λ b. cond b (once passed) (once passed ++ a ∷ [])) (any-once a passed) ∙
    sym (once-push passed a)
