-- First appearances, the classes of edges as lists, and the order of classes.
use Rattle.std.proofs.Common.{◌≡◌, ◌≢◌, ℕ, ◌+◌, ◌-◌, ◌<◌, ◌≤◌, ◌^◌, ◌⊎◌, ◌↔◌, Bool, true, false, not, ◌&&◌}
use Rattle.std.proofs.Common.{◌||◌, cond, eqb, List, [], ◌∷◌, ◌++◌, length, map, reverse, get_or, take, refl}
use Rattle.std.proofs.Common.{sym, ap, ◌∙◌, subst, inl, inr, arith, eq-eqb, ne_eqb, eqb-true, append_assoc}
use Rattle.std.proofs.Common.{append-nil, w64, true≢false, ◌/◌, map-id, le_refl}
use Rattle.std.specs.Prelude.{bit_and, bit_or, slice_index}
use Rattle.std.specs.Int.{bit_at, bit_not}
use Rattle.std.specs.List.{Contains, AllPairs, filter, flat_map, range_with_len}
use Rattle.std.proofs.lemmas.List.{length-reverse, take_more, take_all, map-append, reverse-append}
use Rattle.std.proofs.lemmas.List.FromFn.{filter_of_map_range_with_len_more}
use Rattle.std.proofs.lemmas.List.Concat.{flat_map-append}
use Rattle.std.proofs.lemmas.List.Elements.{filter-append, Contains-append_left, Contains-append_right}
use Rattle.std.proofs.lemmas.List.Elements.{Contains-append_cases, Contains-get_or}
use Rattle.std.proofs.lemmas.List.Kept.{AllPairs-cons, AllPairs-filter}
use Rattle.std.proofs.lemmas.Nat.Bits.{bit_at_not, bit_at-lt, bit_at-zero, shr_and_one}
use Rattle.pl_hyper.specs.declared.ear.Ear.{Ear}
use Rattle.pl_hyper.specs.Ears.{without}
use Rattle.pl_hyper.specs.ClassOrder.{classes_below, classes_of, walk_order, first_appearances, class_order}
use Rattle.pl_hyper.proofs.Members.{same_or_not, here, there, cons_cases, not_in_nil, range_contains}
use Rattle.pl_hyper.proofs.Members.{within_range, range_rises, within_without, without_contains}
use Rattle.pl_hyper.proofs.Members.{without_absent, rises_tail, rises_head}
use Rattle.pl_hyper.proofs.Bits.{and_bit, or_bit}

-- ---- filters

filter_of_filter_cons : (p q : ℕ → Bool) (x : ℕ) (xs : List ℕ) (b : Bool) → q x ≡ b →
    filter p (filter q xs) ≡ filter (λ y. q y && p y) xs →
    filter p (cond b (x ∷ filter q xs) (filter q xs)) ≡ cond (b && p x) (x ∷ filter (λ y. q y && p y) xs)
    (filter (λ y. q y && p y) xs)
filter_of_filter_cons p q x xs true e next = ap (λ zs. cond (p x) (x ∷ zs) zs) next
filter_of_filter_cons p q x xs false e next = next

filter_of_filter : (p q : ℕ → Bool) (xs : List ℕ) → filter p (filter q xs) ≡ filter (λ x. q x && p x) xs
filter_of_filter p q [] = refl
filter_of_filter p q (x ∷ xs) = filter_of_filter_cons p q x xs (q x) refl (filter_of_filter p q xs)

filter_agree_in : (p q : ℕ → Bool) (xs : List ℕ) → ((x : ℕ) → Contains xs x → p x ≡ q x) →
    filter p xs ≡ filter q xs
filter_agree_in p q [] same = refl
filter_agree_in p q (x ∷ xs) same =
    rw (same x (here x xs), filter_agree_in p q xs (λ y h. same y (there x y xs h))) refl

same_bool : (a b : Bool) → (a ≡ true → b ≡ true) → (b ≡ true → a ≡ true) → a ≡ b
same_bool true b f g = sym (f refl)
same_bool false true f g = g refl
same_bool false false f g = refl

filter_all : (xs : List ℕ) → filter (λ y. not false) xs ≡ xs
filter_all [] = refl
filter_all (x ∷ xs) = ap (λ zs. x ∷ zs) (filter_all xs)

or_true : (a : Bool) → (a || true) ≡ true
or_true true = refl
or_true false = refl

not_either : (a b : Bool) → (not a && not b) ≡ not (b || a)
not_either true true = refl
not_either true false = refl
not_either false true = refl
not_either false false = refl

-- ---- a test of membership

abbrev pub member : List ℕ → ℕ → Bool
member [] y = false
member (x ∷ xs) y = eqb y x || member xs y

member_contains_cons : (x : ℕ) (xs : List ℕ) (y : ℕ) → (y ≡ x) ⊎ (y ≢ x) → (eqb y x || member xs y) ≡ true →
    (member xs y ≡ true → Contains xs y) → Contains (x ∷ xs) y
member_contains_cons x xs y (inl s) h next = subst (Contains (x ∷ xs)) (sym s) (here x xs)
member_contains_cons x xs y (inr d) h next = there x y xs (next (rw (ne_eqb y x d) at h))

contains_member_cons : (x : ℕ) (xs : List ℕ) (y : ℕ) → (y ≡ x) ⊎ Contains xs y →
    (Contains xs y → member xs y ≡ true) → (eqb y x || member xs y) ≡ true
contains_member_cons x xs y (inl s) next = rw (eq-eqb y x s) refl
contains_member_cons x xs y (inr k) next = rw (next k) (or_true (eqb y x))

pub member_contains : (xs : List ℕ) (y : ℕ) → member xs y ≡ true → Contains xs y
member_contains [] y h = absurd (cc)
member_contains (x ∷ xs) y h = member_contains_cons x xs y (same_or_not y x) h (member_contains xs y)

pub contains_member : (xs : List ℕ) (y : ℕ) → Contains xs y → member xs y ≡ true
contains_member [] y h = absurd (not_in_nil y h)
contains_member (x ∷ xs) y h = contains_member_cons x xs y (cons_cases x xs y h) (contains_member xs y)

-- ---- first appearances

pub first_appearances-append : (xs ys : List ℕ) → first_appearances (xs ++ ys) ≡ first_appearances xs ++
    filter (λ y. not (member xs y)) (first_appearances ys)
first_appearances-append [] ys = sym (filter_all (first_appearances ys))
first_appearances-append (x ∷ xs) ys =
    ap (λ zs. x ∷ filter (λ y. not (eqb y x)) zs) (first_appearances-append xs ys)
    ∙ ap (λ zs. x ∷ zs) (filter-append (λ y. not (eqb y x)) (first_appearances xs)
    (filter (λ y. not (member xs y)) (first_appearances ys))
    ∙ ap (λ zs. filter (λ y. not (eqb y x)) (first_appearances xs) ++ zs)
    (filter_of_filter (λ y. not (eqb y x)) (λ y. not (member xs y)) (first_appearances ys)
    ∙ filter_agree_in (λ y. not (member xs y) && not (eqb y x)) (λ y. not (eqb y x || member xs y))
    (first_appearances ys) (λ y _. not_either (member xs y) (eqb y x))))

-- a rising list is that of its first appearances
pub first_appearances-rising : (xs : List ℕ) → AllPairs (λ a b. a < b) xs → first_appearances xs ≡ xs
first_appearances-rising [] up = refl
first_appearances-rising (x ∷ xs) up =
    ap (λ zs. x ∷ without x zs) (first_appearances-rising xs (rises_tail x xs up))
    ∙ ap (λ zs. x ∷ zs) (without_absent x xs (λ h. let low = rises_head x xs up x h in omega arith))

first_contains_cons : (x : ℕ) (xs : List ℕ) (y : ℕ) → (y ≡ x) ⊎ (y ≢ x) → (y ≡ x) ⊎ Contains xs y →
    (Contains xs y → Contains (first_appearances xs) y) → Contains (first_appearances (x ∷ xs)) y
first_contains_cons x xs y (inl s) k next = subst (Contains (first_appearances (x ∷ xs))) (sym s)
    (here x (without x (first_appearances xs)))
first_contains_cons x xs y (inr d) (inl s) next = absurd (d s)
first_contains_cons x xs y (inr d) (inr k) next = there x y (without x (first_appearances xs))
    (without_contains x (first_appearances xs) y (next k) d)

pub first_contains : (xs : List ℕ) (y : ℕ) → Contains xs y → Contains (first_appearances xs) y
first_contains [] y h = h
first_contains (x ∷ xs) y h = first_contains_cons x xs y (same_or_not y x)
    (cons_cases x xs y h) (first_contains xs y)

pub within_first : (xs : List ℕ) (y : ℕ) → Contains (first_appearances xs) y → Contains xs y
within_first [] y h = h
within_first (x ∷ xs) y h =
    elim (cons_cases x (without x (first_appearances xs)) y h) [
      | inl s ↦ subst (Contains (x ∷ xs)) (sym s) (here x xs)
      | inr k ↦ there x y xs (within_first xs y (within_without x (first_appearances xs) y k).0)
    ]

pub first_once : (xs : List ℕ) → AllPairs (λ a b. a ≢ b) (first_appearances xs)
first_once [] = λ i j d h k. absurd (omega arith)
first_once (x ∷ xs) =
    AllPairs-cons (λ a b. a ≢ b) x (without x (first_appearances xs))
    (λ k d h s. (within_without x (first_appearances xs) (get_or (without x (first_appearances xs)) k d)
    (Contains-get_or (without x (first_appearances xs)) k d h)).1 (sym s))
    (AllPairs-filter (λ a b. a ≢ b) (λ y. not (eqb y x)) (first_appearances xs) (first_once xs))

-- ---- the classes of an edge

abbrev bit_test : ℕ → ℕ → Bool
bit_test edge class = eqb (bit_at edge class) 1

in_filter_cons : (p : ℕ → Bool) (x : ℕ) (xs : List ℕ) (y : ℕ) (b : Bool) → p x ≡ b →
    Contains (cond b (x ∷ filter p xs) (filter p xs)) y →
    (Contains (filter p xs) y → Contains xs y × (p y ≡ true)) → Contains (x ∷ xs) y × (p y ≡ true)
in_filter_cons p x xs y true e h next =
    elim (cons_cases x (filter p xs) y h) [
      | inl s ↦ (subst (Contains (x ∷ xs)) (sym s) (here x xs), ap p s ∙ e)
      | inr k ↦ (let both = next k in (there x y xs both.0, both.1))
    ]
in_filter_cons p x xs y false e h next = let both = next h in (there x y xs both.0, both.1)

filter_contains_cons : (p : ℕ → Bool) (x : ℕ) (xs : List ℕ) (y : ℕ) → p y ≡ true → (b : Bool) → p x ≡ b →
    (y ≡ x) ⊎ Contains xs y → (Contains xs y → Contains (filter p xs) y) →
    Contains (cond b (x ∷ filter p xs) (filter p xs)) y
filter_contains_cons p x xs y t true e (inl s) next = subst (Contains (x ∷ filter p xs))
    (sym s) (here x (filter p xs))
filter_contains_cons p x xs y t true e (inr k) next = there x y (filter p xs) (next k)
filter_contains_cons p x xs y t false e (inl s) next = absurd (true≢false (sym t ∙ (ap p s ∙ e)))
filter_contains_cons p x xs y t false e (inr k) next = next k

pub in_filter : (p : ℕ → Bool) (xs : List ℕ) (y : ℕ) → Contains (filter p xs) y → Contains xs y × (p y ≡ true)
in_filter p [] y h = absurd (not_in_nil y h)
in_filter p (x ∷ xs) y h = in_filter_cons p x xs y (p x) refl h (in_filter p xs y)

filter_contains : (p : ℕ → Bool) (xs : List ℕ) (y : ℕ) → Contains xs y → p y ≡ true → Contains (filter p xs) y
filter_contains p [] y h t = absurd (not_in_nil y h)
filter_contains p (x ∷ xs) y h t = filter_contains_cons p x xs y t (p x) refl (cons_cases x xs y h)
    (λ k. filter_contains p xs y k t)

in_classes_below : (n edge class : ℕ) → Contains (classes_below n edge) class →
    (class < n) × (bit_at edge class ≡ 1)
in_classes_below n edge class h =
    let both = in_filter (bit_test edge) (range_with_len 0 n) class h in
    (within_range n class both.0, eqb-true (bit_at edge class) 1 both.1)

classes_below_contain : (n edge class : ℕ) → class < n → bit_at edge class ≡ 1 →
    Contains (classes_below n edge) class
classes_below_contain n edge class h b = filter_contains (bit_test edge) (range_with_len 0 n) class
    (range_contains n class h) (eq-eqb (bit_at edge class) 1 b)

classes_below_rise : (n edge : ℕ) → AllPairs (λ a b. a < b) (classes_below n edge)
classes_below_rise n edge = AllPairs-filter (λ a b. a < b) (bit_test edge)
    (range_with_len 0 n) (range_rises n)

pub classes_of-below : (n edge : ℕ) → n ≡ 64 → classes_below n edge ≡ classes_of edge
unfolding classes_of
classes_of-below n edge e = ap (λ m. classes_below m edge) e

pub in_classes : (edge class : ℕ) → Contains (classes_of edge) class → (class < 64) × (bit_at edge class ≡ 1)
unfolding classes_of
in_classes edge class h = in_classes_below 64 edge class h

pub classes_contain : (edge class : ℕ) → class < 64 → bit_at edge class ≡ 1 → Contains (classes_of edge) class
unfolding classes_of
classes_contain edge class h b = classes_below_contain 64 edge class h b

pub classes_rise : (edge : ℕ) → AllPairs (λ a b. a < b) (classes_of edge)
unfolding classes_of
classes_rise edge = classes_below_rise 64 edge

filter_none : (p : ℕ → Bool) (xs : List ℕ) → ((x : ℕ) → p x ≡ false) → filter p xs ≡ []
filter_none p [] none = refl
filter_none p (x ∷ xs) none = rw (none x) (filter_none p xs none)

pub classes_of-zero : classes_of 0 ≡ []
unfolding classes_of
classes_of-zero = filter_none (bit_test 0) (range_with_len 0 64) (λ x. ap (λ b. eqb b 1) (bit_at-zero x))

pub classes_below-more : (n edge : ℕ) → classes_below (n + 1) edge ≡ classes_below n edge ++
    cond (eqb (bit_at edge n) 1) (n ∷ []) []
classes_below-more n edge = simp map-id at (filter_of_map_range_with_len_more (bit_test edge)
    (λ x. x) 0 n n (omega arith))

-- one class more, by the test that the loop makes
pub classes_below-held : (n edge : ℕ) → bit_and (edge / 2 ^ n) 1 ≡ 1 →
    classes_below (n + 1) edge ≡ classes_below n edge ++ n ∷ []
classes_below-held n edge h = classes_below-more n edge ∙ ap (λ b. classes_below n edge ++ cond b (n ∷ []) [])
    (eq-eqb (bit_at edge n) 1 (sym (shr_and_one edge n) ∙ h))

pub classes_below-lacking : (n edge : ℕ) → bit_and (edge / 2 ^ n) 1 ≢ 1 →
    classes_below (n + 1) edge ≡ classes_below n edge
classes_below-lacking n edge h =
    classes_below-more n edge ∙ (ap (λ b. classes_below n edge ++ cond b (n ∷ []) [])
    (ne_eqb (bit_at edge n) 1 (λ k. h (shr_and_one edge n ∙ k))) ∙ append-nil (classes_below n edge))

-- ---- the classes that a walk has met

-- the classes of the edges of a walk, one edge after another
abbrev pub met_by : List ℕ → List ℕ → List ℕ
met_by edges walked = flat_map (λ e. classes_of (slice_index edges e)) walked

pub record AreListed (edges walked order : List ℕ) (met : ℕ) : Type 0 where
  pub order_is : order ≡ first_appearances (met_by edges walked)
  pub met_is : (class : ℕ) → class < 64 → (bit_at met class ≡ 1) ↔ Contains (met_by edges walked) class

pub listed_none : (edges : List ℕ) → AreListed edges [] [] 0
listed_none edges = record {
  order_is = refl;
  met_is = λ c h. (
    λ k. let none = bit_at-zero c in
        absurd (omega (arith, sym none ∙ k)),
    λ k. absurd (not_in_nil c k),
  );
}

zero_flips : (b : ℕ) → b < 2 → b ≢ 1 → 1 - b ≡ 1
zero_flips b h n = omega arith

and_both : (a b : Bool) → (a && b) ≡ true → (a ≡ true) × (b ≡ true)
and_both true b h = (refl, h)
and_both false b h = absurd (cc)

both_and : (a b : Bool) → a ≡ true → b ≡ true → (a && b) ≡ true
both_and a b h k = rw (h, k) refl

pub not_true : (a : Bool) → not a ≡ true → a ≡ true → ⊥
not_true true h k = cc
not_true false h k = cc

true_not : (a : Bool) → (a ≡ true → ⊥) → not a ≡ true
true_not true n = absurd (n refl)
true_not false n = refl

fresh_bit : (edge met class : ℕ) → met < 2 ^ 64 → class < 64 →
    bit_at (bit_and edge (bit_not w64 met)) class ≡ 1 → (bit_at edge class ≡ 1) × (bit_at met class ≢ 1)
fresh_bit edge met class small h k =
    let both = (and_bit edge (bit_not w64 met) class).0 k in
    let flipped = bit_at_not w64 met class small h in
    (both.0, λ m. let other = both.1 in omega (arith, sym flipped ∙ other, m))

bit_fresh : (edge met class : ℕ) → met < 2 ^ 64 → class < 64 → bit_at edge class ≡ 1 → bit_at met class ≢ 1 →
    bit_at (bit_and edge (bit_not w64 met)) class ≡ 1
bit_fresh edge met class small h e m =
    let flipped = bit_at_not w64 met class small h in
    (and_bit edge (bit_not w64 met) class).1 (
      e,
      flipped ∙
          zero_flips (bit_at met class) (bit_at-lt met class) m,
    )

fresh_test : (edge met class : ℕ) (xs : List ℕ) → met < 2 ^ 64 → class < 64 → (bit_at met class ≡ 1) ↔
    Contains xs class → (bit_test edge class && not (member xs class)) ≡ bit_test
    (bit_and edge (bit_not w64 met)) class
fresh_test edge met class xs small h is =
    same_bool (bit_test edge class && not (member xs class)) (bit_test (bit_and edge (bit_not w64 met)) class)
    (λ t.
    let both = and_both (bit_test edge class) (not (member xs class)) t in
    eq-eqb _ 1 (bit_fresh edge met class small h (eqb-true (bit_at edge class) 1 both.0)
    (λ m. not_true (member xs class) both.1 (contains_member xs class (is.0 m)))))
    (λ t.
    let both = fresh_bit edge met class small h
    (eqb-true (bit_at (bit_and edge (bit_not w64 met)) class) 1 t) in
    both_and (bit_test edge class) (not (member xs class)) (eq-eqb (bit_at edge class) 1 both.0)
    (true_not (member xs class) (λ m. both.1 (is.1 (member_contains xs class m)))))

fresh_below : (n edge met : ℕ) (xs : List ℕ) → n ≤ 64 → met < 2 ^ 64 →
    ((class : ℕ) → class < 64 → (bit_at met class ≡ 1) ↔ Contains xs class) →
    filter (λ y. not (member xs y)) (classes_below n edge) ≡ classes_below n (bit_and edge (bit_not w64 met))
fresh_below n edge met xs le small is =
    filter_of_filter (λ y. not (member xs y)) (bit_test edge) (range_with_len 0 n)
    ∙ filter_agree_in (λ y. bit_test edge y && not (member xs y)) (bit_test (bit_and edge (bit_not w64 met)))
    (range_with_len 0 n)
    (λ c h. let low = within_range n c h in let below : c < 64 = omega arith in
    fresh_test edge met c xs small below (is c below))

fresh_classes : (edge met : ℕ) (xs : List ℕ) → met < 2 ^ 64 →
    ((class : ℕ) → class < 64 → (bit_at met class ≡ 1) ↔ Contains xs class) →
    filter (λ y. not (member xs y)) (classes_of edge) ≡ classes_of (bit_and edge (bit_not w64 met))
unfolding classes_of
fresh_classes edge met xs small is = fresh_below 64 edge met xs (le_refl 64) small is

met_by-more : (edges walked : List ℕ) (e : ℕ) → met_by edges (walked ++ e ∷ []) ≡ met_by edges walked ++
    classes_of (slice_index edges e)
met_by-more edges walked e =
    flat_map-append (λ x. classes_of (slice_index edges x)) walked (e ∷ [])
    ∙ ap (λ xs. met_by edges walked ++ xs) (append-nil (classes_of (slice_index edges e)))

order_more : (edges walked order : List ℕ) (met e : ℕ) → met < 2 ^ 64 → AreListed edges walked order met →
    order ++ classes_of (bit_and (slice_index edges e) (bit_not w64 met)) ≡ first_appearances
    (met_by edges (walked ++ e ∷ []))
order_more edges walked order met e small a =
    let xs = met_by edges walked in
    let ys = classes_of (slice_index edges e) in
    ap (λ zs. zs ++ classes_of (bit_and (slice_index edges e) (bit_not w64 met))) a.order_is
    ∙ (ap (λ zs. first_appearances xs ++ zs) (sym (fresh_classes (slice_index edges e) met xs small a.met_is))
    ∙ (ap (λ zs. first_appearances xs ++ filter (λ y. not (member xs y)) zs)
    (sym (first_appearances-rising ys (classes_rise (slice_index edges e))))
    ∙ (sym (first_appearances-append xs ys)
    ∙ ap first_appearances (sym (met_by-more edges walked e)))))

pub listed_more : (edges walked order : List ℕ) (met e : ℕ) (walked' order' : List ℕ) → met < 2 ^ 64 →
    AreListed edges walked order met → walked' ≡ walked ++ e ∷ [] →
    order' ≡ order ++ classes_of (bit_and (slice_index edges e) (bit_not w64 met)) →
    AreListed edges walked' order' (bit_or met (slice_index edges e))
listed_more edges walked order met e walked' order' small a w o = record {
  order_is = o ∙ (order_more edges walked order met e small a ∙
      ap (λ xs. first_appearances (met_by edges xs)) (sym w));
  met_is = λ c h.
      let list = ap (met_by edges) w ∙ met_by-more edges walked e in (
        λ k. subst (λ xs. Contains xs c) (sym list)
            (elim ((or_bit met (slice_index edges e) c).0 k) [
              | inl m ↦ Contains-append_left (met_by edges walked) (classes_of (slice_index edges e)) c
                  ((a.met_is c h).0 m)
              | inr m ↦ Contains-append_right (met_by edges walked) (classes_of (slice_index edges e)) c
                  (classes_contain (slice_index edges e) c h m)
            ]),
        λ k. (or_bit met (slice_index edges e) c).1
            (elim (Contains-append_cases (met_by edges walked) (classes_of (slice_index edges e)) c
            (subst (λ xs. Contains xs c) list k)) [
              | inl m ↦ inl ((a.met_is c h).1 m)
              | inr m ↦ inr (in_classes (slice_index edges e) c m).1
            ]),
      );
}

-- ---- the loop over the classes of an edge

pub append_held : (xs before after : List ℕ) (n edge : ℕ) → before ≡ xs ++ classes_below n edge →
    after ≡ before ++ n ∷ [] → bit_and (edge / 2 ^ n) 1 ≡ 1 → after ≡ xs ++ classes_below (n + 1) edge
append_held xs before after n edge b a h =
    a ∙ (ap (λ ys. ys ++ n ∷ []) b ∙ (append_assoc xs (classes_below n edge) (n ∷ []) ∙
    ap (λ ys. xs ++ ys) (sym (classes_below-held n edge h))))

pub append_lacking : (xs before : List ℕ) (n edge : ℕ) → before ≡ xs ++ classes_below n edge →
    bit_and (edge / 2 ^ n) 1 ≢ 1 → before ≡ xs ++ classes_below (n + 1) edge
append_lacking xs before n edge b h = b ∙ ap (λ ys. xs ++ ys) (sym (classes_below-lacking n edge h))

-- ---- the walk over the removed edges, the last one first

pub walked_more : (core : List ℕ) (removed : List Ear) (k : ℕ) (ear : Ear) → k < length removed →
    ear ≡ get_or (reverse removed) k ear → core ++ map (λ x. x.edge) (take (k + 1) (reverse removed)) ≡
    (core ++ map (λ x. x.edge) (take k (reverse removed))) ++ ear.edge ∷ []
walked_more core removed k ear h e =
    let long = length-reverse removed in
    ap (λ xs. core ++ map (λ x. x.edge) xs) (take_more (reverse removed) k ear (omega arith))
    ∙ (ap (λ xs. core ++ xs) (map-append (λ x. x.edge) (take k (reverse removed))
    (get_or (reverse removed) k ear ∷ []))
    ∙ (sym (append_assoc core (map (λ x. x.edge) (take k (reverse removed)))
    (map (λ x. x.edge) (get_or (reverse removed) k ear ∷ [])))
    ∙ ap (λ x. (core ++ map (λ y. y.edge) (take k (reverse removed))) ++ x.edge ∷ []) (sym e)))

map-reverse_ears : (removed : List Ear) →
    map (λ x. x.edge) (reverse removed) ≡ reverse (map (λ x. x.edge) removed)
map-reverse_ears [] = refl
map-reverse_ears (ear ∷ removed) =
    ap (map (λ x. x.edge)) (reverse-append (ear ∷ []) removed)
    ∙ (map-append (λ x. x.edge) (reverse removed) (ear ∷ [])
    ∙ (ap (λ xs. xs ++ ear.edge ∷ []) (map-reverse_ears removed)
    ∙ sym (reverse-append (ear.edge ∷ []) (map (λ x. x.edge) removed))))

pub walked_all : (edges core : List ℕ) (removed : List Ear) (k : ℕ) → length removed ≤ k →
    core ++ map (λ x. x.edge) (take k (reverse removed)) ≡ walk_order
    (record { edges = edges; removed = removed; core = core })
walked_all edges core removed k h =
    let long = length-reverse removed in
    ap (λ xs. core ++ map (λ x. x.edge) xs) (take_all k (reverse removed) (omega arith)) ∙
    ap (λ xs. core ++ xs) (map-reverse_ears removed)

-- one edge of the core more
pub listed_core : (edges core order : List ℕ) (met i : ℕ) (order' : List ℕ) → i < length core → met < 2 ^ 64 →
    AreListed edges (take i core) order met →
    order' ≡ order ++ classes_of (bit_and (slice_index edges (get_or core i 0)) (bit_not w64 met)) →
    AreListed edges (take (i + 1) core) order' (bit_or met (slice_index edges (get_or core i 0)))
listed_core edges core order met i order' h small a o =
    listed_more edges (take i core) order met (get_or core i 0) (take (i + 1) core) order' small a
    (take_more core i 0 h) o

-- the whole core, and no removed edge
pub listed_whole_core : (edges core order : List ℕ) (removed : List Ear) (met i : ℕ) → length core ≤ i →
    AreListed edges (take i core) order met →
    AreListed edges (core ++ map (λ x. x.edge) (take 0 (reverse removed))) order met
listed_whole_core edges core order removed met i h a = subst (λ xs. AreListed edges xs order met)
    (take_all i core h ∙ sym (append-nil core)) a

-- one removed edge more
pub listed_removed : (edges core order : List ℕ) (removed : List Ear) (met k m : ℕ) (ear : Ear)
    (order' : List ℕ) → m ≡ k + 1 → (k < length (reverse removed)) × (ear ≡ get_or (reverse removed) k ear) →
    met < 2 ^ 64 → AreListed edges (core ++ map (λ x. x.edge) (take k (reverse removed))) order met →
    order' ≡ order ++ classes_of (bit_and (slice_index edges ear.edge) (bit_not w64 met)) →
    AreListed edges (core ++ map (λ x. x.edge) (take m (reverse removed))) order'
    (bit_or met (slice_index edges ear.edge))
listed_removed edges core order removed met k m ear order' s at small a o =
    let long = length-reverse removed in
    let low : k < length removed = (let h = at.0 in omega arith) in
    listed_more edges (core ++ map (λ x. x.edge) (take k (reverse removed))) order met ear.edge
    (core ++ map (λ x. x.edge) (take m (reverse removed))) order' small a
    (ap (λ j. core ++ map (λ x. x.edge) (take j (reverse removed))) s ∙
    walked_more core removed k ear low at.1) o

-- the whole walk
pub listed_all : (edges core order : List ℕ) (removed : List Ear) (met k : ℕ) → k ≡ length (reverse removed) →
    AreListed edges (core ++ map (λ x. x.edge) (take k (reverse removed))) order met →
    order ≡ class_order (record { edges = edges; removed = removed; core = core })
listed_all edges core order removed met k h a =
    let long = length-reverse removed in
    a.order_is ∙ ap (λ xs. first_appearances (met_by edges xs))
    (walked_all edges core removed k (omega arith))
