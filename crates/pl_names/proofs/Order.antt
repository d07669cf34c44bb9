-- The order of entries, and bisection over it.
use Rattle.std.proofs.Common.{◌≡◌, ◌+◌, ◌<◌, ◌≤◌, ◌/◌, ◌^◌, ℕ, zero, suc, Bool, true, false, List, [], ◌∷◌}
use Rattle.std.proofs.Common.{length, get_or, nat_lt, refl, sym, ◌∙◌, subst, ap, inl, inr, arith}
use Rattle.std.specs.declared.cmp.Ordering.{Ordering}
use Rattle.std.specs.declared.cmp.Ordering.TheVariants.{Less, Equal, Greater}
use Rattle.std.specs.Cmp.{IsTotalOrder, IsStrictWeakOrder}
use Rattle.std.specs.Cmp.Lexicographic.{slice_cmp}
use Rattle.std.specs.List.Sorted.{IsSorted}
use Rattle.std.specs.Ordering.{nat_cmp, is_lt, ordering_then, then_cmp, on, ordering_reverse}
use Rattle.std.proofs.Math.Pow.{shr_mono}
use Rattle.std.proofs.lemmas.Bool.{cases_lt, cases_Bool, false≢true}
use Rattle.std.proofs.lemmas.Bool.Decides.{nat_tests}
use Rattle.std.proofs.lemmas.Cmp.{then_total, on_total, nat_cmp_total, nat_list_cmp_total, tied_itself}
use Rattle.std.proofs.lemmas.Cmp.{tied_back}
use Rattle.std.proofs.lemmas.List.Sorted.{ranks_by, sorted_far}
use Rattle.pl_names.specs.declared.entries.Entry.{Entry}
use Rattle.pl_names.specs.Entries.{rank, is_below, begins_below, no_entry, IsNarrowed}

-- a key with a name, and the order of these
pub record Pair : Type 0 where
  pub key : ℕ
  pub name : List ℕ

abbrev pub pair_cmp : Pair → Pair → Ordering
pair_cmp a b = ordering_then (nat_cmp a.key b.key) (slice_cmp nat_cmp a.name b.name)

pub pair_total : IsTotalOrder pair_cmp
pair_total = then_total (on_total (λ (p : Pair). p.key) nat_cmp_total)
    (on_total (λ (p : Pair). p.name) nat_list_cmp_total)

abbrev pub pair_of : Entry → Pair
pair_of entry = record { key = entry.key; name = entry.name.now }

rank_total : IsTotalOrder rank
rank_total =
    then_total (on_total (λ (e : Entry). e.key) nat_cmp_total)
    (then_total (on_total (λ (e : Entry). e.name.now) nat_list_cmp_total)
    (on_total (λ (e : Entry). e.number) nat_cmp_total))

rank_weak : IsStrictWeakOrder (λ (x y : Entry). is_lt (rank x y))
rank_weak = ranks_by rank_total (λ (e : Entry). e)

-- no later entry is less than an earlier one
pub far : (entries : List Entry) → IsSorted rank entries → (i j : ℕ) → i ≤ j → j < length entries →
    is_lt (rank (get_or entries j no_entry) (get_or entries i no_entry)) ≡ false
far entries sorted i j le lt = sorted_far (λ (x y : Entry). is_lt (rank x y)) rank_weak entries
    sorted i j no_entry le lt

-- where the first of two orders says less, so does the whole
first_decides : (o p : Ordering) → is_lt (ordering_then o p) ≡ false → is_lt o ≡ false
first_decides Less p h = h
first_decides Equal p h = refl
first_decides Greater p h = refl

assoc_then : (o p q : Ordering) → ordering_then o (ordering_then p q) ≡ ordering_then (ordering_then o p) q
assoc_then Less p q = refl
assoc_then Equal p q = refl
assoc_then Greater p q = refl

pub pairs_not_less : (a b : Entry) → is_lt (rank b a) ≡ false →
    is_lt (pair_cmp (pair_of b) (pair_of a)) ≡ false
pairs_not_less a b h =
    first_decides (pair_cmp (pair_of b) (pair_of a)) (nat_cmp b.number a.number)
    (rw (assoc_then (nat_cmp b.key a.key) (slice_cmp nat_cmp b.name.now a.name.now)
    (nat_cmp b.number a.number)) at h)

pub keys_rise : (a b : Entry) → is_lt (rank b a) ≡ false → a.key ≤ b.key
keys_rise a b h =
    let first = first_decides (nat_cmp b.key a.key) (ordering_then (slice_cmp nat_cmp b.name.now a.name.now)
    (nat_cmp b.number a.number)) h in
    not_less a.key b.key first
  where
    not_less : (m n : ℕ) → is_lt (nat_cmp n m) ≡ false → m ≤ n
    not_less m n e = grind (arith, nat_tests)

-- what is not less than a lesser thing's upper end
less_below : {K : Type 0} (R : K → K → Ordering) → IsTotalOrder R → (a b n : K) (o : Ordering) → R b a ≡ o →
    is_lt o ≡ false → R b n ≡ Less → R a n ≡ Less
less_below R total a b n Less e f l = absurd (false≢true (sym f))
less_below R total a b n Equal e f l = sym (total.congr b a n e) ∙ l
less_below R total a b n Greater e f l =
    let back : R a b ≡ Less = total.antisymm a b ∙ ap ordering_reverse e in
    total.trans a b n back l

is_less : (o : Ordering) → is_lt o ≡ true → o ≡ Less
is_less Less h = refl
is_less Equal h = absurd (false≢true h)
is_less Greater h = absurd (false≢true h)

-- what is below a key and a name stays so further down
pub below_down : (key : ℕ) (name : List ℕ) (a b : Entry) → is_lt (rank b a) ≡ false →
    is_below key name b ≡ true → is_below key name a ≡ true
below_down key name a b h t =
    let n : Pair = record { key = key; name = name } in
    let less : pair_cmp (pair_of b) n ≡ Less = is_less (pair_cmp (pair_of b) n) t in
    ap is_lt (less_below pair_cmp pair_total (pair_of a) (pair_of b) n (pair_cmp (pair_of b) (pair_of a)) refl
    (pairs_not_less a b h) less)

-- first bits don't fall
pub begins_down : (shift part : ℕ) (a b : Entry) → is_lt (rank b a) ≡ false →
    begins_below shift part b ≡ true → begins_below shift part a ≡ true
begins_down shift part a b h t = let bits : a.key / 2 ^ shift ≤ b.key / 2 ^ shift =
    shr_mono shift (keys_rise a b h) in quotients (a.key / 2 ^ shift) (b.key / 2 ^ shift) bits t
  where
    quotients : (m n : ℕ) → m ≤ n → nat_lt n part ≡ true → nat_lt m part ≡ true
    quotients m n le l = grind (arith, nat_tests)

-- before the first step nothing is known
pub narrowed_none : (p : Entry → Bool) (entries : List Entry) (n : ℕ) → n ≡ length entries →
    IsNarrowed p entries 0 n
narrowed_none p entries n e = record {
  before = λ i h. absurd (omega arith);
  after = λ i h l. absurd (omega arith);
}

-- the entry in the middle passes: so do all before it
pub narrowed_up : (p : Entry → Bool) → ((a b : Entry) → is_lt (rank b a) ≡ false → p b ≡ true → p a ≡ true) →
    (entries : List Entry) (low high middle : ℕ) → IsSorted rank entries → middle < length entries →
    p (get_or entries middle no_entry) ≡ true → IsNarrowed p entries low high →
    IsNarrowed p entries (middle + 1) high
narrowed_up p down entries low high middle sorted lt t n = record {
  before = λ i h. down (get_or entries i no_entry) (get_or entries middle no_entry)
      (far entries sorted i middle (omega arith) lt) t;
  after = n.after;
}

-- the entry in the middle doesn't pass: nor does any after it
pub narrowed_down : (p : Entry → Bool) → ((a b : Entry) → is_lt (rank b a) ≡ false → p b ≡ true →
    p a ≡ true) → (entries : List Entry) (low high middle : ℕ) → IsSorted rank entries →
    p (get_or entries middle no_entry) ≡ false → IsNarrowed p entries low high →
    IsNarrowed p entries low middle
narrowed_down p down entries low high middle sorted f n = record { before = n.before; after = after }
  where
    after : (i : ℕ) → middle ≤ i → i < length entries → p (get_or entries i no_entry) ≡ false
    after i h l = elim (cases_Bool (p (get_or entries i no_entry))) [
      | inr e ↦ e
      | inl e ↦ absurd (false≢true (sym f ∙ down (get_or entries middle no_entry) (get_or entries i no_entry)
          (far entries sorted middle i h l) e))
    ]

-- where a bisection ends
pub narrowed_end : (p : Entry → Bool) (entries : List Entry) (low high : ℕ) → low ≤ high → high ≤ low →
    IsNarrowed p entries low high → IsNarrowed p entries low low
narrowed_end p entries low high h g s = let e : high ≡ low = omega arith in
    subst (λ m. IsNarrowed p entries low m) e s
