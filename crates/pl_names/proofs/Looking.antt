-- Looking a name up in the entries of a list.
use Rattle.std.proofs.Common.{◌≡◌, ◌+◌, ◌-◌, ◌<◌, ◌≤◌, ◌/◌, ◌^◌, ℕ, zero, suc, Bool, true, false, List, []}
use Rattle.std.proofs.Common.{◌∷◌, length, get_or, nat_lt, eqb, Option, Some, None, slice_get, refl, sym, ◌∙◌}
use Rattle.std.proofs.Common.{subst, ap, inl, inr, ◌⊎◌, eqb-true, arith}
use Rattle.std.specs.declared.cmp.Ordering.{Ordering}
use Rattle.std.specs.declared.cmp.Ordering.TheVariants.{Less, Equal, Greater}
use Rattle.std.specs.Cmp.Lexicographic.{slice_cmp}
use Rattle.std.specs.List.{list_any}
use Rattle.std.specs.Option.{is_some}
use Rattle.std.specs.Str.{bytes_eq}
use Rattle.std.specs.Ordering.{nat_cmp, is_lt, ordering_then, ordering_reverse}
use Rattle.std.proofs.Math.Pow.{shr_mono}
use Rattle.std.proofs.lemmas.Bool.{cases_lt, cases_Bool, false≢true}
use Rattle.std.proofs.lemmas.Bool.Decides.{nat_tests}
use Rattle.std.proofs.lemmas.Cmp.{nat_cmp_total, nat_list_cmp_total, tied_itself}
use Rattle.std.proofs.lemmas.List.{get_or_read}
use Rattle.std.proofs.lemmas.Slice.Eq.{bytes_eq-Decides}
use Rattle.std.proofs.lemmas.Map.Lookups.{exact_bytes}
use Rattle.std.proofs.lemmas.Option.{slice_get_within}
use Rattle.pl_names.specs.declared.entries.Entry.{Entry}
use Rattle.pl_names.specs.Names.{number_among}
use Rattle.pl_names.specs.Entries.{key_of, rank, is_below, begins_below, no_entry, number_at, IsNarrowed}
use Rattle.pl_names.specs.Entries.{IsEntryOf, AreEntriesOf, IsDirectory}
use Rattle.pl_names.proofs.Numbers.{none_is, least_is}
use Rattle.pl_names.proofs.Order.{Pair, pair_cmp, pair_of, pair_total, far, pairs_not_less}

-- ---- one entry against a key and a name

lesser_key : (key : ℕ) (name : List ℕ) (e : Entry) → e.key < key → is_below key name e ≡ true
lesser_key key name e l = let less : nat_cmp e.key key ≡ Less = grind (arith, nat_tests) in rw less refl

greater_key : (key : ℕ) (name : List ℕ) (e : Entry) → key < e.key → is_below key name e ≡ false
greater_key key name e l = let more : nat_cmp e.key key ≡ Greater = grind (arith, nat_tests) in rw more refl

nothing_less : (name : List ℕ) → is_lt (slice_cmp nat_cmp name []) ≡ false
nothing_less [] = refl
nothing_less (b ∷ name) = refl

equal_keys : (key : ℕ) (e : Entry) → e.key ≡ key → nat_cmp e.key key ≡ Equal
equal_keys key e h = rw h (tied_itself nat_cmp_total key)

-- an entry with the key isn't below it and the empty name, and one of the name isn't below itself
pub not_below_empty : (key : ℕ) (e : Entry) → e.key ≡ key → is_below key [] e ≡ false
not_below_empty key e h = rw (equal_keys key e h) (nothing_less e.name.now)

pub not_below_itself : (key : ℕ) (name : List ℕ) (e : Entry) → e.key ≡ key → e.name.now ≡ name →
    is_below key name e ≡ false
not_below_itself key name e h s = rw (equal_keys key e h, s, tied_itself nat_list_cmp_total name) refl

-- what is below the empty name is so by its key, and then below each name
pub below_each_name : (key : ℕ) (name : List ℕ) (e : Entry) → is_below key [] e ≡ true →
    is_below key name e ≡ true
below_each_name key name e h = elim (cases_lt e.key key) [
  | inl l ↦ lesser_key key name e l
  | inr g ↦ (elim (cases_lt key e.key) [
    | inl m ↦ absurd (false≢true (sym (greater_key key [] e m) ∙ h))
    | inr k ↦ (let same : e.key ≡ key = omega arith in
        absurd (false≢true (sym (not_below_empty key e same) ∙ h)))
  ])
]

-- of two entries of one name, the one with the lesser number is less
numbers_decide : (a b : Entry) → a.key ≡ b.key → a.name.now ≡ b.name.now →
    a.number < b.number → is_lt (rank a b) ≡ true
numbers_decide a b k s l =
    let keys : nat_cmp a.key b.key ≡ Equal = rw k (tied_itself nat_cmp_total b.key) in
    let names : slice_cmp nat_cmp a.name.now b.name.now ≡ Equal =
    rw s (tied_itself nat_list_cmp_total b.name.now) in
    let less : nat_cmp a.number b.number ≡ Less = grind (arith, nat_tests) in
    rw (keys, names, less) refl

-- ---- the entry of a place

pub record IsAt (entries : List Entry) (name : List ℕ) (m : ℕ) (i : ℕ) : Type 0 where
  pub within : i < length entries
  pub number : (get_or entries i no_entry).number ≡ m
  pub key : (get_or entries i no_entry).key ≡ key_of name
  pub name_is : (get_or entries i no_entry).name.now ≡ name

some_index : (entries : List Entry) (m : ℕ) → list_any (λ (entry : Entry). eqb entry.number m) entries ≡
    true → (i : ℕ) × (i < length entries) × ((get_or entries i no_entry).number ≡ m)
some_index [] m h = absurd (false≢true h)
some_index (e ∷ entries) m h = from (λ k. some_index entries m k) (cases_Bool (eqb e.number m))
  where
    from : (list_any (λ (entry : Entry). eqb entry.number m) entries ≡ true → (i : ℕ) × (i < length entries) ×
        ((get_or entries i no_entry).number ≡ m)) → (eqb e.number m ≡ true) ⊎ (eqb e.number m ≡ false) →
        (i : ℕ) × (i < length (e ∷ entries)) × ((get_or (e ∷ entries) i no_entry).number ≡ m)
    from next (inl t) = (0, omega arith, eqb-true e.number m t)
    from next (inr f) = let found = next (rw f at h) in (suc found.0, omega (arith, found.1), found.2)

pub entry_at : (names : List (List ℕ)) (entries : List Entry) (name : List ℕ) (m : ℕ) →
    AreEntriesOf names entries → slice_get names m ≡ Some name → (i : ℕ) × IsAt entries name m i
entry_at names entries name m are h =
    (i, record { within = within; number = number; key = key; name_is = name_is })
  where
    found : (i : ℕ) × (i < length entries) × ((get_or entries i no_entry).number ≡ m)
    found = some_index entries m (are.whole m (slice_get_within names m name h))

    i : ℕ
    i = found.0

    within : i < length entries
    within = found.1

    number : (get_or entries i no_entry).number ≡ m
    number = found.2

    sound : IsEntryOf names (get_or entries i no_entry)
    sound = are.sound i no_entry within

    name_is : (get_or entries i no_entry).name.now ≡ name
    name_is =
        let stands : slice_get names m ≡ Some (get_or entries i no_entry).name.now =
        rw number at sound.name in
        let both : ◌≡◌ {A = Option (List ℕ)} (Some (get_or entries i no_entry).name.now) (Some name) =
        sym stands ∙ h in
        cc

    key : (get_or entries i no_entry).key ≡ key_of name
    key = sound.key ∙ ap key_of name_is

equal_lists : (xs ys : List ℕ) → slice_cmp nat_cmp xs ys ≡ Equal → xs ≡ ys
equal_lists xs ys h = exact_bytes xs ys h

-- two entries that tie by key and name have one name
same_names : (a b : Entry) → pair_cmp (pair_of a) (pair_of b) ≡ Equal → a.name.now ≡ b.name.now
same_names a b h = by_first (nat_cmp a.key b.key) (slice_cmp nat_cmp a.name.now b.name.now) h refl
  where
    by_first : (o p : Ordering) → ordering_then o p ≡ Equal → p ≡ slice_cmp nat_cmp a.name.now b.name.now →
        a.name.now ≡ b.name.now
    by_first Less p e s = cc
    by_first Greater p e s = cc
    by_first Equal p e s = equal_lists a.name.now b.name.now (sym s ∙ e)

-- ---- what a look-up finds

-- the entry at the first place that isn't below, if it is of the name, has the name's number
pub found : (names : List (List ℕ)) (entries : List Entry) (name p : List ℕ) (place : ℕ) →
    AreEntriesOf names entries → place < length entries →
    IsNarrowed (is_below (key_of name) p) entries place place →
    ((e : Entry) → e.key ≡ key_of name → e.name.now ≡ name → is_below (key_of name) p e ≡ false) →
    (get_or entries place no_entry).name.now ≡ name →
    number_among names name ≡ Some (get_or entries place no_entry).number
found names entries name p place are l narrowed above same =
    least_is names name (get_or entries place no_entry).number here least
  where
    sound : IsEntryOf names (get_or entries place no_entry)
    sound = are.sound place no_entry l

    here : slice_get names (get_or entries place no_entry).number ≡ Some name
    here = sound.name ∙ ap (λ x. Some x) same

    impossible : (m i : ℕ) → m < (get_or entries place no_entry).number → IsAt entries name m i → ⊥
    impossible m i lt is = elim (cases_lt i place) [
      | inl before ↦ false≢true (sym (above (get_or entries i no_entry) is.key is.name_is) ∙
          narrowed.before i before)
      | inr from ↦ false≢true (sym (far entries are.ordered place i from is.within) ∙
          numbers_decide (get_or entries i no_entry) (get_or entries place no_entry) (is.key ∙
          sym (sound.key ∙ ap key_of same)) (is.name_is ∙ sym same) (omega (arith, is.number)))
    ]

    least : (m : ℕ) → m < (get_or entries place no_entry).number → slice_get names m ≡ Some name → ⊥
    least m lt h = let some = entry_at names entries name m are h in impossible m some.0 lt some.1

-- where that entry isn't of the name, or there is none, no place has the name
pub missed : (names : List (List ℕ)) (entries : List Entry) (name : List ℕ) (place : ℕ) →
    AreEntriesOf names entries → IsNarrowed (is_below (key_of name) name) entries place place →
    (place < length entries → (get_or entries place no_entry).name.now ≡ name → ⊥) →
    number_among names name ≡ None
missed names entries name place are narrowed differs =
    none_is names name (λ m h. let some = entry_at names entries name m are h in impossible m some.0 some.1)
  where
    by_order : (i : ℕ) (o : Ordering) → IsAt entries (name) (get_or entries i no_entry).number i → place ≤ i →
        pair_cmp (pair_of (get_or entries i no_entry)) (pair_of (get_or entries place no_entry)) ≡ o → ⊥
    by_order i Less is from e = false≢true
        (sym (pairs_not_less (get_or entries place no_entry) (get_or entries i no_entry)
        (far entries are.ordered place i from is.within)) ∙ ap is_lt e)
    by_order i Equal is from e = differs (omega (arith, is.within))
        (sym (same_names (get_or entries i no_entry) (get_or entries place no_entry) e) ∙ is.name_is)
    by_order i Greater is from e =
        let back : pair_cmp (pair_of (get_or entries place no_entry)) (pair_of (get_or entries i no_entry)) ≡
        Less = pair_total.antisymm (pair_of (get_or entries place no_entry))
        (pair_of (get_or entries i no_entry)) ∙ ap ordering_reverse e in
        let fails : is_below (key_of name) name (get_or entries place no_entry) ≡ false =
        narrowed.after place (omega arith) (omega (arith, is.within)) in
        let passes : is_below (key_of name) name (get_or entries place no_entry) ≡ true =
        rw (is.key, is.name_is) at (ap is_lt back) in
        false≢true (sym fails ∙ passes)

    impossible : (m i : ℕ) → IsAt entries name m i → ⊥
    impossible m i is = elim (cases_lt i place) [
      | inl before ↦ false≢true (sym (not_below_itself (key_of name) name (get_or entries i no_entry) is.key
          is.name_is) ∙ narrowed.before i before)
      | inr from ↦ by_order i (pair_cmp (pair_of (get_or entries i no_entry))
          (pair_of (get_or entries place no_entry))) (record {
            within = is.within;
            number = refl;
            key = is.key;
            name_is = is.name_is;
          }) from refl
    ]

-- ---- the directory

-- between which places the entries with a key are, against any name
pub record IsBracket (entries : List Entry) (key : ℕ) (from to : ℕ) : Type 0 where
  pub in_order : from ≤ to
  pub within : to ≤ length entries
  pub narrowed : (name : List ℕ) → IsNarrowed (is_below key name) entries from to

bits_below : (shift part : ℕ) (e : Entry) → begins_below shift part e ≡ true → e.key / 2 ^ shift < part
bits_below shift part e h = grind (arith, nat_tests)

bits_from : (shift part : ℕ) (e : Entry) → begins_below shift part e ≡ false → part ≤ e.key / 2 ^ shift
bits_from shift part e h = grind (arith, nat_tests)

by_bits : (shift m n : ℕ) → m / 2 ^ shift < n / 2 ^ shift → m < n
by_bits shift m n l = elim (cases_lt m n) [
  | inl h ↦ h
  | inr g ↦ (let up : n / 2 ^ shift ≤ m / 2 ^ shift = shr_mono shift g in absurd (omega arith))
]

-- how many parts there are
pub part_within : (shift key : ℕ) → key < 2 ^ 64 → key / 2 ^ shift ≤ (2 ^ 64 - 1) / 2 ^ shift
part_within shift key l = let le : key ≤ 2 ^ 64 - 1 = omega arith in shr_mono shift le

pub bracketed : (entries : List Entry) (shift : ℕ) (starts : List ℕ) (key : ℕ) →
    IsDirectory entries shift starts → key < 2 ^ 64 →
    IsBracket entries key (get_or starts (key / 2 ^ shift) 0) (get_or starts (key / 2 ^ shift + 1) 0)
bracketed entries shift starts key d fits = record {
  in_order = in_order;
  within = within;
  narrowed = narrowed;
}
  where
    part : ℕ
    part = key / 2 ^ shift

    low : ℕ
    low = get_or starts part 0

    high : ℕ
    high = get_or starts (part + 1) 0

    has_part : part + 1 < length starts
    has_part = omega (arith, d.long, part_within shift key fits)

    below : IsNarrowed (begins_below shift part) entries low low
    below = d.narrowed part (omega (arith, has_part))

    above : IsNarrowed (begins_below shift (part + 1)) entries high high
    above = d.narrowed (part + 1) has_part

    within : high ≤ length entries
    within = d.starts_at (part + 1) has_part

    low_within : low ≤ length entries
    low_within = d.starts_at part (omega (arith, has_part))

    in_order : low ≤ high
    in_order = elim (cases_lt high low) [
      | inr g ↦ g
      | inl l ↦ (
          let less = bits_below shift part (get_or entries high no_entry) (below.before high l) in
          let more = bits_from shift (part + 1) (get_or entries high no_entry)
          (above.after high (omega arith) (omega (arith, low_within))) in
          absurd (omega (arith, less, more)))
    ]

    narrowed : (name : List ℕ) → IsNarrowed (is_below key name) entries low high
    narrowed name = record {
      before = λ i l. lesser_key key name (get_or entries i no_entry)
          (by_bits shift (get_or entries i no_entry).key key
          (bits_below shift part (get_or entries i no_entry) (below.before i l)));
      after = λ i g l. greater_key key name (get_or entries i no_entry)
          (by_bits shift key (get_or entries i no_entry).key
          (omega (arith, bits_from shift (part + 1) (get_or entries i no_entry) (above.after i g l))));
    }

-- what the first bisection leaves to the second
pub narrowed_on : (entries : List Entry) (key : ℕ) (name : List ℕ) (low first high : ℕ) →
    IsBracket entries key low high → IsNarrowed (is_below key []) entries first first →
    IsNarrowed (is_below key name) entries first high
narrowed_on entries key name low first high b n = record {
  before = λ i l. below_each_name key name (get_or entries i no_entry) (n.before i l);
  after = (b.narrowed name).after;
}

-- the same, from what is read of the directory
pub bracket_read : (entries slice : List Entry) (shift : ℕ) (starts : List ℕ) (key low high : ℕ) →
    slice ≡ entries → IsDirectory entries shift starts → key < 2 ^ 64 →
    low ≡ get_or starts (key / 2 ^ shift) low → high ≡ get_or starts (key / 2 ^ shift + 1) high →
    IsBracket slice key low high
bracket_read entries slice shift starts key low high s d fits l h =
    let has_part : key / 2 ^ shift + 1 < length starts = omega (arith, d.long, part_within shift key fits) in
    let low_is : low ≡ get_or starts (key / 2 ^ shift) 0 = get_or_read starts (key / 2 ^ shift)
    low (omega arith) l 0 in
    let high_is : high ≡ get_or starts (key / 2 ^ shift + 1) 0 =
    get_or_read starts (key / 2 ^ shift + 1) high has_part h 0 in
    rw (s, low_is, high_is) (bracketed entries shift starts key d fits)

-- the entries as they are read
pub entries_read : (names all : List (List ℕ)) (entries slice : List Entry) → names ≡ all → slice ≡ entries →
    AreEntriesOf all entries → AreEntriesOf names slice
entries_read names all entries slice n s are = rw (n, s) are

-- what the first look gives, if it gives something
pub found_first : (names : List (List ℕ)) (entries : List Entry) (name : List ℕ) (key place : ℕ)
    (r : Option ℕ) → AreEntriesOf names entries → key ≡ key_of name →
    IsNarrowed (is_below key []) entries place place → r ≡ number_at entries place name → is_some r ≡ true →
    r ≡ number_among names name
found_first names entries name key place r are k narrowed e some =
    by_test (cases_Bool (nat_lt place (length entries)))
    (cases_Bool (bytes_eq (get_or entries place no_entry).name.now name))
  where
    by_test : (nat_lt place (length entries) ≡ true) ⊎ (nat_lt place (length entries) ≡ false) →
        (bytes_eq (get_or entries place no_entry).name.now name ≡ true) ⊎
        (bytes_eq (get_or entries place no_entry).name.now name ≡ false) → r ≡ number_among names name
    by_test (inl t) (inl s) =
        let within : place < length entries = grind (arith, nat_tests) in
        let here : r ≡ Some (get_or entries place no_entry).number = rw (t, s) at e in
        here ∙ sym (found names entries name [] place are within
        (subst (λ x. IsNarrowed (is_below x []) entries place place) k narrowed)
        (λ x h _. not_below_empty (key_of name) x h)
        ((bytes_eq-Decides (get_or entries place no_entry).name.now name).0 s))
    by_test (inl t) (inr f) =
        let none : r ≡ None = rw (t, f) at e in
        absurd (false≢true (sym (ap is_some none) ∙ some))
    by_test (inr f) s =
        let none : r ≡ None = rw f at e in
        absurd (false≢true (sym (ap is_some none) ∙ some))

-- what the second look gives
pub found_last : (names : List (List ℕ)) (entries : List Entry) (name : List ℕ) (key place : ℕ)
    (r : Option ℕ) → AreEntriesOf names entries → key ≡ key_of name →
    IsNarrowed (is_below key name) entries place place → r ≡ number_at entries place name →
    r ≡ number_among names name
found_last names entries name key place r are k narrowed e =
    by_test (cases_Bool (nat_lt place (length entries)))
    (cases_Bool (bytes_eq (get_or entries place no_entry).name.now name))
  where
    at_key : IsNarrowed (is_below (key_of name) name) entries place place
    at_key = subst (λ x. IsNarrowed (is_below x name) entries place place) k narrowed

    by_test : (nat_lt place (length entries) ≡ true) ⊎ (nat_lt place (length entries) ≡ false) →
        (bytes_eq (get_or entries place no_entry).name.now name ≡ true) ⊎
        (bytes_eq (get_or entries place no_entry).name.now name ≡ false) → r ≡ number_among names name
    by_test (inl t) (inl s) =
        let within : place < length entries = grind (arith, nat_tests) in
        let here : r ≡ Some (get_or entries place no_entry).number = rw (t, s) at e in
        here ∙ sym (found names entries name name place are within at_key
        (not_below_itself (key_of name) name)
        ((bytes_eq-Decides (get_or entries place no_entry).name.now name).0 s))
    by_test (inl t) (inr f) =
        let none : r ≡ None = rw (t, f) at e in
        none ∙ sym (missed names entries name place are at_key
        (λ _ s. false≢true (sym f ∙ (bytes_eq-Decides (get_or entries place no_entry).name.now name).1
        s)))
    by_test (inr f) s =
        let none : r ≡ None = rw f at e in
        let past : length entries ≤ place = grind (arith, nat_tests) in
        none ∙ sym (missed names entries name place are at_key (λ l _. absurd (omega arith)))
