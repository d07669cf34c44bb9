-- Making the entries and the directory.
use Rattle.std.proofs.Common.{◌≡◌, ◌+◌, ◌-◌, ◌<◌, ◌≤◌, ◌/◌, ◌^◌, ℕ, zero, suc, Bool, true, false, List, []}
use Rattle.std.proofs.Common.{◌∷◌, ◌++◌, length, get_or, nat_lt, eqb, Option, Some, None, slice_get, refl}
use Rattle.std.proofs.Common.{sym, ◌∙◌, subst, ap, inl, inr, arith, eq-eqb, All}
use Rattle.std.specs.List.{list_any}
use Rattle.std.specs.List.Sorted.{IsSorted, IsPermutation}
use Rattle.std.proofs.lemmas.Bool.{cases_lt}
use Rattle.std.proofs.lemmas.Bool.Decides.{nat_tests}
use Rattle.std.proofs.lemmas.Nat.{shr-shr, shr_le}
use Rattle.std.proofs.lemmas.List.{length-append, get_or_append_left, get_or_push, get_or_default}
use Rattle.std.proofs.lemmas.List.Folds.{list_any_at}
use Rattle.std.proofs.lemmas.List.Sorted.{All-permutation, list_any-IsPermutation}
use Rattle.pl_names.specs.declared.entries.Entry.{Entry}
use Rattle.pl_names.specs.Entries.{key_of, rank, no_entry, begins_below, IsNarrowed, IsEntryOf, AreEntriesOf}
use Rattle.pl_names.specs.Entries.{IsDirectory}

-- an entry is that of a place
pub record IsPlace (names : List (List ℕ)) (entry : Entry) (k : ℕ) : Type 0 where
  pub number : entry.number ≡ k
  pub key : entry.key ≡ key_of entry.name.now
  pub name : slice_get names k ≡ Some entry.name.now

-- the entries are those of the first places, in the list's order
pub record ArePlaces (names : List (List ℕ)) (entries : List Entry) (n : ℕ) : Type 0 where
  pub count : length entries ≡ n
  pub each : (k : ℕ) → k < n → IsPlace names (get_or entries k no_entry) k

pub places_none : (names : List (List ℕ)) → ArePlaces names [] 0
places_none names = record { count = refl; each = λ k l. absurd (omega arith) }

pub places_more : (names : List (List ℕ)) (entries : List Entry) (entry : Entry) (n : ℕ) →
    ArePlaces names entries n → IsPlace names entry n → ArePlaces names (entries ++ entry ∷ []) (n + 1)
places_more names entries entry n are is = record {
  count = length-append entries (entry ∷ []) ∙
      (rw are.count refl);
  each = each;
}
  where
    each : (k : ℕ) → k < n + 1 → IsPlace names (get_or (entries ++ entry ∷ []) k no_entry) k
    each k l = elim (cases_lt k n) [
      | inl lt ↦ (
          let same : get_or (entries ++ entry ∷ []) k no_entry ≡ get_or entries k no_entry =
          get_or_append_left entries (entry ∷ []) no_entry k (omega (arith, are.count)) in
          subst (λ e. IsPlace names e k) (sym same) (are.each k lt))
      | inr ge ↦ (
          let last : k ≡ n = omega arith in
          let same : get_or (entries ++ entry ∷ []) k no_entry ≡ entry = get_or_push entries entry no_entry k
          (are.count ∙ sym last) in
          subst (λ e. IsPlace names e k) (sym same) (subst (IsPlace names entry) (sym last) is))
    ]

-- sorted they are the entries of the list
pub places_sorted : (names : List (List ℕ)) (entries sorted : List Entry) →
    ArePlaces names entries (length names) → IsPermutation entries sorted → IsSorted rank sorted →
    AreEntriesOf names sorted
places_sorted names entries sorted are moved ordered = record {
  ordered = ordered;
  sound = sound;
  whole = whole;
}
  where
    sound_before : All (IsEntryOf names) entries
    sound_before k d l =
        let is : IsPlace names (get_or entries k no_entry) k = are.each k (omega (arith, are.count)) in
        let same : get_or entries k no_entry ≡ get_or entries k d = get_or_default entries k no_entry d l in
        subst (IsEntryOf names) same (record { key = is.key; name = rw is.number is.name })

    sound : All (IsEntryOf names) sorted
    sound = All-permutation (IsEntryOf names) entries sorted moved sound_before

    whole : (n : ℕ) → n < length names → list_any (λ (entry : Entry). eqb entry.number n) sorted ≡ true
    whole n l =
        let here : eqb (get_or entries n no_entry).number n ≡ true = eq-eqb (get_or entries n no_entry).number
        n (are.each n l).number in
        sym (list_any-IsPermutation (λ (entry : Entry). eqb entry.number n) entries sorted moved)
        ∙ list_any_at (λ (entry : Entry). eqb entry.number n) entries n no_entry
        (omega (arith, are.count)) here

-- how far the directory is: a start for each part below one, and the place where the next one is looked for
-- from
pub record IsDirectoryUpTo (entries : List Entry) (shift : ℕ) (starts : List ℕ) (part place : ℕ) :
    Type 0 where
  pub count : length starts ≡ part
  pub starts_at : (k : ℕ) → k < part → get_or starts k 0 ≤ length entries
  pub narrowed : (k : ℕ) → k < part →
      IsNarrowed (begins_below shift k) entries (get_or starts k 0) (get_or starts k 0)
  pub within : place ≤ length entries
  pub before : (i : ℕ) → i < place → begins_below shift part (get_or entries i no_entry) ≡ true

pub directory_none : (entries : List Entry) (shift : ℕ) → IsDirectoryUpTo entries shift [] 0 0
directory_none entries shift = record {
  count = refl;
  starts_at = λ k l. absurd (omega arith);
  narrowed = λ k l. absurd (omega arith);
  within = omega arith;
  before = λ i l. absurd (omega arith);
}

-- from where the next part is looked for
pub looked_from : (entries : List Entry) (shift : ℕ) (starts : List ℕ) (part place : ℕ) →
    IsDirectoryUpTo entries shift starts part place →
    IsNarrowed (begins_below shift part) entries place (length entries)
looked_from entries shift starts part place up = record {
  before = up.before;
  after = λ i h l. absurd (omega arith);
}

-- one start more
pub directory_more : (entries : List Entry) (shift : ℕ) (starts : List ℕ) (part place next : ℕ) →
    IsDirectoryUpTo entries shift starts part place → next ≤ length entries →
    IsNarrowed (begins_below shift part) entries next next →
    IsDirectoryUpTo entries shift (starts ++ next ∷ []) (part + 1) next
directory_more entries shift starts part place next up le is = record {
  count = length-append starts (next ∷ []) ∙ (rw up.count refl);
  starts_at = starts_at;
  narrowed = narrowed;
  within = le;
  before = λ i l. wider (get_or entries i no_entry) (is.before i l);
}
  where
    old : (k : ℕ) → k < part → get_or (starts ++ next ∷ []) k 0 ≡ get_or starts k 0
    old k l = get_or_append_left starts (next ∷ []) 0 k (omega (arith, up.count))

    new : (k : ℕ) → k ≡ part → get_or (starts ++ next ∷ []) k 0 ≡ next
    new k e = get_or_push starts next 0 k (up.count ∙ sym e)

    wider : (e : Entry) → begins_below shift part e ≡ true → begins_below shift (part + 1) e ≡ true
    wider e h = grind (arith, nat_tests)

    starts_at : (k : ℕ) → k < part + 1 → get_or (starts ++ next ∷ []) k 0 ≤ length entries
    starts_at k l = elim (cases_lt k part) [
      | inl lt ↦ rw (old k lt) (up.starts_at k lt)
      | inr ge ↦ (let last : k ≡ part = omega arith in rw (new k last) le)
    ]

    narrowed : (k : ℕ) → k < part + 1 →
        IsNarrowed (begins_below shift k) entries (get_or (starts ++ next ∷ []) k 0)
        (get_or (starts ++ next ∷ []) k 0)
    narrowed k l = elim (cases_lt k part) [
      | inl lt ↦ rw (old k lt) (up.narrowed k lt)
      | inr ge ↦ (let last : k ≡ part = omega arith in rw (new k last, last) is)
    ]

-- the number of parts fits a word
pub parts_fit : (shift : ℕ) → 0 < shift → (2 ^ 64 - 1) / 2 ^ shift ≤ 2 ^ 63
parts_fit zero l = absurd (omega arith)
parts_fit (suc k) l =
    let halved : (2 ^ 64 - 1) / 2 ^ 1 / 2 ^ k ≡ (2 ^ 64 - 1) / 2 ^ (1 + k) = shr-shr (2 ^ 64 - 1) 1 k in
    let e : 1 + k ≡ suc k = omega arith in
    let small : (2 ^ 64 - 1) / 2 ^ 1 / 2 ^ k ≤ (2 ^ 64 - 1) / 2 ^ 1 = shr_le ((2 ^ 64 - 1) / 2 ^ 1) k in
    let same : (2 ^ 64 - 1) / 2 ^ 1 / 2 ^ k ≡ (2 ^ 64 - 1) / 2 ^ suc k = halved ∙
    ap (λ n. (2 ^ 64 - 1) / 2 ^ n) e in
    omega (arith, same, small)

-- when each part has its start
pub directory_whole : (entries : List Entry) (shift : ℕ) (starts : List ℕ) (part place : ℕ) →
    part ≡ (2 ^ 64 - 1) / 2 ^ shift + 2 → IsDirectoryUpTo entries shift starts part place →
    IsDirectory entries shift starts
directory_whole entries shift starts part place e up = record {
  long = up.count ∙ e;
  starts_at = λ k l. up.starts_at k (omega (arith, up.count));
  narrowed = λ k l. up.narrowed k (omega (arith, up.count));
}
