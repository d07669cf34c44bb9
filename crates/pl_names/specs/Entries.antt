-- How a list of names is indexed: an entry for each place, in order of keys, and a directory by the keys'
-- first bits.
use Rattle.std.specs.Prelude.{◌≡◌, ◌+◌, ◌-◌, ◌/◌, ◌<◌, ◌≤◌, ◌==◌, ◌^◌, ℕ, Bool, true, false, cond, nat_lt}
use Rattle.std.specs.Prelude.{List, length, All, Option, Some, None, IsTrue, slice_get, slice_index}
use Rattle.std.specs.Prelude.{slice_index_or, map, []}
use Rattle.std.specs.declared.cmp.Ordering.{Ordering}
use Rattle.std.specs.Borrow.{Bor}
use Rattle.std.specs.Cmp.Lexicographic.{slice_cmp}
use Rattle.std.specs.Hash.FoldHasher as folding
use Rattle.std.specs.List.{list_any}
use Rattle.std.specs.List.Sorted.{IsSorted}
use Rattle.std.specs.Ordering.{nat_cmp, is_lt, ordering_then}
use Rattle.std.specs.Str.{bytes_eq}
use Rattle.pl_names.specs.Names.{texts, number_among, first_appearances}
use Rattle.pl_names.specs.declared.entries.Entry.{Entry}

-- the key of a name: a hash of its bytes
unfoldable pub key_of : List ℕ → ℕ
key_of name = folding.finish (folding.write folding.initial name)

-- the order of entries: by key, then by name, then by number
abbrev pub rank : Entry → Entry → Ordering
rank a b =
    ordering_then (nat_cmp a.key b.key) (ordering_then (slice_cmp nat_cmp a.name.now b.name.now)
    (nat_cmp a.number b.number))

-- an entry is of a place in the list: the place's number, its name and the name's key
pub record IsEntryOf (names : List (List ℕ)) (entry : Entry) : Type 0 where
  pub key : entry.key ≡ key_of entry.name.now
  pub name : slice_get names entry.number ≡ Some entry.name.now

-- the entries are those of the places, in order
pub record AreEntriesOf (names : List (List ℕ)) (entries : List Entry) : Type 0 where
  pub ordered : IsSorted rank entries
  pub sound : All (IsEntryOf names) entries
  pub whole : (n : ℕ) → n < length names → list_any (λ (entry : Entry). entry.number == n) entries ≡ true

-- an entry that isn't there
abbrev pub no_entry : Entry
no_entry = record { key = 0; name = record { ref_ptr = (0, 0); now = [] }; number = 0 }

-- the entry is below those of a key and a name
abbrev pub is_below : ℕ → List ℕ → Entry → Bool
is_below key name entry = is_lt (ordering_then (nat_cmp entry.key key)
    (slice_cmp nat_cmp entry.name.now name))

-- the entries before `low` pass a test, and those from `high` on don't
pub record IsNarrowed (passes : Entry → Bool) (entries : List Entry) (low high : ℕ) : Type 0 where
  pub before : (i : ℕ) → i < low → passes (slice_index_or entries i no_entry) ≡ true
  pub after : (i : ℕ) → high ≤ i → i < length entries → passes (slice_index_or entries i no_entry) ≡ false

-- the first bits of a key are below a number
abbrev pub begins_below : ℕ → ℕ → Entry → Bool
begins_below shift part entry = nat_lt (entry.key / 2 ^ shift) part

-- for each number up to one more than the greatest first bits: how many entries have keys with lesser first
-- bits
pub record IsDirectory (entries : List Entry) (shift : ℕ) (starts : List ℕ) : Type 0 where
  pub long : length starts ≡ (2 ^ 64 - 1) / 2 ^ shift + 2
  pub starts_at : (part : ℕ) → part < length starts → slice_index starts part ≤ length entries
  pub narrowed : (part : ℕ) → part < length starts →
      IsNarrowed (begins_below shift part) entries (slice_index starts part) (slice_index starts part)

-- the number of an entry, if it is of the name
abbrev pub number_if : Entry → List ℕ → Option ℕ
number_if entry name = cond (bytes_eq entry.name.now name) (Some entry.number) None

-- the number of the entry at a place, if there is one and it is of the name
abbrev pub number_at : List Entry → ℕ → List ℕ → Option ℕ
number_at entries place name =
    cond (nat_lt place (length entries)) (number_if (slice_index_or entries place no_entry) name) None

-- what an index of a list of names keeps
pub record AreIndexed (list : List (Bor (List ℕ))) (entries : List Entry) (shift : ℕ) (starts : List ℕ) :
    Type 0 where
  pub few : length list < 2 ^ 32
  pub shift_fits : shift < 64
  pub entries_are : AreEntriesOf (texts list) entries
  pub directory : IsDirectory entries shift starts

-- what the names by first appearance keep: the names, and for each occurrence its number among them
pub record AreNumbered (occurrences : List (List ℕ)) (names : List (Bor (List ℕ))) (numbers : List ℕ) :
    Type 0 where
  pub names_are : texts names ≡ first_appearances occurrences
  pub numbers_are : map Some numbers ≡ map (number_among (first_appearances occurrences)) occurrences

-- a place, if it is before another one
abbrev pub if_before : ℕ → Option ℕ → Option ℕ
if_before place None = None
if_before place (Some first) = cond (nat_lt first place) (Some first) None

-- the first place of a name, if that is before the given one
abbrev pub earlier : List (List ℕ) → List ℕ → ℕ → Option ℕ
earlier occurrences name place = if_before place (number_among occurrences name)
