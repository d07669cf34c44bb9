-- How the noted sets lie in memory: the keys of the single atoms, and pairs of numbers of these.
use Rattle.std.specs.Prelude.{◌≡◌, ◌≢◌, ◌↔◌, ◌⊎◌, ℕ, zero, suc, Bool, nat_lt, ◌==◌, ◌||◌, ◌<◌, ◌≤◌, true}
use Rattle.std.specs.Prelude.{List, [], ◌∷◌, ◌++◌, map, length, Option, Some, None, slice_get, slice_index}
use Rattle.std.specs.Prelude.{slice_index_or, All, AllPairs, Contains, bytes_eq, if◌then◌else◌}
use Rattle.std.specs.List.{flat_map}
use Rattle.std.specs.declared.cmp.Ordering.TheVariants.{Less}
use Rattle.indexmap.specs.IndexSet.{insert_all}
use Rattle.pl_rows.specs.Rows.{row_cmp, IsAscending}
use Rattle.pl_task.specs.declared.data.Atom.{Atom}
use Rattle.pl_task.specs.declared.data.Lifted.{Lifted}
use Rattle.pl_task.specs.declared.data.Schema.{Schema}
use Rattle.pl_task.specs.declared.task.Task.{Task}
use Rattle.pl_task.specs.Instance.{Instance}
use Rattle.pl_task.specs.States.{State, value_of}
use Rattle.pl_state.specs.Layout.{atom_of}
use Rattle.pl_state.specs.StateOf.{is_fluent_in}
use Rattle.pl_novel.specs.Noting.{Noted}

-- the atom that a key stands for
abbrev pub atom_by : List ℕ → Atom
atom_by [] = atom_of 0 []
atom_by (predicate ∷ objects) = atom_of predicate objects

abbrev pub key_at : List (List ℕ) → ℕ → List ℕ
key_at keys n = slice_index_or keys n []

-- a value of the list and a later one, joined by f: each such two in turn
abbrev pub pairs_by : {X Y : Type 0} → (X → X → Y) → List X → List Y
pairs_by f [] = []
pairs_by f (x ∷ xs) = map (f x) xs ++ pairs_by f xs

-- under a width below 2 there are none
abbrev pub pairs_under : {X Y : Type 0} → ℕ → (X → X → Y) → List X → List Y
pairs_under zero f xs = []
pairs_under (suc zero) f xs = []
pairs_under (suc (suc k)) f xs = pairs_by f xs

abbrev pub pair_of : ℕ → ℕ → List ℕ
pair_of first second = first ∷ second ∷ []

-- the list with these put behind it one by one, those aside that are in it already
abbrev pub with_all : List (List ℕ) → List (List ℕ) → List (List ℕ)
with_all old values = insert_all bytes_eq old values

abbrev pub one_set : List ℕ → List Atom
one_set key = atom_by key ∷ []

abbrev pub two_set : List ℕ → List ℕ → List Atom
two_set key other = atom_by key ∷ atom_by other ∷ []

-- the two atoms whose numbers these are
abbrev pub set_by : List (List ℕ) → List ℕ → List Atom
set_by keys pair = two_set (key_at keys (slice_index pair 0)) (key_at keys (slice_index pair 1))

abbrev pub noted_by : ℕ → List (List ℕ) → List (List ℕ) → Noted
noted_by width keys pairs = record { width = width; sets = map one_set keys ++ map (set_by keys) pairs }

-- two numbers of keys, the first key below the second
pub record IsPairIn (keys : List (List ℕ)) (pair : List ℕ) : Type 0 where
  pub first : ℕ
  pub second : ℕ
  pub is : pair ≡ pair_of first second
  pub first_in : first < length keys
  pub second_in : second < length keys
  pub below : row_cmp (key_at keys first) (key_at keys second) ≡ Less

-- what the type keeps of the keys and pairs
pub record IsKept (width : ℕ) (keys pairs : List (List ℕ)) : Type 0 where
  pub some : 1 ≤ width
  pub few : width ≤ 2
  pub atoms : All (λ key. 0 < length key) keys
  pub keys_once : AllPairs (λ (a b : List ℕ). a ≢ b) keys
  pub pairs_once : AllPairs (λ (a b : List ℕ). a ≢ b) pairs
  pub pairs_in : All (IsPairIn keys) pairs
  pub single : width ≡ 1 → pairs ≡ []

-- the key is that of a fluent atom of the state, of a predicate below n
pub record IsKeyBelow (task : Task) (s : State) (n predicate : ℕ) (objects : List ℕ) : Type 0 where
  pub low : predicate < n
  pub fluent : is_fluent_in task predicate ≡ true
  pub held : s (atom_of predicate objects) ≡ true

-- the keys of all fluent atoms of the state of predicates below n, ascending
pub record AreKeysBelow (task : Task) (s : State) (n : ℕ) (keys : List (List ℕ)) : Type 0 where
  pub ascending : IsAscending keys
  pub atoms : All (λ key. 0 < length key) keys
  pub members : (predicate : ℕ) (objects : List ℕ) → Contains keys (predicate ∷ objects)
      ↔ IsKeyBelow task s n predicate objects

-- the key stands in the new list at this place, which is that of the old one with the key behind it unless it
-- is there
pub record IsPlaced (old : List (List ℕ)) (key : List ℕ) (new : List (List ℕ)) (place : ℕ) : Type 0 where
  pub new_is : new ≡ with_all old (key ∷ [])
  pub within : place < length new
  pub reads : key_at new place ≡ key

-- the keys were put behind the old ones, and their numbers behind the old numbers
pub record AreNumbered (old : List (List ℕ)) (numbers : List ℕ) (keys new : List (List ℕ))
    (more : List ℕ) : Type 0 where
  pub added : List ℕ
  pub new_is : new ≡ with_all old keys
  pub more_is : more ≡ numbers ++ added
  pub within : All (λ n. n < length new) added
  pub reads : map (key_at new) added ≡ keys

-- the keys of the state's fluent atoms of predicates below n were put behind the old ones; these are their
-- numbers
pub record AreStateNumbers (task : Task) (s : State) (n : ℕ) (old new : List (List ℕ))
    (numbers : List ℕ) : Type 0 where
  pub keys : List (List ℕ)
  pub of_state : AreKeysBelow task s n keys
  pub numbered : AreNumbered old [] keys new numbers

-- the new list begins with the old one
pub record Extends (old new : List (List ℕ)) : Type 0 where
  pub more : List (List ℕ)
  pub is : new ≡ old ++ more

-- whether one of two counts has grown
abbrev pub has_grown : ℕ → ℕ → ℕ → ℕ → Bool
has_grown atoms more_atoms doubles more_doubles = nat_lt atoms more_atoms || nat_lt doubles more_doubles

-- the key of an effect's atom under the arguments
abbrev pub key_under : List ℕ → Lifted → List ℕ
key_under args e = e.predicate ∷ map (value_of args) e.terms

abbrev pub keys_added_by : List ℕ → Option Schema → List (List ℕ)
keys_added_by args None = []
keys_added_by args (Some schema) = map (key_under args) schema.add

-- the keys of the atoms that a step adds
abbrev pub keys_added : Task → Instance → List (List ℕ)
keys_added task step = keys_added_by step.args (slice_get task.schemas step.schema)

-- the pairs of a number with the others of the list, in the order of the list
abbrev pub pairs_around : List ℕ → ℕ → List (List ℕ)
pairs_around [] n = []
pairs_around (m ∷ numbers) n = if m == n then map (pair_of n) numbers else pair_of m n ∷ pairs_around numbers
    n

-- the same for each of these numbers
abbrev pub pairs_with : List ℕ → List ℕ → List (List ℕ)
pairs_with numbers added = flat_map (pairs_around numbers) added

-- the keys were put behind the old ones
pub record NotesSingles (width : ℕ) (added old_keys old_pairs keys pairs : List (List ℕ)) : Type 0 where
  pub low : width < 2
  pub keys_are : keys ≡ with_all old_keys added
  pub pairs_are : pairs ≡ old_pairs

-- and then those of the state, and the pairs that have one of the former behind the old pairs
pub record NotesDoubles (task : Task) (s : State) (width : ℕ)
    (added old_keys old_pairs keys pairs : List (List ℕ)) : Type 0 where
  pub high : 2 ≤ width
  pub between : List (List ℕ)
  pub added_numbers : List ℕ
  pub numbers : List ℕ
  pub of_added : AreNumbered old_keys [] added between added_numbers
  pub of_state : AreStateNumbers task s (length task.predicates) between keys numbers
  pub pairs_are : pairs ≡ with_all old_pairs (pairs_with numbers added_numbers)

-- what noting the sets that have one of these atoms comes to, by the width
abbrev pub NotesAdded : Task → State → ℕ → (added old_keys old_pairs keys pairs : List (List ℕ)) → Type 0
NotesAdded task s width added old_keys old_pairs keys pairs =
    NotesSingles width added old_keys old_pairs keys pairs
    ⊎ NotesDoubles task s width added old_keys old_pairs keys pairs
