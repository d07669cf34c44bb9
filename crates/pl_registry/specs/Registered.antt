-- What a registry holds, and what adding a state answers and leaves.
use Rattle.std.specs.Prelude.{◌≡◌, ◌≢◌, ℕ, zero, suc, ◌-◌, ◌<◌, ◌≤◌, ◌^◌, List, [], ◌∷◌, ◌++◌, map, length}
use Rattle.std.specs.Prelude.{slice_index_or, AllPairs, Contains, Option, Some, None, Result, Ok, Err}
use Rattle.pl_task.specs.Instance.{Instance}
use Rattle.pl_task.specs.declared.task.Task.{Task}
use Rattle.pl_state.specs.StateOf.{state_in}
use Rattle.pl_registry.specs.declared.added.Added.{Added}
use Rattle.pl_registry.specs.declared.added.Added.TheVariants as added
use Rattle.pl_registry.specs.declared.added.Refused.{Refused}
use Rattle.pl_registry.specs.declared.added.Refused.TheVariants as refused
use Rattle.pl_registry.specs.SearchRecord.{Entry, no_step}
use Rattle.pl_registry.specs.Links.{Link}

-- a packed state, the number of the entry that it was reached from, and the step that led to it
pub record Registered : Type 0 where
  pub words : List ℕ
  pub parent : ℕ
  pub step : Instance

-- the entries by their numbers, and how many there may be
pub record Register : Type 0 where
  pub limit : ℕ
  pub entries : List Registered

-- the entry of the initial state
abbrev pub initially : List ℕ → Registered
initially words = record { words = words; parent = 0; step = no_step }

abbrev pub registered_at : List Registered → ℕ → Registered
registered_at entries n = slice_index_or entries n (initially [])

abbrev pub words_of : List Registered → List (List ℕ)
words_of entries = map (λ e. e.words) entries

-- the states with their links
abbrev pub paired : List (List ℕ) → List Link → List Registered
paired [] links = []
paired (words ∷ states) [] = []
paired (words ∷ states) (link ∷ links) = record { words = words; parent = link.parent; step = link.step }
    ∷ paired states links

-- every registry: it has an entry, and no more than its limit, no two entries have one state, and parents
-- have lower numbers
pub record IsRegister (r : Register) : Type 0 where
  pub some : 0 < length r.entries
  pub few : length r.entries ≤ r.limit
  pub fits : r.limit < 2 ^ 32 - 1
  pub differ : AllPairs (λ (a b : List ℕ). a ≢ b) (words_of r.entries)
  pub lower : (n : ℕ) → suc n < length r.entries → (registered_at r.entries (suc n)).parent ≤ n

-- the registry with one more entry
abbrev pub with_entry : Register → List ℕ → ℕ → Instance → Register
with_entry r words parent step =
    record {
      limit = r.limit;
      entries = r.entries
          ++ record { words = words; parent = parent; step = step } ∷ [];
    }

-- the state is held with this number
abbrev pub IsHeldAs : Register → List ℕ → ℕ → Type 0
IsHeldAs r words n = (n < length r.entries) × ((registered_at r.entries n).words ≡ words)

abbrev pub IsHeld : Register → List ℕ → Type 0
IsHeld r words = Contains (words_of r.entries) words

-- a held state is known and changes nothing; another is registered with the next number, unless the registry
-- is full or memory is wanting
abbrev pub Adds : Register → Register → List ℕ → ℕ → Instance → Result Added Refused → Type 0
Adds old new words parent step (Ok (added.Known n)) = IsHeldAs old words n × (new ≡ old)
Adds old new words parent step (Ok (added.New n)) =
    (IsHeld old words → ⊥) × (length old.entries < old.limit) × (n ≡ length old.entries)
    × (new ≡ with_entry old words parent step)
Adds old new words parent step (Err refused.Full) = (IsHeld old words → ⊥) × (length old.entries ≡ old.limit)
    × (new ≡ old)
Adds old new words parent step (Err (refused.Memory e)) = (IsHeld old words → ⊥)
    × (length old.entries < old.limit) × (new ≡ old)

abbrev pub Finds : Register → List ℕ → Option ℕ → Type 0
Finds r words (Some n) = IsHeldAs r words n
Finds r words None = IsHeld r words → ⊥

-- the entry of a search's record that a registered one stands for
abbrev pub entry_of : Task → Registered → Entry
entry_of task e = record { state = state_in task e.words; parent = e.parent; step = e.step }

abbrev pub entries_of : Task → Register → List Entry
entries_of task r = map (entry_of task) r.entries

-- the steps along the parents, from entry 0 to an entry, at most n of them
abbrev pub registered_path_within : List Registered → ℕ → ℕ → List Instance
registered_path_within entries zero i = []
registered_path_within entries (suc n) zero = []
registered_path_within entries (suc n) (suc i) =
    registered_path_within entries n (registered_at entries (suc i)).parent
    ++ (registered_at entries (suc i)).step ∷ []

abbrev pub registered_path : List Registered → ℕ → List Instance
registered_path entries i = registered_path_within entries i i

-- what a registry keeps of its states and links
pub record IsKept (limit : ℕ) (states : List (List ℕ)) (links : List Link) : Type 0 where
  pub alike : length links ≡ length states
  pub register : IsRegister (record { limit = limit; entries = paired states links })
