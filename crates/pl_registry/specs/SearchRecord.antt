-- The record of a search: the states that it registered, those that it expanded, and the pairs of a state and
-- a step that it tried, as finished lists. All searches share it; what differs is which targets are dropped,
-- and the rank.
use Rattle.std.specs.Prelude.{◌≡◌, ◌≢◌, ◌⊎◌, ℕ, zero, suc, ◌<◌, ◌≤◌, nat_lt, false, IsFalse, List, [], ◌∷◌}
use Rattle.std.specs.Prelude.{◌++◌, map, length, slice_index, slice_index_or, All, AllPairs, Contains}
use Rattle.std.specs.List.{filter}
use Rattle.pl_task.specs.Instance.{Instance}
use Rattle.pl_task.specs.States.{State}
use Rattle.pl_registry.specs.StateSpace.{StateSpace}

-- a registered state, the number of the entry that it was reached from, and the step that led to it
pub record Entry : Type 0 where
  pub state : State
  pub parent : ℕ
  pub step : Instance

-- a step of an expanded entry: the turn in which the entry was expanded, its number, the step, and the state
-- that it leads to
pub record Pair : Type 0 where
  pub turn : ℕ
  pub entry : ℕ
  pub step : Instance
  pub target : State

-- the registered entries by their numbers, the numbers of the expanded ones in order, and the pairs that were
-- tried and left behind
pub record SearchRecord : Type 0 where
  pub entries : List Entry
  pub expanded : List ℕ
  pub pairs : List Pair

abbrev pub no_step : Instance
no_step = record { schema = 0; args = [] }

-- the entry of the initial state: number 0, which has no parent and no step
abbrev pub entry_of_initial : State → Entry
entry_of_initial s = record { state = s; parent = 0; step = no_step }

-- the entry that a pair makes
abbrev pub entry_by : Pair → Entry
entry_by p = record { state = p.target; parent = p.entry; step = p.step }

abbrev pub entry_at : List Entry → ℕ → Entry
entry_at entries i = slice_index_or entries i (entry_of_initial (λ a. false))

abbrev pub pair_at : List Pair → ℕ → Pair
pair_at pairs m = slice_index_or pairs m (record { turn = 0; entry = 0; step = no_step; target = λ a. false })

abbrev pub states_of : List Entry → List State
states_of entries = map (λ e. e.state) entries

-- the steps along the parents, from the initial state to an entry; a parent has a lower number, so at most n
-- of them lead up to entry n
abbrev pub path_within : List Entry → ℕ → ℕ → List Instance
path_within entries zero i = []
path_within entries (suc n) zero = []
path_within entries (suc n) (suc i) =
    path_within entries n (entry_at entries (suc i)).parent ++ (entry_at entries (suc i)).step ∷ []

abbrev pub path_of : List Entry → ℕ → List Instance
path_of entries i = path_within entries i i

-- the pair of entry i, expanded in turn j, and a step
abbrev pub pair_by : StateSpace → List Entry → ℕ → ℕ → Instance → Pair
pair_by space entries j i step =
    record { turn = j; entry = i; step = step; target = space.result (entry_at entries i).state step }

-- the pairs of turn j, in the order of the steps
abbrev pub pairs_of : StateSpace → List Entry → List ℕ → ℕ → List Pair
pairs_of space entries expanded j =
    map (pair_by space entries j (slice_index expanded j))
    (space.steps (entry_at entries (slice_index expanded j)).state)

-- the pairs of the turns below j, turn by turn
abbrev pub pairs_below : StateSpace → List Entry → List ℕ → ℕ → List Pair
pairs_below space entries expanded zero = []
pairs_below space entries expanded (suc j) = pairs_below space entries expanded j
    ++ pairs_of space entries expanded j

-- the pairs of all turns
abbrev pub all_pairs : StateSpace → SearchRecord → List Pair
all_pairs space r = pairs_below space r.entries r.expanded (length r.expanded)

-- the states registered before the pair at place m: the initial one, and the targets of the lower pairs that
-- made an entry
abbrev pub seen_before : StateSpace → List Pair → List ℕ → ℕ → List State
seen_before space pairs made m = space.initial ∷ map (λ k. (pair_at pairs k).target)
    (filter (λ k. nat_lt k m) made)

abbrev pub IsRising : List ℕ → Type 0
IsRising made = (i k : ℕ) → i < k → k < length made → slice_index made i < slice_index made k

-- entry i is there before turn j, and was not expanded in an earlier turn
pub record IsOpen (r : SearchRecord) (made : List ℕ) (j i : ℕ) : Type 0 where
  pub early : (i ≡ 0)
      ⊎ ((k : ℕ) × (i ≡ suc k) × (k < length made) × ((pair_at r.pairs (slice_index made k)).turn < j))
  pub fresh : (h : ℕ) → h < j → slice_index r.expanded h ≢ i

-- a is before b in rank, or of equal rank with a number that is no greater
abbrev pub Precedes : (State → ℕ) → List Entry → ℕ → ℕ → Type 0
Precedes rank entries a b = (rank (entry_at entries a).state < rank (entry_at entries b).state) ⊎
    ((rank (entry_at entries a).state ≡ rank (entry_at entries b).state) × (a ≤ b))

-- the entry expanded in turn j is the first in rank of the open ones
pub record IsFirstOpen (rank : State → ℕ) (r : SearchRecord) (made : List ℕ) (j : ℕ) : Type 0 where
  pub open_itself : IsOpen r made j (slice_index r.expanded j)
  pub first : (i : ℕ) → IsOpen r made j i → Precedes rank r.entries (slice_index r.expanded j) i

-- The record stands up to a bound, the end of its list of pairs. Which targets may be dropped and which kept
-- is said of the states registered before and the target.
pub record IsRecordUpTo (space : StateSpace) (MayDrop MayKeep : List State → State → Type 0)
    (rank : State → ℕ) (r : SearchRecord) : Type 0 where
  -- the places of the pairs that made the entries 1, 2, ..
  pub made : List ℕ
  -- the pairs are the first ones of the expanded entries
  pub begun : (rest : List Pair) × (all_pairs space r ≡ r.pairs ++ rest)
  -- the entries from 1 on are made by strictly rising pairs below the bound
  pub entries_are : r.entries ≡ entry_of_initial space.initial ∷ map (λ m. entry_by (pair_at r.pairs m)) made
  pub rising : IsRising made
  pub within : All (λ m. m < length r.pairs) made
  -- the states of all entries differ
  pub distinct : AllPairs (λ (a b : Entry). a.state ≢ b.state) r.entries
  -- no pair below the bound leads to a goal state
  pub no_goal : All (λ (p : Pair). IsFalse (space.is_goal p.target)) r.pairs
  -- each target is dropped, or is the state of entry 0 or of an entry made by this pair or a lower one
  pub dropped_or_known : (m : ℕ) → m < length r.pairs →
      MayDrop (seen_before space r.pairs made m) (pair_at r.pairs m).target ⊎
      Contains (seen_before space r.pairs made (suc m)) (pair_at r.pairs m).target
  -- no entry is made by a pair whose target is dropped
  pub kept : All (λ m. MayKeep (seen_before space r.pairs made m) (pair_at r.pairs m).target) made
  -- each expanded entry is the first of those that were open
  pub in_order : (j : ℕ) → j < length r.expanded → IsFirstOpen rank r made j
