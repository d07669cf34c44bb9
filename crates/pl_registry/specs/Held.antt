-- A search by number under way: its record between two turns and within one, and a registry that holds its
-- entries.
use Rattle.std.specs.Prelude.{◌≡◌, ℕ, zero, suc, IsFalse, List, [], ◌∷◌, ◌++◌, map, length, All}
use Rattle.pl_task.specs.declared.task.Task.{Task}
use Rattle.pl_task.specs.Instance.{Instance}
use Rattle.pl_task.specs.States.{State}
use Rattle.pl_state.specs.StateOf.{state_in, IsStateOf}
use Rattle.pl_registry.specs.declared.ended.Stats.{Stats}
use Rattle.pl_registry.specs.StateSpace.{StateSpace}
use Rattle.pl_registry.specs.SearchRecord.{Pair, SearchRecord, entry_by, states_of, pair_by, all_pairs}
use Rattle.pl_registry.specs.SearchRecord.{IsRecordUpTo}
use Rattle.pl_registry.specs.Ending.{Ending, capped, by_number, IsEnding}
use Rattle.pl_registry.specs.Registered.{Register, Registered, registered_at, entries_of}

-- the numbers below n in order: the entries that are expanded in the first n turns of a search by number
abbrev pub turns : ℕ → List ℕ
turns zero = []
turns (suc n) = turns n ++ n ∷ []

-- the record with one more turn, that of entry t
abbrev pub with_turn : SearchRecord → ℕ → SearchRecord
with_turn r t = record { entries = r.entries; expanded = r.expanded ++ t ∷ []; pairs = r.pairs }

-- the record with one more pair, whose target is dropped or known
abbrev pub with_pair : SearchRecord → Pair → SearchRecord
with_pair r at = record { entries = r.entries; expanded = r.expanded; pairs = r.pairs ++ at ∷ [] }

-- the record with one more pair, whose target is registered
abbrev pub with_new : SearchRecord → Pair → SearchRecord
with_new r at = record {
  entries = r.entries ++ entry_by at ∷ [];
  expanded = r.expanded;
  pairs = r.pairs
      ++ at ∷ [];
}

-- the pair of the turn of entry t and a step
abbrev pub pair_in : StateSpace → SearchRecord → ℕ → Instance → Pair
pair_in space r t step = pair_by space r.entries t t step

-- between two turns: the entries below t were expanded, each in the turn of its number, and all their pairs
-- were tried
pub record IsBetweenTurns (space : StateSpace) (D K : List State → State → Type 0) (t : ℕ)
    (r : SearchRecord) : Type 0 where
  pub stands : IsRecordUpTo space D K by_number r
  pub turns_are : r.expanded ≡ turns t
  pub pairs_are : all_pairs space r ≡ r.pairs

-- in the turn of entry t: of the pairs of all turns that were begun, those are left that these steps make
pub record IsInTurn (space : StateSpace) (D K : List State → State → Type 0) (t : ℕ) (left : List Instance)
    (r : SearchRecord) : Type 0 where
  pub stands : IsRecordUpTo space D K by_number r
  pub turns_are : r.expanded ≡ turns (suc t)
  pub pairs_are : all_pairs space r ≡ r.pairs ++ map (pair_in space r t) left

-- the registered states
abbrev pub states_held : Task → Register → List State
states_held task now = states_of (entries_of task now)

-- the packed state with a number
abbrev pub state_at : Task → Register → ℕ → State
state_at task now n = state_in task (registered_at now.entries n).words

-- what stays while a search goes on that did not end at once
pub record IsUncutSearch (space : StateSpace) (K : State → Type 0) : Type 0 where
  pub no_goal : IsFalse (space.is_goal space.initial)
  pub kept : K space.initial

-- the registry holds the entries of the record, each a state of the task
pub record HoldsRecord (task : Task) (now : Register) (r : SearchRecord) : Type 0 where
  pub entries_are : entries_of task now ≡ r.entries
  pub states : All (λ (e : Registered). IsStateOf task e.words) now.entries

-- between two turns, and so many pairs were tried; the registry holds the entries
pub record HoldsBetweenTurns (task : Task) (space : StateSpace) (D K : List State → State → Type 0)
    (now : Register) (t generated : ℕ) : Type 0 where
  pub of : SearchRecord
  pub at : IsBetweenTurns space D K t of
  pub holds : HoldsRecord task now of
  pub counted : generated ≡ capped (length of.pairs)

-- in the turn of entry t, of whose steps these are left
pub record HoldsInTurn (task : Task) (space : StateSpace) (D K : List State → State → Type 0) (now : Register)
    (t : ℕ) (left : List Instance) (generated : ℕ) : Type 0 where
  pub of : SearchRecord
  pub at : IsInTurn space D K t left of
  pub holds : HoldsRecord task now of
  pub counted : generated ≡ capped (length of.pairs)

-- a search that cuts states, whatever was registered before, has ended, and the registry holds the entries of
-- its record
pub record HasEnded (task : Task) (space : StateSpace) (D K : State → Type 0) (limit : ℕ) (now : Register)
    (ending : Ending) (stats : Stats) : Type 0 where
  pub of : SearchRecord
  pub is : IsEnding space D K by_number limit of ending stats
  pub holds : entries_of task now ≡ of.entries

-- the registry holds the entries of a record that stands
pub record HoldsStanding (task : Task) (space : StateSpace) (D K : List State → State → Type 0)
    (now : Register) : Type 0 where
  pub of : SearchRecord
  pub stands : IsRecordUpTo space D K by_number of
  pub holds : entries_of task now ≡ of.entries
