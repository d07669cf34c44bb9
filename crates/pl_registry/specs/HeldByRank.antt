-- A search by any rank under way: its record between two turns and within one, and a registry that holds its
-- entries.
use Rattle.std.specs.Prelude.{◌≡◌, ℕ, List, [], ◌∷◌, ◌++◌, map, length}
use Rattle.pl_task.specs.declared.task.Task.{Task}
use Rattle.pl_task.specs.Instance.{Instance}
use Rattle.pl_task.specs.States.{State}
use Rattle.pl_registry.specs.declared.ended.Stats.{Stats}
use Rattle.pl_registry.specs.StateSpace.{StateSpace}
use Rattle.pl_registry.specs.SearchRecord.{SearchRecord, pair_by, all_pairs, IsRecordUpTo}
use Rattle.pl_registry.specs.Ending.{Ending, capped, IsEnding}
use Rattle.pl_registry.specs.Registered.{Register, entries_of}
use Rattle.pl_registry.specs.Held.{HoldsRecord}

-- between two turns: these entries were expanded, in this order, and all their pairs were tried
pub record IsBetweenRanked (space : StateSpace) (D K : List State → State → Type 0) (rank : State → ℕ)
    (past : List ℕ) (r : SearchRecord) : Type 0 where
  pub stands : IsRecordUpTo space D K rank r
  pub turns_are : r.expanded ≡ past
  pub pairs_are : all_pairs space r ≡ r.pairs

-- in the turn of entry t, after these: of the pairs of all turns that were begun, those are left that these
-- steps make
pub record IsInRanked (space : StateSpace) (D K : List State → State → Type 0) (rank : State → ℕ)
    (past : List ℕ) (t : ℕ) (left : List Instance) (r : SearchRecord) : Type 0 where
  pub stands : IsRecordUpTo space D K rank r
  pub turns_are : r.expanded ≡ past ++ t ∷ []
  pub pairs_are : all_pairs space r ≡ r.pairs ++ map (pair_by space r.entries (length past) t) left

module _ (task : Task) (space : StateSpace) (D K : State → Type 0) (rank : State → ℕ) where
  -- between two turns, and so many pairs were tried; the registry holds the entries
  pub record HoldsBetweenRanked (now : Register) (past : List ℕ) (generated : ℕ) : Type 0 where
    pub of : SearchRecord
    pub at : IsBetweenRanked space (λ _. D) (λ _. K) rank past of
    pub holds : HoldsRecord task now of
    pub counted : generated ≡ capped (length of.pairs)

  -- in the turn of entry t, of whose steps these are left
  pub record HoldsInRanked (now : Register) (past : List ℕ) (t : ℕ) (left : List Instance)
      (generated : ℕ) : Type 0 where
    pub of : SearchRecord
    pub at : IsInRanked space (λ _. D) (λ _. K) rank past t left of
    pub holds : HoldsRecord task now of
    pub counted : generated ≡ capped (length of.pairs)

  -- the search has ended after these entries were expanded, in this order, and the registry holds the entries
  -- of its record
  pub record HasEndedRanked (past : List ℕ) (limit : ℕ) (now : Register) (ending : Ending)
      (stats : Stats) : Type 0 where
    pub of : SearchRecord
    pub is : IsEnding space D K rank limit of ending stats
    pub turns_are : of.expanded ≡ past
    pub holds : entries_of task now ≡ of.entries

  -- the registry holds the entries of a record that stands
  pub record HoldsRanked (now : Register) : Type 0 where
    pub of : SearchRecord
    pub stands : IsRecordUpTo space (λ _. D) (λ _. K) rank of
    pub holds : entries_of task now ≡ of.entries
