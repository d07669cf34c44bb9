-- What greedy best-first search answers, and what it leaves of its registry.
use Rattle.std.specs.Prelude.{◌≡◌, ℕ, Bool, List}
use Rattle.std.specs.Borrow.{Bor}
use denote.Param.Members.{Shared}
use Rattle.pl_task.specs.declared.task.Task.{Task}
use Rattle.pl_task.specs.Goal.{unmet}
use Rattle.pl_registry.specs.StateSpace.{space_of}
use Rattle.pl_registry.specs.SearchRecord.{SearchRecord, IsRecordUpTo}
use Rattle.pl_registry.specs.declared.ended.Ended.{Ended}
use Rattle.pl_registry.specs.Ending.{IsEnding, ending_of}
use Rattle.pl_registry.specs.Registered.{Register, entries_of}
pub use Rattle.pl_registry.specs.Probes.{search_bound}
use Rattle.pl_hooks.specs.Asked.{MayDrop, MayKeep}

-- The search ended: how, and what it counted, is the ending of a record by the number of unmet goal literals,
-- under the registry's limit, and the registry holds exactly the entries of that record.
pub record IsGreedy {F : Type 0} (calls : Shared F (Bor (List ℕ) × Unit {0}) Bool) (task : Task) (cut : F)
    (old new : Register) (ended : Ended) : Type 0 where
  pub of : SearchRecord
  pub ending : IsEnding (space_of task) (MayDrop calls task cut) (MayKeep calls task cut)
      (unmet task) old.limit of (ending_of ended.outcome) ended.stats
  pub holds : entries_of task new ≡ of.entries
  pub limit : new.limit ≡ old.limit

-- memory ran out: the registry holds the entries of a record that stands up to some bound
pub record IsBrokenOff {F : Type 0} (calls : Shared F (Bor (List ℕ) × Unit {0}) Bool) (task : Task) (cut : F)
    (old new : Register) : Type 0 where
  pub of : SearchRecord
  pub stands : IsRecordUpTo (space_of task) (λ _. MayDrop calls task cut) (λ _. MayKeep calls task cut)
      (unmet task) of
  pub holds : entries_of task new ≡ of.entries
  pub limit : new.limit ≡ old.limit
