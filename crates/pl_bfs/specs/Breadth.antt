-- What breadth-first search answers, and what it leaves of its registry.
use Rattle.std.specs.Prelude.{◌≡◌, ℕ, Bool, List, ⊤}
use Rattle.std.specs.Borrow.{Bor}
use denote.Param.Members.{Shared}
use Rattle.pl_task.specs.declared.task.Task.{Task}
use Rattle.pl_registry.specs.StateSpace.{space_of}
use Rattle.pl_registry.specs.SearchRecord.{SearchRecord, IsRecordUpTo}
use Rattle.pl_registry.specs.declared.ended.Ended.{Ended}
use Rattle.pl_registry.specs.declared.ended.Outcome.{Outcome}
use Rattle.pl_registry.specs.declared.ended.Outcome.TheVariants as outcome
use Rattle.pl_registry.specs.Ending.{IsEnding, ending_of, by_number}
use Rattle.pl_registry.specs.LeastPlan.{IsLeastPlan}
use Rattle.pl_registry.specs.Registered.{Register, entries_of}
pub use Rattle.pl_registry.specs.Fresh.{IsFresh}
pub use Rattle.pl_registry.specs.Probes.{search_bound}
pub use Rattle.pl_hooks.specs.Asked.{MayAnswer, MayDrop, MayKeep}

-- The search ended: how, and what it counted, is the ending of a record under the registry's limit, and the
-- registry holds exactly the entries of that record.
pub record IsBreadth {F : Type 0} (calls : Shared F (Bor (List ℕ) × Unit {0}) Bool) (task : Task) (cut : F)
    (old new : Register) (ended : Ended) : Type 0 where
  pub of : SearchRecord
  pub ending : IsEnding (space_of task) (MayDrop calls task cut) (MayKeep calls task cut) by_number old.limit
      of (ending_of ended.outcome) ended.stats
  pub holds : entries_of task new ≡ of.entries
  pub limit : new.limit ≡ old.limit

-- a plan that was found is the least of all plans
abbrev pub IsLeastIfFound : Task → Outcome → Type 0
IsLeastIfFound task (outcome.Found plan) = IsLeastPlan task plan
IsLeastIfFound task outcome.Unsolvable = ⊤
IsLeastIfFound task outcome.Limit = ⊤

-- memory ran out: the registry holds the entries of a record that stands up to some bound
pub record IsBrokenOff {F : Type 0} (calls : Shared F (Bor (List ℕ) × Unit {0}) Bool) (task : Task) (cut : F)
    (old new : Register) : Type 0 where
  pub of : SearchRecord
  pub stands : IsRecordUpTo (space_of task) (λ _. MayDrop calls task cut)
      (λ _. MayKeep calls task cut) by_number of
  pub holds : entries_of task new ≡ of.entries
  pub limit : new.limit ≡ old.limit
