-- What a width search answers, and what it leaves of its registry.
use Rattle.std.specs.Prelude.{◌≡◌, ℕ}
use Rattle.pl_task.specs.declared.task.Task.{Task}
use Rattle.pl_registry.specs.StateSpace.{space_of}
use Rattle.pl_registry.specs.SearchRecord.{SearchRecord, IsRecordUpTo}
use Rattle.pl_registry.specs.declared.ended.Stats.{Stats}
use Rattle.pl_registry.specs.Ending.{Ending, by_number, IsWidthEnding}
use Rattle.pl_registry.specs.Ending.Ending.{Found, Unsolvable, Exhausted, Limit}
use Rattle.pl_registry.specs.Novelty.{IsNovel, IsStale}
use Rattle.pl_registry.specs.Registered.{Register, entries_of}
use Rattle.pl_bfs.specs.declared.width_ended.WidthEnded.{WidthEnded}
use Rattle.pl_bfs.specs.declared.width_ended.WidthOutcome.{WidthOutcome}
use Rattle.pl_bfs.specs.declared.width_ended.WidthOutcome.TheVariants as outcome

abbrev pub ending_of_width : WidthOutcome → Ending
ending_of_width (outcome.Found plan) = Found plan
ending_of_width outcome.Unsolvable = Unsolvable
ending_of_width outcome.Exhausted = Exhausted
ending_of_width outcome.Limit = Limit

-- the search ended so, and the registry holds exactly the entries of the record that has this ending under
-- the registry's limit
pub record EndsByWidth (task : Task) (k : ℕ) (old new : Register) (ending : Ending)
    (stats : Stats) : Type 0 where
  pub of : SearchRecord
  pub is : IsWidthEnding (space_of task) task k old.limit of ending stats
  pub holds : entries_of task new ≡ of.entries
  pub limit : new.limit ≡ old.limit

-- the same of an outcome with its counts
abbrev pub IsWidth : Task → ℕ → Register → Register → WidthEnded → Type 0
IsWidth task k old new ended = EndsByWidth task k old new (ending_of_width ended.outcome) ended.stats

-- memory ran out: the registry holds the entries of a record that stands up to some bound
pub record IsWidthBrokenOff (task : Task) (k : ℕ) (old new : Register) : Type 0 where
  pub of : SearchRecord
  pub stands : IsRecordUpTo (space_of task) (IsStale task k) (IsNovel task k) by_number of
  pub holds : entries_of task new ≡ of.entries
  pub limit : new.limit ≡ old.limit
