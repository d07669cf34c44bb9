-- The ending that the code's outcome names, and what a search that ends so took.
use Rattle.std.specs.Prelude.{ℕ}
use Rattle.pl_task.specs.declared.task.Task.{Task}
use Rattle.pl_registry.specs.declared.ended.Stats.{Stats}
use Rattle.pl_registry.specs.declared.search.Search.{Search}
use Rattle.pl_registry.specs.Ending.{Ending}
use Rattle.pl_registry.specs.Ending.Ending.{Found, Unsolvable, Exhausted, Limit}
use Rattle.pl_top.specs.declared.search_end.SearchOutcome.{SearchOutcome}
use Rattle.pl_top.specs.declared.search_end.SearchOutcome.TheVariants as outcome
use Rattle.pl_top.specs.Searching.{IsSearchedBy}
use Rattle.pl_top.specs.Work.{IsSearchWithin}

abbrev pub ending_in : SearchOutcome → Ending
ending_in (outcome.Found plan) = Found plan
ending_in outcome.Unsolvable = Unsolvable
ending_in outcome.Exhausted = Exhausted
ending_in outcome.Limit = Limit

-- the search with this limit ends so, with these counts, and took no more probes than its bound
abbrev pub IsSearchedWithin : Task → Search → ℕ → Ending → Stats → ℕ → ℕ → Type 0
IsSearchedWithin task by limit ending stats before after =
    IsSearchedBy task by limit ending stats × IsSearchWithin task by limit before after
