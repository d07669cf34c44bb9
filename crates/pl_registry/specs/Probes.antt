-- What searches may probe where all schemas are acyclic: no more than the bounds of the states that they
-- expand.
use Rattle.std.specs.Prelude.{◌≡◌, ◌<◌, ◌≤◌, ℕ, List, length}
use Rattle.std.specs.List.{sum_by}
use Rattle.pl_task.specs.declared.task.Task.{Task}
use Rattle.pl_normal.specs.Measures.{probe_bound}
use Rattle.pl_registry.specs.SearchRecord.{SearchRecord, entry_at}
use Rattle.pl_registry.specs.Registered.{Register, registered_at}
use Rattle.pl_registry.specs.Held.{state_at}

-- the bounds of the states that a search expanded
abbrev pub search_bound : Task → SearchRecord → ℕ
search_bound task r = sum_by (λ i. probe_bound task (entry_at r.entries i).state) r.expanded

-- the bounds of the states with these numbers
abbrev pub bound_of : Task → Register → List ℕ → ℕ
bound_of task now expanded = sum_by (λ i. probe_bound task (state_at task now i)) expanded

-- the entries that were there are there with the same numbers
pub record KeepsEntries (old new : Register) : Type 0 where
  pub many : length old.entries ≤ length new.entries
  pub same : (i : ℕ) → i < length old.entries → registered_at new.entries i ≡ registered_at old.entries i
