use Rattle.std.proofs.Common.{◌≤◌, ◌+◌, take}
use Rattle.pl_state.specs.StateOf.{state_in}
use Rattle.std.specs.List.{sum_by}
use Rattle.pl_gen.specs.Measures.{close_entry_probes}
use Rattle.pl_gen.specs.Walks.{AreAcyclic}
use Rattle.pl_gen.specs.Entries.{AreEntriesUpTo}
use Rattle.pl_gen.proofs.prepared.entries_of.Given as goal

abbrev pub invariant-loop-i : goal.invariant-loop-i
invariant-loop-i g l = AreEntriesUpTo l.normal (state_in l.normal l.words) l.i l.entries.items
    × (l.initial.steps ≤ l.steps)
    × (AreAcyclic l.normal → l.steps ≤ l.initial.steps + sum_by
    (close_entry_probes l.normal (state_in l.normal l.words)) (take l.i l.normal.schemas))
