use Rattle.std.proofs.Common.{◌≤◌, ◌-◌, length}
use Rattle.pl_names.specs.Entries.{IsNarrowed, begins_below}
use Rattle.pl_names.proofs.directory.first_from.Given as goal

abbrev pub invariant-loop-place : goal.invariant-loop-place
invariant-loop-place l = record {
  within : l.place ≤ length l.entries;
  narrowed : IsNarrowed (begins_below l.shift l.part) l.entries l.place (length l.entries);
}

abbrev pub decreases-loop-place : goal.decreases-loop-place
decreases-loop-place l = length l.entries - l.place
