use Rattle.std.proofs.Common.{◌≤◌, ◌-◌, length}
use Rattle.pl_names.specs.Entries.{IsNarrowed, is_below}
use Rattle.pl_names.proofs.entries.bisect.Given as goal

abbrev pub invariant-loop-low : goal.invariant-loop-low
invariant-loop-low l = record {
  within : l.high ≤ length l.entries;
  in_order : l.low ≤ l.high;
  from : l.fn.low ≤ l.low;
  to : l.high ≤ l.fn.high;
  narrowed : IsNarrowed (is_below l.key l.name) l.entries l.low l.high;
}

abbrev pub decreases-loop-low : goal.decreases-loop-low
decreases-loop-low l = l.high - l.low
