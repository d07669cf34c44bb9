use Rattle.std.proofs.Common.{◌≤◌, ◌-◌}
use Rattle.pl_rows.specs.Rows.{rows_of}
use Rattle.pl_rows.specs.Layout.{takes_equal, IsNarrowed, comes_before}
use Rattle.pl_rows.proofs.bisect.bisect.Given as goal

abbrev pub invariant-loop-low : goal.invariant-loop-low
invariant-loop-low l = record {
  within : l.high ≤ l.count;
  in_order : l.low ≤ l.high;
  from : l.fn.low ≤ l.low;
  to : l.high ≤ l.fn.high;
  narrowed : IsNarrowed (comes_before (takes_equal l.bound) l.prefix) (rows_of l.arity l.count l.flat) l.low
      l.high;
}

abbrev pub decreases-loop-low : goal.decreases-loop-low
decreases-loop-low l = l.high - l.low
