use Rattle.std.proofs.Common.{false, ◌≤◌, ◌-◌}
use Rattle.pl_rows.specs.Rows.{rows_of}
use Rattle.pl_rows.specs.Layout.{IsNarrowed, comes_before}
use Rattle.pl_rows.proofs.nearby.place_ahead.Given as goal

abbrev pub invariant-loop-stride : goal.invariant-loop-stride
invariant-loop-stride l = record {
  within : l.low ≤ l.count;
  small : l.stride ≤ l.low;
  narrowed : IsNarrowed (comes_before false l.row) (rows_of l.arity l.count l.flat) l.low l.count;
}

abbrev pub decreases-loop-stride : goal.decreases-loop-stride
decreases-loop-stride l = l.count - l.low
