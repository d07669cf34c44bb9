use Rattle.std.proofs.Common.{◌≡◌, drop}
use Rattle.pl_rows.specs.Layout.{takes_equal, comes_before}
use Rattle.pl_rows.proofs.bisect.is_before.Given as goal

abbrev pub invariant-loop-i : goal.invariant-loop-i
invariant-loop-i l = comes_before (takes_equal l.bound) l.prefix l.row ≡ comes_before (takes_equal l.bound)
    (drop l.i l.prefix) (drop l.i l.row)
