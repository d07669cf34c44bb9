use Rattle.std.proofs.Common.{◌≡◌, ℕ, ◌+◌, ◌<◌, [], get_or}
use Rattle.std.specs.declared.cmp.Ordering.TheVariants.{Less}
use Rattle.pl_rows.specs.Rows.{rows_of, row_cmp}
use Rattle.pl_rows.proofs.sort.are_ascending.Given as goal

abbrev pub invariant-loop-i : goal.invariant-loop-i
invariant-loop-i l = (k : ℕ) → k + 1 < l.i →
    row_cmp (get_or (rows_of l.arity l.count l.flat) k [])
    (get_or (rows_of l.arity l.count l.flat) (k + 1) []) ≡ Less
