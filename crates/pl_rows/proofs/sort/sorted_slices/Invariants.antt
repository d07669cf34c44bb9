use Rattle.std.proofs.Common.{◌≡◌, map, take}
use Rattle.pl_rows.specs.Rows.{rows_of}
use Rattle.pl_rows.proofs.sort.sorted_slices.Given as goal

abbrev pub invariant-loop-i : goal.invariant-loop-i
invariant-loop-i l = map (λ row. row.now) l.slices.items ≡ take l.i (rows_of l.arity l.count l.flat)
