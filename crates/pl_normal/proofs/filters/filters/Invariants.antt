use Rattle.std.proofs.Common.{◌≡◌, take}
use Rattle.pl_normal.specs.Filters.{sieves_of, local_among, late_among}
use Rattle.pl_normal.proofs.filters.filters.Given as goal

abbrev pub invariant-loop-literal : goal.invariant-loop-literal
invariant-loop-literal l =
    (l.filters.local.items ≡ local_among l.edges (sieves_of l.slots (take l.literal-index l.condition)))
    × (l.filters.late.items ≡ late_among l.edges (sieves_of l.slots (take l.literal-index l.condition)))
