use Rattle.std.proofs.Common.{◌≡◌, ◌++◌, take}
use Rattle.pl_rows.proofs.builder.append.Given as goal

abbrev pub invariant-loop-value : goal.invariant-loop-value
invariant-loop-value l = l.flat.items ≡ l.initial.flat.items ++ take l.value-index l.values
