use Rattle.std.proofs.Common.{◌≡◌, ◌++◌, take}
use Rattle.pl_join.specs.Source.{picked}
use Rattle.pl_join.proofs.source.append_picked.Given as goal

abbrev pub invariant-loop-column : goal.invariant-loop-column
invariant-loop-column l = l.flat.items ≡ l.initial.flat.items ++ picked (take l.column-index l.columns) l.row
