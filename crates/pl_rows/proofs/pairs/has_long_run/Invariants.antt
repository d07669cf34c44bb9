use Rattle.std.proofs.Common.{◌<◌, ℕ}
use Rattle.pl_rows.specs.Layout.{EndsLongRun}
use Rattle.pl_rows.proofs.pairs.has_long_run.Given as goal

abbrev pub invariant-loop-i : goal.invariant-loop-i
invariant-loop-i l = (place : ℕ) → place < l.i → EndsLongRun l.table.rows place → ⊥
