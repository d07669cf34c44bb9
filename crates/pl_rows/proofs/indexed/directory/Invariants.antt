use Rattle.std.proofs.Common.{◌≡◌, ◌+◌}
use Rattle.pl_rows.proofs.Directory.{IsDirectoryUpTo}
use Rattle.pl_rows.proofs.indexed.directory.Given as goal

abbrev pub invariant-loop-i : goal.invariant-loop-i
invariant-loop-i g l = record {
  cost : l.steps ≡ l.initial.steps + l.i;
  up_to : IsDirectoryUpTo l.table.rows l.limit l.starts.items l.i;
}
