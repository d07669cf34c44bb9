use Rattle.std.proofs.Common.{◌≡◌, ◌≤◌, length}
use Rattle.pl_join_tests.proofs.tables.rebuilt.Given as goal

abbrev pub invariant-loop-place : goal.invariant-loop-place
invariant-loop-place g l = record {
  arity : l.builder.arity ≡ l.table.arity;
  few : length l.builder.rows ≤ l.place;
}
